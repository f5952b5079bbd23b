-- What a line or a message gives, by cases.
use Rattle.std.proofs.Common.{◌≡◌, ℕ, ℤ, List, [], ◌∷◌, length, set, cond, Option, Some, None, Ok, Err, true, false, refl}
use Rattle.std.specs.Prelude.{Bool, Result, ◌==◌, not}
use Rattle.std.specs.Int.Signed.{le_z}
use Rattle.std.specs.List.{find, filter}
use Rattle.do_value.specs.declared.value.Value.{Value}
use Rattle.do_tree.specs.Lookup.{class_named, method_named}
use Rattle.do_tree.specs.Tree.{Script}
use Rattle.timeline.specs.Lines.{Identity, Request, Line, Why}
use Rattle.timeline.specs.Lines as line
use Rattle.timeline.specs.Switch.{Switch, Given, OpenFetch, gives_nothing, posts, prints, slot_of, free_slot, object_at, answers_to, calls_in, calls_method, calls_class, calls_object, is_known, tick_posts, closes, evicts, accepts, fetches_from, is_fit, routes, routes_from}
use Rattle.timeline.specs.declared.caller.Caller.{Caller}
use Rattle.timeline.specs.declared.caller.Caller.TheVariants as from
use Rattle.timeline.specs.declared.caller.Failure.{Failure}
use Rattle.timeline.specs.declared.caller.Failure.TheVariants as failure
use Rattle.timeline.specs.declared.event.Event.TheVariants as event
use Rattle.timeline.specs.declared.message.Message.{Message}
use Rattle.timeline.specs.declared.message.Message.TheVariants as message
use Rattle.switch_history.specs.Laws.{IsRefusal}

-- A line that calls no object.
abbrev pub IsNoCall : Result Request ℕ → Type 0
IsNoCall (Ok (line.calls number to method args)) = ⊥
IsNoCall body = Unit {0}

module _ (script : Script) (s : Switch) where
  -- The script has the class and the method of a call.
  pub record IsMethod (to : Identity) (number : ℕ) : Type 0 where
    pub class : ℕ
    pub method : List ℕ
    pub has_class : class_named script to.0 ≡ Some class
    pub has_method : method_named script class method ≡ Some number

  -- A call is refused, or posted to the slot of its object, or its object takes a free one.
  pub record OfCall (P : Given → Type 0) (caller : Caller) (to : Identity) : Type 0 where
    pub refused : (f : Failure) → IsRefusal f → P (answers_to s caller (Err f))
    pub posted : (number slot : ℕ) (args : List Value) (depth : ℕ) → IsMethod to number → slot_of s to ≡ Some slot
        → P (posts s ((slot, event.Call caller number args depth s.tick) ∷ []))
    pub bound : (number slot : ℕ) (args : List Value) (depth : ℕ) → IsMethod to number → free_slot s ≡ Some slot
        → P (posts (record s { objects = set s.objects slot (Some to) }) ((slot, event.Bind to) ∷ (slot, event.Call caller number args depth s.tick) ∷ []))

  -- so does each call
  pub by_call : (P : Given → Type 0) (caller : Caller) (to : Identity) (method : List ℕ) (args : List Value) (depth : ℕ) → OfCall P caller to
      → P (calls_object script s caller to method args depth)
  by_call P caller to method args depth of = at_class (class_named script to.0) refl
    where
      at_slot : (number : ℕ) (own free : Option ℕ) → IsMethod to number → slot_of s to ≡ own → free_slot s ≡ free
          → P (calls_in s to (event.Call caller number args depth s.tick) own free caller)
      at_slot number (Some slot) free is own_is free_is = of.posted number slot args depth is own_is
      at_slot number None (Some slot) is own_is free_is = of.bound number slot args depth is free_is
      at_slot number None None is own_is free_is = of.refused (failure.NoSlot (length s.objects)) tt

      at_method : (class : ℕ) (m : Option ℕ) → class_named script to.0 ≡ Some class → method_named script class method ≡ m → P (calls_method s caller to args depth m)
      at_method class None known named = of.refused failure.NoMethod tt
      at_method class (Some number) known named =
          at_slot number (slot_of s to) (free_slot s) (record { class = class; method = method; has_class = known; has_method = named }) refl refl

      at_class : (c : Option ℕ) → class_named script to.0 ≡ c → P (calls_class script s caller to method args depth c)
      at_class None known = of.refused failure.NoClass tt
      at_class (Some class) known = at_method class (method_named script class method) known refl

  -- What a line gives.
  pub record OfLine (P : Line → Given → Type 0) : Type 0 where
    pub calls : (at : ℕ) (number : ℤ) (to : Identity) (method : List ℕ) (args : List Value)
        → OfCall (P (record { number = at; body = Ok (line.calls number to method args) })) (from.Request at number) to
    pub ticked : (at : ℕ) (moment : ℤ)
        → P (record { number = at; body = Ok (line.ticks moment) }) (record { posts = tick_posts script moment 0 s.objects; lines = []; after = record s { tick = moment } })
    pub refused : (l : Line) (number : ℕ) (why : Why) → IsNoCall l.body → P l (prints s (line.refused number why))
    pub closed : (l : Line) (k : ℕ) (result : Result Value Failure) (fetch : OpenFetch) → IsNoCall l.body → find (λ fetch. fetch.k == k) s.unanswered ≡ Some fetch
        → P l (posts (record s { unanswered = filter (λ other. not (other.k == fetch.k)) s.unanswered }) ((fetch.slot, event.Answer fetch.incarnation fetch.number result s.tick) ∷ []))
    pub evicted : (at slot : ℕ) (object : Identity) → slot_of s object ≡ Some slot → is_known script object ≡ true
        → P (record { number = at; body = Ok (line.evicts object) }) (posts s ((slot, event.Evict s.tick) ∷ []))
    pub unknown : (at : ℕ) (object : Identity) → P (record { number = at; body = Ok (line.evicts object) }) (gives_nothing s)

  -- so does each line
  pub by_line : (P : Line → Given → Type 0) → OfLine P → (l : Line) → P l (accepts script s l)
  by_line P of l = at_body l.number l.body
    where
      at_tick : (at : ℕ) (moment : ℤ) (in_order : Bool) → le_z s.tick moment ≡ in_order
          → P (record { number = at; body = Ok (line.ticks moment) })
          (cond in_order (record { posts = tick_posts script moment 0 s.objects; lines = []; after = record s { tick = moment } }) (prints s (line.refused at line.backwards)))
      at_tick at moment true is = of.ticked at moment
      at_tick at moment false is = of.refused (record { number = at; body = Ok (line.ticks moment) }) at line.backwards tt

      at_fetch : (body : Result Request ℕ) (at k : ℕ) (result : Result Value Failure) (fetch : Option OpenFetch) → IsNoCall body
          → find (λ fetch. fetch.k == k) s.unanswered ≡ fetch → P (record { number = at; body = body }) (closes s at result fetch)
      at_fetch body at k result None is found = of.refused (record { number = at; body = body }) at line.no_fetch is
      at_fetch body at k result (Some fetch) is found = of.closed (record { number = at; body = body }) k result fetch is found

      at_known : (at slot : ℕ) (object : Identity) (known : Bool) → slot_of s object ≡ Some slot → is_known script object ≡ known
          → P (record { number = at; body = Ok (line.evicts object) }) (cond known (posts s ((slot, event.Evict s.tick) ∷ [])) (gives_nothing s))
      at_known at slot object true here known = of.evicted at slot object here known
      at_known at slot object false here known = of.unknown at object

      at_slot : (at : ℕ) (object : Identity) (slot : Option ℕ) → slot_of s object ≡ slot
          → P (record { number = at; body = Ok (line.evicts object) }) (evicts script s object slot)
      at_slot at object None here = of.unknown at object
      at_slot at object (Some slot) here = at_known at slot object (is_known script object) here refl

      at_body : (at : ℕ) (body : Result Request ℕ) → P (record { number = at; body = body }) (accepts script s (record { number = at; body = body }))
      at_body at (Ok (line.calls number to method args)) =
          by_call (P (record { number = at; body = Ok (line.calls number to method args) })) (from.Request at number) to method args 0 (of.calls at number to method args)
      at_body at (Ok (line.ticks moment)) = at_tick at moment (le_z s.tick moment) refl
      at_body at (Ok (line.fetched k value)) = at_fetch (Ok (line.fetched k value)) at k (Ok value) (find (λ fetch. fetch.k == k) s.unanswered) tt refl
      at_body at (Ok (line.fetch_failed k)) =
          at_fetch (Ok (line.fetch_failed k)) at k (Err failure.NoFetch) (find (λ fetch. fetch.k == k) s.unanswered) tt refl
      at_body at (Ok (line.evicts object)) = at_slot at object (slot_of s object) refl
      at_body at (Err why) = of.refused (record { number = at; body = Err why }) at (line.unreadable why) tt

  -- What a message gives.
  pub record OfMessage (P : ℕ × Message → Given → Type 0) : Type 0 where
    pub nothing : (sent : ℕ × Message) → P sent (gives_nothing s)
    pub replied : (slot : ℕ) (to : Caller) (result : Result Value Failure) → is_fit s to ≡ true → P (slot, message.Reply to result) (answers_to s to result)
    pub called : (slot incarnation number : ℕ) (to object : Identity) (method : List ℕ) (args : List Value) (depth : ℕ) → object_at s slot ≡ Some object
        → OfCall (P (slot, message.Call incarnation number to method args depth)) (from.Object slot incarnation number) to
    pub fetched : (slot incarnation number : ℕ) (value : Value) (object : Identity) → object_at s slot ≡ Some object
        → P (slot, message.Fetch incarnation number value) (fetches_from s slot incarnation number value object)

  -- so does each message
  pub by_message : (P : ℕ × Message → Given → Type 0) → OfMessage P → (sent : ℕ × Message) → P sent (routes script s sent)
  by_message P of sent = at_object sent.0 sent.1 (object_at s sent.0) refl
    where
      at_fit : (slot : ℕ) (to : Caller) (result : Result Value Failure) (fit : Bool) → is_fit s to ≡ fit
          → P (slot, message.Reply to result) (cond fit (answers_to s to result) (gives_nothing s))
      at_fit slot to result true is = of.replied slot to result is
      at_fit slot to result false is = of.nothing (slot, message.Reply to result)

      at_object : (slot : ℕ) (m : Message) (object : Option Identity) → object_at s slot ≡ object → P (slot, m) (routes_from script s slot m object)
      at_object slot m None is = of.nothing (slot, m)
      at_object slot (message.Reply to result) (Some object) is = at_fit slot to result (is_fit s to) refl
      at_object slot (message.Call incarnation number to method args depth) (Some object) is =
          by_call (P (slot, message.Call incarnation number to method args depth)) (from.Object slot incarnation number) to method args depth
          (of.called slot incarnation number to object method args depth is)
      at_object slot (message.Fetch incarnation number value) (Some object) is = of.fetched slot incarnation number value object is
