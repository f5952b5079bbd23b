-- A line that tells of an end is that of a routed message that does.
use Rattle.std.proofs.Common.{◌≡◌, ℕ, ℤ, suc, List, [], ◌∷◌, ◌++◌, Option, Some, None, Ok, Err, true, false, sym, subst, refl}
use Rattle.std.specs.Int.Signed.{le_z}
use Rattle.std.specs.Prelude.{Bool, Result, ◌==◌, if◌then◌else◌}
use Rattle.std.specs.List.{All, Contains, find}
use Rattle.std.proofs.lemmas.List.Elements.{All-nil, All-cons, All-append, All-weaker, Contains-append_left, Contains-push}
use Rattle.do_value.specs.declared.value.Value.{Value}
use Rattle.do_tree.specs.Lookup.{class_named, method_named}
use Rattle.do_tree.specs.Tree.{Script}
use Rattle.object_messages.specs.Ends.{is_failed_by_end, is_of_end, tells_end}
use Rattle.timeline.specs.Lines.{Identity, Request, OutLine, Line}
use Rattle.timeline.specs.Lines as line
use Rattle.timeline.specs.Switch.{Switch, SwitchLog, OpenFetch, Given, IsSwitchRun, opened, begins, accepted as after_line, routed as after_message, accepts, accepts_body, accepts_request, answers_to, answers_fetch, calls_class, calls_in, calls_method, calls_object, closes, evicts, free_slot, gives_nothing, is_fit, is_known, object_at, posts, prints, routes, routes_from, slot_of, tick_posts, ticks}
use Rattle.timeline.specs.declared.caller.Caller.{Caller}
use Rattle.timeline.specs.declared.caller.Caller.TheVariants as from
use Rattle.timeline.specs.declared.caller.Failure.{Failure}
use Rattle.timeline.specs.declared.caller.Failure.TheVariants as failure
use Rattle.timeline.specs.declared.event.Event.{Event}
use Rattle.timeline.specs.declared.event.Event.TheVariants as event
use Rattle.timeline.specs.declared.message.Message.{Message}
use Rattle.timeline.specs.declared.message.Message.TheVariants as message
use Rattle.switch_history.specs.Ends.{EndsAreRouted, IsRoutedEnd, IsToldBy}

-- one of two
either_routed : (routed : List (ℕ × Message)) (b : Bool) (one other : Given) → All (IsRoutedEnd routed) one.lines → All (IsRoutedEnd routed) other.lines
    → All (IsRoutedEnd routed) (if b then one else other).lines
either_routed routed true one other first second = first
either_routed routed false one other first second = second

module _ (script : Script) (s : Switch) (routed : List (ℕ × Message)) where
  abbrev AreRouted : Given → Type 0
  AreRouted given = All (IsRoutedEnd routed) given.lines

  -- no line
  none : All (IsRoutedEnd routed) []
  none = All-nil (IsRoutedEnd routed)

  -- one line
  one : (out : OutLine) → IsRoutedEnd routed out → All (IsRoutedEnd routed) (out ∷ [])
  one out is = All-cons (IsRoutedEnd routed) out [] is none

  -- an answer
  answer_routed : (caller : Caller) (result : Result Value Failure) → (is_failed_by_end result ≡ true → IsToldBy routed) → AreRouted (answers_to s caller result)
  answer_routed (from.Request at number) (Ok value) told = one (line.reply number value) tt
  answer_routed (from.Request at number) (Err f) told = one (line.error number f) told
  answer_routed (from.Object slot incarnation number) result told = none

  -- a refusal tells of no end
  refused_routed : (caller : Caller) (f : Failure) → is_of_end f ≡ false → AreRouted (answers_to s caller (Err f))
  refused_routed caller f is = answer_routed caller (Err f) (λ told. absurd (differ (sym is) told))
    where
      differ : false ≡ is_of_end f → is_of_end f ≡ true → ⊥
      differ first second = let no : ⊥ = cc in no

  -- a call
  in_slot_routed : (to : Identity) (call : Event) (slot free : Option ℕ) (caller : Caller) → AreRouted (calls_in s to call slot free caller)
  in_slot_routed to call (Some slot) free caller = none
  in_slot_routed to call None (Some slot) caller = none
  in_slot_routed to call None None caller = refused_routed caller _ refl

  method_routed : (caller : Caller) (to : Identity) (args : List Value) (depth : ℕ) (method : Option ℕ) → AreRouted (calls_method s caller to args depth method)
  method_routed caller to args depth None = refused_routed caller failure.NoMethod refl
  method_routed caller to args depth (Some method) =
      in_slot_routed to (event.Call caller method args depth s.tick) (slot_of s to) (free_slot s) caller

  class_routed : (caller : Caller) (to : Identity) (method : List ℕ) (args : List Value) (depth : ℕ) (class : Option ℕ)
      → AreRouted (calls_class script s caller to method args depth class)
  class_routed caller to method args depth None = refused_routed caller failure.NoClass refl
  class_routed caller to method args depth (Some class) = method_routed caller to args depth (method_named script class method)

  object_routed : (caller : Caller) (to : Identity) (method : List ℕ) (args : List Value) (depth : ℕ) → AreRouted (calls_object script s caller to method args depth)
  object_routed caller to method args depth = class_routed caller to method args depth (class_named script to.0)

  -- an answer to a fetch
  fetch_routed : (number : ℕ) (result : Result Value Failure) (fetch : Option OpenFetch) → AreRouted (closes s number result fetch)
  fetch_routed number result None = one (line.refused number line.no_fetch) tt
  fetch_routed number result (Some fetch) = none

  -- an eviction
  eviction_routed : (object : Identity) (slot : Option ℕ) → AreRouted (evicts script s object slot)
  eviction_routed object None = none
  eviction_routed object (Some slot) = either_routed routed (is_known script object) _ (gives_nothing s) none none

  request_routed : (at : ℕ) (request : Request) → AreRouted (accepts_request script s at request)
  request_routed at (line.calls number to method args) = object_routed (from.Request at number) to method args 0
  request_routed at (line.ticks moment) = either_routed routed (le_z s.tick moment) _ _ none (one (line.refused at line.backwards) tt)
  request_routed at (line.fetched k value) = fetch_routed at (Ok value) (find (λ fetch. fetch.k == k) s.unanswered)
  request_routed at (line.fetch_failed k) = fetch_routed at (Err failure.NoFetch) (find (λ fetch. fetch.k == k) s.unanswered)
  request_routed at (line.evicts object) = eviction_routed object (slot_of s object)

  -- each line of the input
  body_routed : (at : ℕ) (body : Result Request ℕ) → AreRouted (accepts_body script s at body)
  body_routed at (Ok request) = request_routed at request
  body_routed at (Err why) = one (line.refused at (line.unreadable why)) tt

  -- each message
  from_routed : (slot : ℕ) (sent : Message) (object : Option Identity) → Contains routed (slot, sent) → AreRouted (routes_from script s slot sent object)
  from_routed slot sent None there = none
  from_routed slot (message.Reply to result) (Some object) there =
      either_routed routed (is_fit s to) (answers_to s to result) (gives_nothing s)
      (answer_routed to result (λ tells. record { sent = (slot, message.Reply to result); there = there; tells = tells })) none
  from_routed slot (message.Call incarnation number to method args depth) (Some object) there =
      object_routed (from.Object slot incarnation number) to method args depth
  from_routed slot (message.Fetch incarnation number value) (Some object) there = one _ tt

-- What is told by some messages is told by more.
pub still_routed : (routed more : List (ℕ × Message)) (out : OutLine) → IsRoutedEnd routed out → IsRoutedEnd (routed ++ more) out
still_routed routed more (line.error number f) is = λ told. let by = is told in
    record { sent = by.sent; there = Contains-append_left routed more by.sent by.there; tells = by.tells }
still_routed routed more (line.reply number value) is = tt
still_routed routed more (line.fetch k object value) is = tt
still_routed routed more (line.refused at why) is = tt
still_routed routed more (line.waiting number on) is = tt

-- So over a run.
run_routed : (script : Script) (named : List (Option Identity)) (log : SwitchLog) (s : Switch) → IsSwitchRun script (opened named) log s
    → All (IsRoutedEnd log.routed) log.lines
run_routed script named _ _ begins = All-nil (IsRoutedEnd [])
run_routed script named _ _ (after_line log s l run) =
    All-append (IsRoutedEnd log.routed) log.lines (accepts script s l).lines (run_routed script named log s run)
    (body_routed script s log.routed l.number l.body)
run_routed script named _ _ (after_message log s sent run) =
    let routed : List (ℕ × Message) = log.routed ++ sent ∷ [] in
    All-append (IsRoutedEnd routed) log.lines (routes script s sent).lines
    (All-weaker (IsRoutedEnd log.routed) (IsRoutedEnd routed) (λ out is. still_routed log.routed (sent ∷ []) out is) log.lines
    (run_routed script named log s run))
    (from_routed script s routed sent.0 sent.1 (object_at s sent.0) (Contains-push log.routed sent))

pub ends_routed : EndsAreRouted
ends_routed = record {
  run = run_routed;
  line = λ script s l routed. body_routed script s routed l.number l.body;
  message = λ script s sent routed there. from_routed script s routed sent.0 sent.1 (object_at s sent.0) there;
}
