-- A message that waits to be routed is fit: its slot has an object, and so has the slot of the object to which it replies.
use Rattle.std.proofs.Common.{◌≡◌, ◌∙◌, ap, sym, subst, refl, arith, true≢false, ℕ, List, [], ◌∷◌, ◌++◌, cond, append_assoc, Option, Some}
use Rattle.std.proofs.lemmas.Bool.{and_parts}
use Rattle.std.proofs.lemmas.Bool.Decides.{nat_tests}
use Rattle.std.proofs.lemmas.List.Elements.{All-cons, All-contains, All-nil, All-weaker, Contains-append_left, Contains-append_right, Contains-push}
use Rattle.std.proofs.lemmas.List.Sorted.{list_any-IsPermutation}
use Rattle.std.specs.List.{All, AllByRecursion, Contains, flat_map, list_any}
use Rattle.std.specs.Prelude.{ℤ, pos, Bool, true, false, ◌||◌, ◌==◌, slice_get}
use Rattle.do_value.specs.declared.value.Value.{Value}
use Rattle.do_tree.specs.Tree.{Script}
use Rattle.lane.specs.Lanes.{Both, sent_on}
use Rattle.mailbox.specs.Posting.{of_slot}
use Rattle.object_core.specs.One.{messages}
use Rattle.object_core.specs.Owing.{IsOwed}
use Rattle.object_core.specs.Unmoved.{AllAreOwed, AllSayNothing}
use Rattle.object_core.specs.declared.object.Core.{Core}
use Rattle.object_front.specs.Came.{AreCome, events, kept}
use Rattle.object_messages.specs.Naming.{asked_by, asked_in, called_in, replied_by, replied_in}
use Rattle.placement.specs.Slots.{Slots, object_at}
use Rattle.mailbox.specs.Fit.{IsFit}
use Rattle.switch_history.specs.Placed.{HasObject, IsCalledFrom, IsPlaced, PostsArePlaced}
use Rattle.timeline.specs.Logs.{Fronted, fronted}
use Rattle.timeline.specs.Replies.{caller_of, same_caller}
use Rattle.timeline.specs.Switch as timeline
use Rattle.timeline.specs.Switch.{IsSwitchRun, SwitchLog, is_fit, opened}
use Rattle.timeline.specs.declared.caller.Caller.{Caller}
use Rattle.timeline.specs.declared.caller.Caller.TheVariants as from
use Rattle.timeline.specs.declared.event.Event.{Event}
use Rattle.timeline.specs.declared.event.Event.TheVariants as event
use Rattle.timeline.specs.declared.message.Message.{Message}
use Rattle.timeline.specs.declared.message.Message.TheVariants as message
use Rattle.host_core.proofs.Found.{found_flat, found_more, is_found, itself, passing_found, some_pass}
use Rattle.host_core.specs.Objects.{ObjectsTell, AreGoing}
use Rattle.host_core.specs.Slots.{IsGoing}
use Rattle.host_core.specs.declared.objects.Objects.{Objects}

-- ---- the events that were posted to one slot
module _ (s : timeline.Switch) (slot : ℕ) where
  abbrev IsOf : Event → Type 0
  IsOf e = HasObject s slot × IsCalledFrom s e

  same_slot : (n k : ℕ) → (n == k) ≡ true → n ≡ k
  same_slot n k is = grind (arith, nat_tests, is)

  placed_by : (b : Bool) (own : ℕ) (e : Event) (es : List Event) → (own == slot) ≡ b → IsPlaced s (own, e) → AllByRecursion IsOf es
      → AllByRecursion IsOf (cond b (e ∷ es) es)
  placed_by true own e es here is rest = ((subst (HasObject s) (same_slot own slot here) is.0, is.1), rest)
  placed_by false own e es away is rest = rest

  placed_of : (posts : List (ℕ × Event)) → AllByRecursion (IsPlaced s) posts → AllByRecursion IsOf (of_slot slot posts)
  placed_of [] all = tt
  placed_of (post ∷ posts) all = placed_by (post.0 == slot) post.0 post.1 (of_slot slot posts) refl all.0 (placed_of posts all.1)

  -- where some was, the slot has an object
  some_placed : (es : List Event) → AllByRecursion IsOf es → (es ≡ [] → ⊥) → HasObject s slot
  some_placed [] all some = absurd (some refl)
  some_placed (e ∷ es) all some = all.0.0

  -- who called and is an object has a slot
  same_from : (other incarnation number : ℕ) (caller : Caller) (method : ℕ) → IsCalledFrom s (event.Call caller method [] 0 (pos 0))
      → same_caller (from.Object other incarnation number) caller ≡ true → HasObject s other
  same_from other incarnation number (from.Object own i n) method is same =
      let parts = and_parts _ _ same in
      let first = and_parts _ _ parts.0 in
      subst (HasObject s) (sym (same_slot other own first.0)) is
  same_from other incarnation number (from.Request line n) method is same = absurd (true≢false (sym same))

  called_so : (caller : Caller) (method : ℕ) (args : List Value) (depth : ℕ) (at : ℤ) → IsCalledFrom s (event.Call caller method args depth at)
      → IsCalledFrom s (event.Call caller method [] 0 (pos 0))
  called_so (from.Object own i n) method args depth at is = is
  called_so (from.Request line n) method args depth at is = tt

  called_by : (b : Bool) (other : ℕ) (rest : Bool) → (b ≡ true → HasObject s other) → (rest ≡ true → HasObject s other) → (b || rest) ≡ true → HasObject s other
  called_by true other rest one later is = one refl
  called_by false other rest one later is = later is

  calls_from : (other incarnation number : ℕ) (es : List Event) → AllByRecursion IsOf es → list_any (same_caller (from.Object other incarnation number)) (called_in es) ≡ true
      → HasObject s other
  calls_from other incarnation number [] all is = absurd (true≢false (sym is))
  calls_from other incarnation number (event.Call caller method args depth at ∷ es) all is =
      called_by (same_caller (from.Object other incarnation number) caller) other (list_any (same_caller (from.Object other incarnation number)) (called_in es))
      (λ same. same_from other incarnation number caller method (called_so caller method args depth at all.0.1) same)
      (calls_from other incarnation number es all.1) is
  calls_from other incarnation number (event.Answer i n result at ∷ es) all is = calls_from other incarnation number es all.1 is
  calls_from other incarnation number (event.Bind identity ∷ es) all is = calls_from other incarnation number es all.1 is
  calls_from other incarnation number (event.Tick at ∷ es) all is = calls_from other incarnation number es all.1 is
  calls_from other incarnation number (event.Evict at ∷ es) all is = calls_from other incarnation number es all.1 is

-- what each message names is named by all
named_one : {X : Type 0} (f : Message → List X) (m : Message) (ms : List Message) (x : X) → f m ≡ x ∷ [] → Contains (f m ++ flat_map f ms) x
named_one {X} f m ms x is =
    subst (λ (xs : List X). Contains (xs ++ flat_map f ms) x) (sym is) (Contains-append_left (x ∷ []) (flat_map f ms) x (Contains-push [] x))

all_named : {X : Type 0} (f : Message → List X) (ms : List Message) → All (λ (n : Message). (y : X) → f n ≡ y ∷ [] → Contains (flat_map f ms) y) ms
all_named {X} f [] = All-nil (λ (n : Message). (y : X) → f n ≡ y ∷ [] → Contains (flat_map f []) y)
all_named {X} f (m ∷ ms) =
    All-cons (λ (n : Message). (y : X) → f n ≡ y ∷ [] → Contains (flat_map f (m ∷ ms)) y) m ms (named_one f m ms)
    (All-weaker (λ (n : Message). (y : X) → f n ≡ y ∷ [] → Contains (flat_map f ms) y) (λ (n : Message). (y : X) → f n ≡ y ∷ [] → Contains (flat_map f (m ∷ ms)) y)
    (λ n named y is. Contains-append_right (f m) (flat_map f ms) y (named y is)) ms (all_named f ms))

none_found : (p : Caller → Bool) (es : List Event) → list_any p (called_in es) ≡ true → es ≡ [] → ⊥
none_found p es found none = true≢false (sym found ∙ ap (λ (xs : List Event). list_any p (called_in xs)) none)

contains_none : {X : Type 0} (x : X) → Contains [] x → ⊥
contains_none {X} x has = All-contains (λ (y : X). ⊥) [] x (All-nil (λ (y : X). ⊥)) has

nothing_first : {X : Type 0} (xs ys : List X) → xs ++ ys ≡ [] → xs ≡ []
nothing_first [] ys is = refl
nothing_first (x ∷ xs) ys is = let no : ⊥ = cc in absurd no

-- ---- one object, to which these events were posted
module _ (log : Fronted) (posts got keeps lost more : List Event) (first : posts ≡ got ++ more) (come : AreCome got log keeps lost) (p : Caller → Bool) where
  abbrev finds : List Event → Bool
  finds es = list_any (λ (e : Event). list_any p (caller_of e)) es

  called_posted : list_any p (called_in (events log.delivered ++ events log.downed)) ≡ true → list_any p (called_in posts) ≡ true
  called_posted is =
      let others = log.dropped ++ (keeps ++ lost) in
      let was_got : finds got ≡ true =
      list_any-IsPermutation (λ (e : Event). list_any p (caller_of e)) got (events log.delivered ++ (events log.downed ++ others)) come.each
      ∙ ap finds (sym (append_assoc (events log.delivered) (events log.downed) others))
      ∙ found_more (λ (e : Event). list_any p (caller_of e)) (events log.delivered ++ events log.downed) others
      (sym (found_flat p caller_of (events log.delivered ++ events log.downed)) ∙ is) in
      found_flat p caller_of posts ∙ ap finds first ∙ found_more (λ (e : Event). list_any p (caller_of e)) got more was_got

module _ {D : Type 0} (moment_of : D → ℕ) (left_since : D → ℕ → List ℕ → Type 0) (told : D → Option (List ℕ)) (image : D → List ℕ → Type 0) (faults_of : D → ℕ)
    (limit : ℕ) (script : Script) (contents : ℕ → Option (List ℕ)) (named : Slots) (log : SwitchLog) (s : timeline.Switch) (objects : Objects D)
    (placed : PostsArePlaced) (owed : AllAreOwed moment_of left_since told image faults_of) (nothing : AllSayNothing moment_of left_since told image faults_of)
    (run : IsSwitchRun script (opened named) log s) (going : AreGoing moment_of left_since told image faults_of limit script contents named log objects)
    (tells : ObjectsTell told objects) (slot : ℕ) (core : Core D) (inbox : Both Event) (out : Both Message)
    (is_core : slice_get objects.cores.items slot ≡ Some core) (is_inbox : slice_get objects.inboxes.items slot ≡ Some inbox)
    (is_out : slice_get objects.outs.items slot ≡ Some out) where
  abbrev posts : List Event
  posts = of_slot slot log.posts

  abbrev front : Fronted
  front = fronted core.front.half.log

  abbrev gone : List Message
  gone = messages core.back.log.released.items

  own : IsGoing moment_of left_since told image faults_of limit script (contents slot) (object_at named slot) posts (of_slot slot log.routed) core inbox out
  own = going.each slot core inbox out is_core is_inbox is_out

  is_owed : IsOwed front gone
  is_owed = owed core script own.origin (tells slot core is_core) own.one

  all_placed : AllByRecursion (IsOf s slot) posts
  all_placed = placed_of s slot log.posts (placed script named log s run)

  -- what waits to be routed has left
  has_left : (m : Message) → Contains (sent_on out) m → Contains gone m
  has_left m has =
      let collected : Contains core.out.got m =
      subst (λ (ms : List Message). Contains ms m) (sym own.hands) (Contains-append_right own.taken_before (sent_on out) m has) in
      let sent : Contains (sent_on core.out) m = Contains-append_left core.out.got core.out.waiting m collected in
      subst (λ (ms : List Message). Contains ms m) (sym own.one.left) (Contains-append_right own.origin.left (sent_on core.out) m sent)

  -- where nothing was posted the front got nothing
  got_none : posts ≡ [] → core.inbox.got ≡ []
  got_none none =
      nothing_first core.inbox.got core.inbox.waiting
      (own.gives
      ∙ nothing_first (own.given_before ++ inbox.got) inbox.waiting (append_assoc own.given_before inbox.got inbox.waiting ∙ own.posted ∙ none))

  named_in : {X : Type 0} (f : Message → List X) (m : Message) (x : X) (ms : List Message) → Contains ms m → f m ≡ x ∷ [] → Contains (flat_map f ms) x
  named_in {X} f m x ms has is =
      All-contains (λ (n : Message). (y : X) → f n ≡ y ∷ [] → Contains (flat_map f ms) y) ms m (all_named f ms) has x is

  -- a call or a fetch that left was sent, so that something was posted
  asked_posted : (m : Message) (asked : ℕ × ℕ) → Contains gone m → asked_by m ≡ asked ∷ [] → posts ≡ [] → ⊥
  asked_posted m asked has is none =
      contains_none asked (subst (λ (ms : List Message). Contains (asked_in ms) asked)
      (nothing core script own.origin (tells slot core is_core) own.one (got_none none))
      (is_owed.asked asked (named_in asked_by m asked gone has is)))

  -- who is replied to called
  replied_posted : (to : Caller) (m : Message) → Contains gone m → replied_by m ≡ to ∷ [] → list_any (same_caller to) (called_in posts) ≡ true
  replied_posted to m has is =
      let found : list_any (same_caller to) (replied_in gone) ≡ true =
      is_found (same_caller to) (replied_in gone) to (named_in replied_by m to gone has is) (itself to) in
      let some = some_pass (same_caller to) (replied_in gone) found in
      called_posted front posts core.inbox.got (kept own.one.st) own.one.has_got.lost (core.inbox.waiting ++ inbox.waiting)
      (sym own.posted ∙ sym (append_assoc own.given_before inbox.got inbox.waiting) ∙ ap (λ (es : List Event). es ++ inbox.waiting) (sym own.gives) ∙ append_assoc core.inbox.got core.inbox.waiting inbox.waiting)
      own.one.has_got.come (same_caller to)
      (passing_found (same_caller to) (called_in (events front.delivered ++ events front.downed)) (omega (arith, some, is_owed.replies to)))

  fits_reply : (to : Caller) → list_any (same_caller to) (called_in posts) ≡ true → is_fit s to ≡ true
  fits_reply (from.Request line number) found = refl
  fits_reply (from.Object other incarnation number) found = calls_from s slot other incarnation number posts all_placed found

  pub message_fits : (m : Message) → Contains (sent_on out) m → IsFit s (slot, m)
  message_fits (message.Reply to result) has =
      let found = replied_posted to (message.Reply to result) (has_left (message.Reply to result) has) refl in record {
        comes = some_placed s slot posts all_placed (none_found (same_caller to) posts found);
        replies = fits_reply to found;
      }
  message_fits (message.Call incarnation number to method args depth) has =
      let m : Message = message.Call incarnation number to method args depth in record {
        comes = some_placed s slot posts all_placed (asked_posted m (incarnation, number) (has_left m has) refl);
        replies = refl;
      }
  message_fits (message.Fetch incarnation number value) has =
      let m : Message = message.Fetch incarnation number value in record {
        comes = some_placed s slot posts all_placed (asked_posted m (incarnation, number) (has_left m has) refl);
        replies = refl;
      }
