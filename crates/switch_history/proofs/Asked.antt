-- Answers are posted to those who asked.
use Rattle.std.proofs.Common.{◌≡◌, ◌∙◌, ℕ, ◌+◌, ℤ, List, [], ◌∷◌, ◌++◌, cond, Option, Some, None, Err, true, false, inl, inr, suc, refl, sym, subst}
use Rattle.std.specs.Prelude.{Bool, Result, ◌==◌, ◌⊎◌, not}
use Rattle.std.specs.List.{AllByRecursion, Contains, filter, list_any}
use Rattle.std.proofs.lemmas.Bool.{and_parts, or_cases, false≢true}
use Rattle.std.proofs.lemmas.List.Folds.{list_any-append}
use Rattle.std.proofs.lemmas.List.Elements.{Contains-append_cases, Contains-push}
use Rattle.do_value.specs.declared.value.Value.{Value}
use Rattle.do_tree.specs.Tree.{Script}
use Rattle.timeline.specs.Lines.{Identity}
use Rattle.timeline.specs.Replies.{same_caller, caller_of}
use Rattle.timeline.specs.Switch.{is_known, Switch, SwitchLog, Given, OpenFetch, IsSwitchRun, opened, begins, accepted as after_line, routed as after_message, answers_to, tick_posts}
use Rattle.timeline.specs.declared.caller.Caller.{Caller}
use Rattle.timeline.specs.declared.caller.Caller.TheVariants as from
use Rattle.timeline.specs.declared.caller.Failure.{Failure}
use Rattle.timeline.specs.declared.event.Event.{Event}
use Rattle.timeline.specs.declared.event.Event.TheVariants as event
use Rattle.timeline.specs.declared.message.Message.{Message}
use Rattle.timeline.specs.declared.message.Message.TheVariants as message
use Rattle.mailbox.specs.Posting.{of_slot}
use Rattle.object_messages.specs.Naming.{asked_by, asked_in, replied_by, replied_in, called_in, answered_by, answered_in}
use Rattle.switch_history.specs.Laws.{AreRepliesOwed}
use Rattle.switch_history.proofs.Cases.{OfCall, OfLine, OfMessage, by_line, by_message}
use Rattle.switch_history.proofs.Slots.{still_named, last_named, own_named, own, nothing_in, one_in, all_of_slot, all_append, all_weaker, all_filter, all_found}

-- What of a slot was routed: a call or a fetch, and a reply to one.
abbrev IsAsked : List (ℕ × Message) → ℕ → ℕ × ℕ → Type 0
IsAsked routed slot asked = Contains (asked_in (of_slot slot routed)) asked

abbrev IsReplied : List (ℕ × Message) → ℕ → ℕ × ℕ → Type 0
IsReplied routed slot asked = (other : ℕ) × Contains (replied_in (of_slot other routed)) (from.Object slot asked.0 asked.1)

-- A post comes of what was routed.
abbrev IsCause : List (ℕ × Message) → ℕ → Event → Type 0
IsCause routed slot (event.Call (from.Object other incarnation number) method args depth at) = IsAsked routed other (incarnation, number)
IsCause routed slot (event.Answer incarnation number result at) = IsAsked routed slot (incarnation, number) ⊎ IsReplied routed slot (incarnation, number)
IsCause routed slot e = Unit {0}

-- So does each post.
abbrev AreCaused : List (ℕ × Message) → List (ℕ × Event) → Type 0
AreCaused routed posts = AllByRecursion (λ (post : ℕ × Event). IsCause routed post.0 post.1) posts

-- An open fetch is of one that was routed.
abbrev IsOpenAsked : List (ℕ × Message) → OpenFetch → Type 0
IsOpenAsked routed fetch = IsAsked routed fetch.slot (fetch.incarnation, fetch.number)

-- So is each open fetch.
abbrev AreAsked : List (ℕ × Message) → List OpenFetch → Type 0
AreAsked routed fetches = AllByRecursion (IsOpenAsked routed) fetches

-- All posts and all open fetches come of what was routed.
record IsSound (routed : List (ℕ × Message)) (posts : List (ℕ × Event)) (fetches : List OpenFetch) : Type 0 where
  caused : AreCaused routed posts
  asked : AreAsked routed fetches

-- ---- what was routed stays
still_asked : (routed more : List (ℕ × Message)) (slot : ℕ) (asked : ℕ × ℕ) → IsAsked routed slot asked → IsAsked (routed ++ more) slot asked
still_asked routed more slot asked is = still_named asked_by slot routed more asked is

-- what comes of what was routed does so when more is routed
still_caused : (routed more : List (ℕ × Message)) (slot : ℕ) (e : Event) → IsCause routed slot e → IsCause (routed ++ more) slot e
still_caused routed more slot (event.Call (from.Object other incarnation number) method args depth at) is = still_asked routed more other (incarnation, number) is
still_caused routed more slot (event.Call (from.Request line number) method args depth at) is = tt
still_caused routed more slot (event.Answer incarnation number result at) (inl is) = inl (still_asked routed more slot (incarnation, number) is)
still_caused routed more slot (event.Answer incarnation number result at) (inr is) =
    inr (is.0, still_named replied_by is.0 routed more (from.Object slot incarnation number) is.1)
still_caused routed more slot (event.Bind identity) is = tt
still_caused routed more slot (event.Tick at) is = tt
still_caused routed more slot (event.Evict at) is = tt

-- so does all that is posted and open
still_sound : (routed more : List (ℕ × Message)) (posts : List (ℕ × Event)) (fetches : List OpenFetch) → IsSound routed posts fetches → IsSound (routed ++ more) posts fetches
still_sound routed more posts fetches is = record {
  caused = all_weaker (λ (post : ℕ × Event). IsCause routed post.0 post.1) (λ (post : ℕ × Event). IsCause (routed ++ more) post.0 post.1) posts
      (λ post. still_caused routed more post.0 post.1) is.caused;
  asked = all_weaker (λ (fetch : OpenFetch). IsAsked routed fetch.slot (fetch.incarnation, fetch.number))
      (λ (fetch : OpenFetch). IsAsked (routed ++ more) fetch.slot (fetch.incarnation, fetch.number)) fetches
      (λ fetch. still_asked routed more fetch.slot (fetch.incarnation, fetch.number)) is.asked;
}

-- a call or a fetch that is routed last is routed from its slot
last_asked : (routed : List (ℕ × Message)) (slot : ℕ) (m : Message) (asked : ℕ × ℕ) → asked_by m ≡ asked ∷ [] → IsAsked (routed ++ (slot, m) ∷ []) slot asked
last_asked routed slot m asked is =
    last_named asked_by slot routed ((slot, m) ∷ []) asked
    (own_named asked_by slot m asked (subst (λ (l : List (ℕ × ℕ)). Contains (l ++ []) asked) (sym is) (Contains-push [] asked)))

-- ---- a step adds what comes of what is routed
abbrev Adds : List (ℕ × Message) → List (ℕ × Event) → Given → Type 0
Adds routed before given = IsSound routed (before ++ given.posts) given.after.unanswered

module _ (script : Script) (s : Switch) (routed : List (ℕ × Message)) (before : List (ℕ × Event)) (sound : IsSound routed before s.unanswered) where
  -- posts that come of what was routed are added
  more : (fetches : List OpenFetch) (posts : List (ℕ × Event)) → AreAsked routed fetches → AreCaused routed posts → IsSound routed (before ++ posts) fetches
  more fetches posts asked caused = record {
    caused = all_append (λ (post : ℕ × Event). IsCause routed post.0 post.1) before posts sound.caused caused;
    asked = asked;
  }

  -- a result goes to a request as a line, and to an object that asked as an answer
  to_caller : (to : Caller) (result : Result Value Failure) → ((slot incarnation number : ℕ) → to ≡ from.Object slot incarnation number
      → IsAsked routed slot (incarnation, number) ⊎ IsReplied routed slot (incarnation, number)) → IsSound routed (before ++ (answers_to s to result).posts) (answers_to s to result).after.unanswered
  to_caller (from.Request line number) result is = more s.unanswered [] sound.asked tt
  to_caller (from.Object slot incarnation number) result is =
      more s.unanswered ((slot, event.Answer incarnation number result s.tick) ∷ []) sound.asked (is slot incarnation number refl, tt)

  -- ticks come of no message
  ticked : (moment : ℤ) (slot : ℕ) (objects : List (Option Identity)) → AreCaused routed (tick_posts script moment slot objects)
  ticked moment slot [] = tt
  ticked moment slot (None ∷ objects) = ticked moment (suc slot) objects
  ticked moment slot (Some object ∷ objects) =
      elim (is_known script object) as (λ (b : Bool). AreCaused routed (cond b ((slot, event.Tick moment) ∷ tick_posts script moment (suc slot) objects) (tick_posts script moment (suc slot) objects))) [
        | true ↦ (tt, ticked moment (suc slot) objects)
        | false ↦ ticked moment (suc slot) objects
      ]

  -- a call that is posted comes of the one that was routed
  call_caused : (caller : Caller) (slot method : ℕ) (args : List Value) (depth : ℕ) → ((other incarnation number : ℕ) → caller ≡ from.Object other incarnation number
      → IsAsked routed other (incarnation, number)) → IsCause routed slot (event.Call caller method args depth s.tick)
  call_caused (from.Request line number) slot method args depth is = tt
  call_caused (from.Object other incarnation number) slot method args depth is = is other incarnation number refl

  -- whatever becomes of a call, what is posted comes of it
  of_call : (caller : Caller) (to : Identity) → ((slot incarnation number : ℕ) → caller ≡ from.Object slot incarnation number → IsAsked routed slot (incarnation, number))
      → OfCall script s (Adds routed before) caller to
  of_call caller to is = record {
    refused = λ f _. to_caller caller (Err f) (λ slot incarnation number e. inl (is slot incarnation number e));
    posted = λ number slot args depth _ _. more s.unanswered ((slot, event.Call caller number args depth s.tick) ∷ []) sound.asked (call_caused caller slot number args depth is, tt);
    bound = λ number slot args depth _ _. more s.unanswered ((slot, event.Bind to) ∷ (slot, event.Call caller number args depth s.tick) ∷ []) sound.asked
        (tt, (call_caused caller slot number args depth is, tt));
  }

-- a request is no object
no_object : (line slot incarnation number : ℕ) (n : ℤ) {P : Type 0} → from.Request line n ≡ from.Object slot incarnation number → P
no_object line slot incarnation number n h = absurd (cc)

-- what a line posts comes of what was routed before
of_line : (script : Script) (s : Switch) (routed : List (ℕ × Message)) (before : List (ℕ × Event)) → IsSound routed before s.unanswered
    → OfLine script s (λ l given. Adds routed before given)
of_line script s routed before sound = record {
  calls = λ at number to method args. of_call script s routed before sound (from.Request at number) to (λ slot incarnation n e. no_object at slot incarnation n number e);
  ticked = λ at moment. more script s routed before sound s.unanswered (tick_posts script moment 0 s.objects) sound.asked (ticked script s routed before sound moment 0 s.objects);
  refused = λ l number why _. more script s routed before sound s.unanswered [] sound.asked tt;
  closed = λ l k result fetch _ found. more script s routed before sound (filter (λ other. not (other.k == fetch.k)) s.unanswered)
      ((fetch.slot, event.Answer fetch.incarnation fetch.number result s.tick) ∷ [])
      (all_filter (IsOpenAsked routed) (λ other. not (other.k == fetch.k)) s.unanswered sound.asked)
      (inl (all_found (IsOpenAsked routed) (λ other. other.k == k) s.unanswered fetch sound.asked found), tt);
  evicted = λ at slot object _ _. more script s routed before sound s.unanswered ((slot, event.Evict s.tick) ∷ []) sound.asked (tt, tt);
  unknown = λ at object. more script s routed before sound s.unanswered [] sound.asked tt;
}

-- a reply that is routed last names its caller
last_replied : (routed : List (ℕ × Message)) (slot other incarnation number : ℕ) (to : Caller) (result : Result Value Failure) → to ≡ from.Object slot incarnation number
    → IsReplied (routed ++ (other, message.Reply to result) ∷ []) slot (incarnation, number)
last_replied routed slot other incarnation number to result is = (
  other,
  last_named replied_by other routed ((other, message.Reply to result) ∷ []) (from.Object slot incarnation number)
      (own_named replied_by other (message.Reply to result) (from.Object slot incarnation number)
      (subst (λ (c : Caller). Contains (c ∷ []) (from.Object slot incarnation number)) (sym is) (Contains-push [] (from.Object slot incarnation number)))),
)

-- the same caller is the same call
same_asked : (routed : List (ℕ × Message)) (slot other incarnation number n k : ℕ) → IsAsked routed slot (incarnation, number)
    → from.Object slot incarnation number ≡ from.Object other n k → IsAsked routed other (n, k)
same_asked routed slot other incarnation number n k is same =
    let at_slot : slot ≡ other = cc in
    let at_incarnation : incarnation ≡ n = cc in
    let at_number : number ≡ k = cc in
    subst (λ (a : ℕ × ℕ × ℕ). IsAsked routed a.0 (a.1, a.2)) (λ i. (at_slot i, at_incarnation i, at_number i)) is

-- what a message posts comes of it or of what was routed before
of_message : (script : Script) (s : Switch) (routed : List (ℕ × Message)) (before : List (ℕ × Event)) → IsSound routed before s.unanswered
    → OfMessage script s (λ sent given. Adds (routed ++ sent ∷ []) before given)
of_message script s routed before sound = record {
  nothing = λ sent. more script s (routed ++ sent ∷ []) before (still sent) s.unanswered [] (still sent).asked tt;
  replied = λ slot to result _. to_caller script s (routed ++ (slot, message.Reply to result) ∷ []) before (still (slot, message.Reply to result)) to result
      (λ other incarnation number e. inr (last_replied routed other slot incarnation number to result e));
  called = λ slot incarnation number to object method args depth _.
      let m : Message = message.Call incarnation number to method args depth in
      of_call script s (routed ++ (slot, m) ∷ []) before (still (slot, m)) (from.Object slot incarnation number) to
      (λ other n k e. same_asked (routed ++ (slot, m) ∷ []) slot other incarnation number n k (last_asked routed slot m (incarnation, number) refl) e);
  fetched = λ slot incarnation number value object _.
      let m : Message = message.Fetch incarnation number value in
      let fetch : OpenFetch = record { k = s.fetches + 1; slot = slot; incarnation = incarnation; number = number } in
      more script s (routed ++ (slot, m) ∷ []) before (still (slot, m)) (s.unanswered ++ fetch ∷ []) []
      (all_append (λ (f : OpenFetch). IsAsked (routed ++ (slot, m) ∷ []) f.slot (f.incarnation, f.number)) s.unanswered (fetch ∷ []) (still (slot, m)).asked
      (last_asked routed slot m (incarnation, number) refl, tt)) tt;
}
  where
    still : (sent : ℕ × Message) → IsSound (routed ++ sent ∷ []) before s.unanswered
    still sent = still_sound routed (sent ∷ []) before s.unanswered sound

-- what a run posts comes of what it routed
run_sound : (script : Script) (named : List (Option Identity)) (log : SwitchLog) (s : Switch) → IsSwitchRun script (opened named) log s
    → IsSound log.routed log.posts s.unanswered
run_sound script named _ _ begins = record { caused = tt; asked = tt }
run_sound script named _ _ (after_line log s l run) =
    by_line script s (λ l given. Adds log.routed log.posts given) (of_line script s log.routed log.posts (run_sound script named log s run)) l
run_sound script named _ _ (after_message log s sent run) =
    by_message script s (λ sent given. Adds (log.routed ++ sent ∷ []) log.posts given) (of_message script s log.routed log.posts (run_sound script named log s run)) sent

-- ---- whom an answer and a call name
module _ (routed : List (ℕ × Message)) where
  -- an answer that names a call or a fetch comes of it, or of a reply to it
  answer_cause : (slot : ℕ) (asked : ℕ × ℕ) (e : Event) → IsCause routed slot e → Contains (answered_by e) asked → IsAsked routed slot asked ⊎ IsReplied routed slot asked
  answer_cause slot asked (event.Answer incarnation number result at) cause is =
      subst (λ (a : ℕ × ℕ). IsAsked routed slot a ⊎ IsReplied routed slot a) (one_in (incarnation, number) asked is) cause
  answer_cause slot asked (event.Call caller method args depth at) cause is = nothing_in asked is
  answer_cause slot asked (event.Bind identity) cause is = nothing_in asked is
  answer_cause slot asked (event.Tick at) cause is = nothing_in asked is
  answer_cause slot asked (event.Evict at) cause is = nothing_in asked is

  -- so does one among others
  answers_cause : (slot : ℕ) (asked : ℕ × ℕ) (es : List Event) → AllByRecursion (IsCause routed slot) es → Contains (answered_in es) asked
      → IsAsked routed slot asked ⊎ IsReplied routed slot asked
  answers_cause slot asked [] all is = nothing_in asked is
  answers_cause slot asked (e ∷ es) all is =
      elim (Contains-append_cases (answered_by e) (answered_in es) asked is) [
        | inl first ↦ answer_cause slot asked e all.0 first
        | inr later ↦ answers_cause slot asked es all.1 later
      ]

  -- a call by a caller comes of what was routed from its slot
  call_cause : (slot other incarnation number : ℕ) (e : Event) → IsCause routed other e → list_any (same_caller (from.Object slot incarnation number)) (caller_of e) ≡ true
      → IsAsked routed slot (incarnation, number)
  call_cause slot other incarnation number (event.Call (from.Object own_slot n k) method args depth at) cause is =
      elim (or_cases (same_caller (from.Object slot incarnation number) (from.Object own_slot n k)) false is) [
        | inl same ↦
            let parts = and_parts _ _ same in
            let first = and_parts _ _ parts.0 in
            let at_slot : slot ≡ own_slot = own slot own_slot first.0 in
            let at_incarnation : incarnation ≡ n = own incarnation n first.1 in
            let at_number : number ≡ k = own number k parts.1 in
            subst (λ (a : ℕ × ℕ × ℕ). IsAsked routed a.0 (a.1, a.2)) (λ i. (sym at_slot i, sym at_incarnation i, sym at_number i)) cause
        | inr none ↦ absurd (false≢true none)
      ]
  call_cause slot other incarnation number (event.Call (from.Request line n) method args depth at) cause is = absurd (false≢true is)
  call_cause slot other incarnation number (event.Answer n k result at) cause is = absurd (false≢true is)
  call_cause slot other incarnation number (event.Bind identity) cause is = absurd (false≢true is)
  call_cause slot other incarnation number (event.Tick at) cause is = absurd (false≢true is)
  call_cause slot other incarnation number (event.Evict at) cause is = absurd (false≢true is)

  -- so does one among others
  calls_cause : (slot other incarnation number : ℕ) (es : List Event) → AllByRecursion (IsCause routed other) es
      → list_any (same_caller (from.Object slot incarnation number)) (called_in es) ≡ true → IsAsked routed slot (incarnation, number)
  calls_cause slot other incarnation number [] all is = absurd (false≢true is)
  calls_cause slot other incarnation number (e ∷ es) all is =
      let named : Caller → Bool = same_caller (from.Object slot incarnation number) in
      elim (or_cases (list_any named (caller_of e)) (list_any named (called_in es)) (sym (list_any-append named (caller_of e) (called_in es)) ∙ is)) [
        | inl first ↦ call_cause slot other incarnation number e all.0 first
        | inr later ↦ calls_cause slot other incarnation number es all.1 later
      ]

-- an answer is posted to the object that asked, where replies go to callers alone
pub answers_asked : (script : Script) (named : List (Option Identity)) (log : SwitchLog) (s : Switch) → IsSwitchRun script (opened named) log s
    → AreRepliesOwed log → (slot : ℕ) (asked : ℕ × ℕ) → Contains (answered_in (of_slot slot log.posts)) asked → Contains (asked_in (of_slot slot log.routed)) asked
answers_asked script named log s run owed slot asked is =
    elim (answers_cause log.routed slot asked (of_slot slot log.posts) (all_of_slot (IsCause log.routed) slot log.posts sound.caused) is) [
      | inl own_asked ↦ own_asked
      | inr reply ↦
          calls_cause log.routed slot reply.0 asked.0 asked.1 (of_slot reply.0 log.posts) (all_of_slot (IsCause log.routed) reply.0 log.posts sound.caused)
          (owed reply.0 (from.Object slot asked.0 asked.1) reply.1)
    ]
  where
    sound : IsSound log.routed log.posts s.unanswered
    sound = run_sound script named log s run
