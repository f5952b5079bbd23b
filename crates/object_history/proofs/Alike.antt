-- Histories that are alike: what an incarnation says depends on these parts of the logs, and on what was kept before it.
use Rattle.std.proofs.Common.{◌≡◌, ◌∙◌, ap, sym, subst, refl, ℕ, zero, suc, ◌<◌, List, [], ◌∷◌, ◌++◌, drop, arith, Option, Some, None}
use Rattle.std.proofs.lemmas.List.{map-append}
use Rattle.std.proofs.lemmas.List.Elements.{Contains-append_left, filter-append}
use Rattle.std.specs.Prelude.{slice_get, ◌==◌}
use Rattle.std.specs.List.{Contains, flat_map}
use Rattle.do_tree.specs.Tree.{Script}
use Rattle.storage_map.specs.Contents.{Contents, apply}
use Rattle.storage_map.specs.declared.op.Op.{Op}
use Rattle.timeline.specs.Headline.{AreHalted, AreSaid, IsHalted, IsSoFar, down_said, missed_of}
use Rattle.timeline.specs.History.{Incarnation, of_number, entries_of, incarnation_at, incarnations, kept_batches, kept_before, start_after, said_in, resets_by, resets}
use Rattle.timeline.specs.Logs.{Fronted, Backed}
use Rattle.timeline.specs.Object.{State, idle, begun}
use Rattle.timeline.specs.Replies.{unanswered, resets_of}
use Rattle.timeline.specs.Told.{by_map, spoken, spoken_in, told, told_from}
use Rattle.timeline.specs.declared.back_log.Missed.{Missed}
use Rattle.timeline.specs.declared.back_log.Stop.{Stop}
use Rattle.timeline.specs.declared.caller.Cause.{Cause}
use Rattle.timeline.specs.declared.entry.Body.{Body}
use Rattle.timeline.specs.declared.entry.Body.TheVariants as body
use Rattle.timeline.specs.declared.entry.Entry.{Entry}
use Rattle.timeline.specs.declared.event.Event.{Event}

-- What two pairs of logs have of the number after an index is the same.
pub record IsAlike (front new_front : Fronted) (back new_back : Backed) (index : ℕ) : Type 0 where
  pub delivered : of_number (suc index) new_front.delivered ≡ of_number (suc index) front.delivered
  pub sent : entries_of (suc index) new_front.sent ≡ entries_of (suc index) front.sent
  pub stop : slice_get new_back.stops index ≡ slice_get back.stops index
  pub downed : of_number (suc index) new_front.downed ≡ of_number (suc index) front.downed
  pub missed : missed_of (suc index) new_back.downs ≡ missed_of (suc index) back.downs

-- The same batches were kept of it.
abbrev pub IsKeptAlike : (front new_front : Fronted) (back new_back : Backed) (index : ℕ) → Type 0
IsKeptAlike front new_front back new_back index =
    kept_batches (incarnation_at new_front new_back index) ≡ kept_batches (incarnation_at front back index)

-- Of what ended it the same is logged, and what was taken of it is there still.
pub record EndsAlike (front new_front : Fronted) (back new_back : Backed) (index : ℕ) : Type 0 where
  pub delivered : of_number (suc index) new_front.delivered ≡ of_number (suc index) front.delivered
  pub stop : slice_get new_back.stops index ≡ slice_get back.stops index
  pub taken : (b : Body) → Contains (said_in (entries_of (suc index) back.taken)) b → Contains (said_in (entries_of (suc index) new_back.taken)) b

-- So it is where more was taken behind it.
pub still_taken : (i : ℕ) (taken more : List Entry) (b : Body) → Contains (said_in (entries_of i taken)) b
    → Contains (said_in (entries_of i (taken ++ more))) b
still_taken i taken more b has =
    subst (λ (bodies : List Body). Contains bodies b)
    (sym (ap said_in (filter-append (λ (e : Entry). e.incarnation == i) taken more)
    ∙ map-append (λ (e : Entry). e.body) (entries_of i taken) (entries_of i more)))
    (Contains-append_left (said_in (entries_of i taken)) (said_in (entries_of i more)) b has)

-- Where an object stands that was delivered these, and started from this map.
abbrev pub stands_at : Script → ℕ → ℕ → Contents → List Event → State
stands_at script class number start events =
    (told_from by_map (record { script = script; class = class; incarnation = number }) start (idle (begun start.alarm)) events).state

-- The failures that an end leaves, by its stop, the events and the entries.
abbrev resets_as : Option Stop → List Event → List Entry → List Body
resets_as None events entries = []
resets_as (Some stop) events entries = resets_of stop.cause (unanswered events (said_in entries))

resets_are : (stop : Option Stop) (i : Incarnation) → resets_by stop i ≡ resets_as stop i.delivered i.sent
resets_are None i = refl
resets_are (Some stop) i = refl

-- All that decides whether an incarnation has said what it says.
record Seen : Type 0 where
  before : List Body
  calls : List Event
  missed : List Missed
  start : Contents
  delivered : List Event
  sent : List Entry

abbrev seen_at : Contents → Fronted → Backed → ℕ → Seen
seen_at opened front back index = record {
  before = resets (incarnations front back index);
  calls = of_number (suc index) front.downed;
  missed = missed_of (suc index) back.downs;
  start = start_after opened (incarnations front back index);
  delivered = of_number (suc index) front.delivered;
  sent = entries_of (suc index) front.sent;
}

abbrev SaysSo : Script → ℕ → ℕ → Seen → Type 0
SaysSo script class number seen =
    IsSoFar (spoken_in seen.before ∷ down_said seen.calls (drop 1 seen.missed)
    ∷ told (record { script = script; class = class; incarnation = number }) seen.start seen.delivered ∷ []) (spoken seen.sent)

module _ (front new_front : Fronted) (back new_back : Backed) where
  -- where the same was kept of each, the one after them starts with the same map
  pub same_kept : (n : ℕ) → ((index : ℕ) → index < n → IsKeptAlike front new_front back new_back index)
      → kept_before (incarnations new_front new_back n) ≡ kept_before (incarnations front back n)
  same_kept zero same = refl
  same_kept (suc index) same =
      ap (λ (batches : List (List Op)). batches ++ kept_batches (incarnation_at new_front new_back index)) (same_kept index (λ k less. same k (omega (arith, less))))
      ∙ ap (λ (batches : List (List Op)). kept_before (incarnations front back index) ++ batches) (same index (omega arith))

  pub same_start : (opened : Contents) (n : ℕ) → ((index : ℕ) → index < n → IsKeptAlike front new_front back new_back index)
      → start_after opened (incarnations new_front new_back n) ≡ start_after opened (incarnations front back n)
  same_start opened n same = ap (λ (batches : List (List Op)). apply opened (flat_map (λ ops. ops) batches)) (same_kept n same)

  -- the failures that the newest of them leaves are the same
  pub same_resets : (n : ℕ) → ((index : ℕ) → index < n → IsAlike front new_front back new_back index)
      → resets (incarnations new_front new_back n) ≡ resets (incarnations front back n)
  same_resets zero same = refl
  same_resets (suc index) same =
      let alike = same index (omega arith) in
      resets_are (slice_get new_back.stops index) (incarnation_at new_front new_back index)
      ∙ ap (λ (stop : Option Stop). resets_as stop (of_number (suc index) new_front.delivered) (entries_of (suc index) new_front.sent)) alike.stop
      ∙ ap (λ (events : List Event). resets_as (slice_get back.stops index) events (entries_of (suc index) new_front.sent)) alike.delivered
      ∙ ap (λ (entries : List Entry). resets_as (slice_get back.stops index) (of_number (suc index) front.delivered) entries) alike.sent
      ∙ sym (resets_are (slice_get back.stops index) (incarnation_at front back index))

  same_seen : (opened : Contents) (index : ℕ) → ((k : ℕ) → k < suc index → IsAlike front new_front back new_back k)
      → ((k : ℕ) → suc k < suc index → IsKeptAlike front new_front back new_back k)
      → seen_at opened new_front new_back index ≡ seen_at opened front back index
  same_seen opened index same kept =
      let alike = same index (omega arith) in
      let new : Seen = seen_at opened new_front new_back index in
      let old : Seen = seen_at opened front back index in
      ap (λ (bodies : List Body). record new { before = bodies }) (same_resets index (λ k less. same k (omega (arith, less))))
      ∙ ap (λ (calls : List Event). record new { before = old.before; calls = calls }) alike.downed
      ∙ ap (λ (missed : List Missed). record new { before = old.before; calls = old.calls; missed = missed }) alike.missed
      ∙ ap (λ (start : Contents). record new { before = old.before; calls = old.calls; missed = old.missed; start = start })
      (same_start opened index (λ k less. kept k (omega (arith, less))))
      ∙ ap (λ (events : List Event). record old { delivered = events; sent = new.sent }) alike.delivered
      ∙ ap (λ (entries : List Entry). record old { sent = entries }) alike.sent

  -- each of them has said what it says, where the others have
  pub same_said : (script : Script) (class : ℕ) (opened : Contents) (n : ℕ) → ((index : ℕ) → index < n → IsAlike front new_front back new_back index)
      → ((index : ℕ) → suc index < n → IsKeptAlike front new_front back new_back index)
      → AreSaid script class opened front back (incarnations front back n) → AreSaid script class opened new_front new_back (incarnations new_front new_back n)
  same_said script class opened zero same kept said = tt
  same_said script class opened (suc index) same kept said = (
    subst (SaysSo script class (suc index)) (sym (same_seen opened index same kept)) said.0,
    same_said script class opened index (λ k less. same k (omega (arith, less))) (λ k less. kept k (omega (arith, less))) said.1,
  )

  -- and has ended by a turn, where it has ended so
  halted_at : (script : Script) (class : ℕ) (opened : Contents) (index : ℕ) → EndsAlike front new_front back new_back index
      → start_after opened (incarnations new_front new_back index) ≡ start_after opened (incarnations front back index) → (cause : Cause)
      → IsHalted script class opened (incarnation_at front back index) (incarnations front back index) cause
      → IsHalted script class opened (incarnation_at new_front new_back index) (incarnations new_front new_back index) cause
  halted_at script class opened index alike starts cause halted = (
    ap (λ (start : Contents). stands_at script class (suc index) start (of_number (suc index) new_front.delivered)) starts
        ∙ ap (λ (events : List Event). stands_at script class (suc index) (start_after opened (incarnations front back index)) events) alike.delivered
        ∙ halted.0,
    alike.taken (body.Halt cause) halted.1,
  )

  pub same_halted : (script : Script) (class : ℕ) (opened : Contents) (n : ℕ) → ((index : ℕ) → index < n → EndsAlike front new_front back new_back index)
      → ((index : ℕ) → suc index < n → IsKeptAlike front new_front back new_back index)
      → AreHalted script class opened (incarnations front back n) → AreHalted script class opened (incarnations new_front new_back n)
  same_halted script class opened zero same kept halted = tt
  same_halted script class opened (suc index) same kept halted =
      let alike = same index (omega arith) in (
        (λ stop is by.
            halted_at script class opened index alike (same_start opened index (λ k less. kept k (omega (arith, less)))) stop.cause
            (halted.0 stop (sym alike.stop ∙ is) by)),
        same_halted script class opened index (λ k less. same k (omega (arith, less))) (λ k less. kept k (omega (arith, less))) halted.1,
      )
