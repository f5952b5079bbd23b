-- An entry that a back takes is a step of which the history speaks.
use Rattle.std.proofs.Common.{◌≡◌, ◌∙◌, ap, sym, refl, subst, inl, inr, ⊎_elim, true≢false, eqb-true, eq-eqb, ℕ, suc, ◌-◌, ◌≤◌, ◌==◌, List, [], ◌∷◌, ◌++◌, append-nil, length, arith, Option, Some, None}
use Rattle.std.proofs.lemmas.Bool.{ltb-true, ltb-false}
use Rattle.std.proofs.lemmas.Grind.{flat_map-append}
use Rattle.std.proofs.lemmas.List.Elements.{All-nil, All-cons}
use Rattle.std.specs.Prelude.{Bool, true, false, not, ◌&&◌, ◌||◌, nat_lt, if◌then◌else◌, is_some, option_to_list}
use Rattle.std.specs.List.{flat_map}
use Rattle.storage_map.specs.Contents.{Contents}
use Rattle.storage_map.specs.declared.ask.StoreAsk.{StoreAsk}
use Rattle.storage_map.specs.declared.op.Op.{Op}
use Rattle.timeline.specs.Logs.{backed}
use Rattle.timeline.specs.declared.back_log.Stop.{Stop}
use Rattle.timeline.specs.declared.caller.Cause.TheVariants as causes
use Rattle.timeline.specs.declared.entry.Body.{Body}
use Rattle.timeline.specs.declared.entry.Body.TheVariants as body
use Rattle.timeline.specs.declared.entry.Entry.{Entry}
use Rattle.timeline.specs.declared.message.Message.TheVariants as message
use Rattle.output_gate.specs.Ended.{AreInOrder, newest_as}
use Rattle.output_gate.specs.Entering.{Enters, Failed, MayFail, is_unfit, logged_as, notice_with, held_by, late_by, held_with, mode_by, mode_after, before_by, before_after}
use Rattle.output_gate.specs.Fits.{IsAsk, is_halt, comes_behind, fits_down, last_of}
use Rattle.output_gate.specs.Serving.{HaltsBy, IsBackAs}
use Rattle.output_gate.specs.Taking.{fit_as, fits_so, fit_of, is_mounted_mode, is_wanted, may_take, most_unflushed}
use Rattle.output_gate.specs.Held.{has_failed_read, is_held_halt, has_halt}
use Rattle.output_gate.specs.declared.back.Back.{Back}
use Rattle.output_gate.specs.declared.back.Ending.{Ending}
use Rattle.output_gate.specs.declared.back.Mode.{Mode}
use Rattle.output_gate.specs.declared.back.Mode.TheVariants.{Mounted, Wanted, Down}
use Rattle.output_gate.specs.declared.held.Held.{Held as BackHeld}
use Rattle.output_gate.specs.declared.held.HeldBody.{HeldBody}
use Rattle.output_gate.specs.declared.held.HeldBody.TheVariants.{Message, Sync, Halt}
use Rattle.object_history.proofs.GateStepping.{numbered_so}
use Rattle.object_history.proofs.Seeing.{steps_to}
use Rattle.object_history.specs.Pair.{Held, mounted, sync, halt}
use Rattle.object_history.specs.Seen.{held_for, held_of, stand_of, rear_of}
use Rattle.object_history.specs.Stepping.{BackSteps, IsUnended, is_end, takes_own, read_fails, takes_down, takes_late, holds, before_next, stands_after}

all_three : (a b c : Bool) → (a && b && c) ≡ true → (a ≡ true) × (b ≡ true) × (c ≡ true)
all_three true true true is = (refl, refl, refl)
all_three true true false is = absurd (true≢false (sym is))
all_three true false c is = absurd (true≢false (sym is))
all_three false b c is = absurd (true≢false (sym is))

not_true : (a : Bool) → not a ≡ true → a ≡ false
not_true true is = absurd (true≢false (sym is))
not_true false is = refl

same_eqb : (a b : ℕ) → a ≡ b → (a == b) ≡ true
same_eqb a b is = eq-eqb a b is

never_between : (a c d : Bool) → (a && false && c && d) ≡ true → ⊥
never_between true c d is = true≢false (sym is)
never_between false c d is = true≢false (sym is)

never_so : (a d : Bool) → (a && false && d) ≡ false
never_so true d = refl
never_so false d = refl

-- what is held of an entry, as the front's side sees it: a sync or a halt, which need all batches before them
own_seen : (before needs since number : ℕ) (b : Body) → flat_map held_of (held_by before needs since number b) ≡ holds number before b
own_seen before needs since number (body.Batch ops tail confirmed) = refl
own_seen before needs since number (body.Ask ask free) = refl
own_seen before needs since number (body.Bind identity) = refl
own_seen before needs since number body.Sync = refl
own_seen before needs since number (body.Message sent) = refl
own_seen before needs since number (body.Halt cause) = refl
own_seen before needs since number body.Mend = refl

down_seen : (before needs since number : ℕ) (b : Body) → fits_down b ≡ true → flat_map held_of (held_by before needs since number b) ≡ []
down_seen before needs since number (body.Batch ops tail confirmed) is = refl
down_seen before needs since number (body.Ask ask free) is = refl
down_seen before needs since number (body.Bind identity) is = refl
down_seen before needs since number body.Sync is = absurd (true≢false (sym is))
down_seen before needs since number (body.Message sent) is = refl
down_seen before needs since number (body.Halt cause) is = absurd (true≢false (sym is))
down_seen before needs since number body.Mend is = refl

-- Of an entry that comes late messages alone are held, whether one passes as it is or a reply's failure does.
late_seen : (stop : Option Stop) (late : Option ℕ) (settled incarnation : ℕ) (b : Body) → flat_map held_of (late_by stop late settled incarnation b) ≡ []
late_seen None late settled incarnation b = refl
late_seen (Some stop) (Some needs) settled incarnation (body.Message sent) = refl
late_seen (Some stop) None settled incarnation (body.Message (message.Reply to result)) = refl
late_seen (Some stop) None settled incarnation (body.Message (message.Call i n to method args depth)) = refl
late_seen (Some stop) None settled incarnation (body.Message (message.Fetch i n value)) = refl
late_seen (Some stop) (Some needs) settled incarnation (body.Batch ops tail confirmed) = refl
late_seen (Some stop) (Some needs) settled incarnation (body.Ask ask free) = refl
late_seen (Some stop) (Some needs) settled incarnation (body.Bind identity) = refl
late_seen (Some stop) (Some needs) settled incarnation body.Sync = refl
late_seen (Some stop) (Some needs) settled incarnation (body.Halt cause) = refl
late_seen (Some stop) (Some needs) settled incarnation body.Mend = refl
late_seen (Some stop) None settled incarnation (body.Batch ops tail confirmed) = refl
late_seen (Some stop) None settled incarnation (body.Ask ask free) = refl
late_seen (Some stop) None settled incarnation (body.Bind identity) = refl
late_seen (Some stop) None settled incarnation body.Sync = refl
late_seen (Some stop) None settled incarnation (body.Halt cause) = refl
late_seen (Some stop) None settled incarnation body.Mend = refl

before_seen : (n : ℕ) (b : Body) → before_by b n ≡ before_next n b
before_seen n (body.Batch ops tail confirmed) = omega (arith)
before_seen n (body.Ask ask free) = refl
before_seen n (body.Bind identity) = refl
before_seen n body.Sync = refl
before_seen n (body.Message sent) = refl
before_seen n (body.Halt cause) = refl
before_seen n body.Mend = refl

stand_seen : (ending : Ending) (b : Body) → stand_of (mode_by b (Down ending)) ≡ stands_after ending.cause b
stand_seen ending (body.Batch ops tail confirmed) = refl
stand_seen ending (body.Ask ask free) = refl
stand_seen ending (body.Bind identity) = refl
stand_seen ending body.Sync = refl
stand_seen ending (body.Message sent) = refl
stand_seen ending (body.Halt cause) = refl
stand_seen ending body.Mend = refl

-- An entry stands behind the last one: it isn't of a lower incarnation.
behind_as : (last e : Entry) (same : Bool) → (last.incarnation == e.incarnation) ≡ same
    → (if same then not (is_halt last.body) else nat_lt last.incarnation e.incarnation) ≡ true → last.incarnation ≤ e.incarnation
behind_as last e true is comes = omega (arith, eqb-true last.incarnation e.incarnation is)
behind_as last e false is comes = omega (arith, ltb-true last.incarnation e.incarnation comes)

above : (last : Option Entry) (e : Entry) → comes_behind last e ≡ true → newest_as last ≤ e.incarnation
above None e comes = omega (arith)
above (Some last) e comes = behind_as last e (last.incarnation == e.incarnation) refl comes

mounted_as : (mode : Mode) → is_mounted_mode mode ≡ true → stand_of mode ≡ mounted
mounted_as Mounted is = refl
mounted_as (Wanted ending) is = absurd (true≢false (sym is))
mounted_as (Down ending) is = absurd (true≢false (sym is))

-- what is asked
ask_of : (b : Body) → IsAsk b → (a : StoreAsk) × (free : Bool) × (b ≡ body.Ask a free)
ask_of (body.Ask a free) is = (a, free, refl)
ask_of (body.Batch ops tail confirmed) is = absurd is
ask_of (body.Bind identity) is = absurd is
ask_of body.Sync is = absurd is
ask_of (body.Message sent) is = absurd is
ask_of (body.Halt cause) is = absurd is
ask_of body.Mend is = absurd is

-- what is held without a halt has none for the front's side
none_ends : (held : List BackHeld) → has_halt held ≡ false → IsUnended (flat_map held_of held)
none_ends [] none = All-nil (λ h. is_end h.hold ≡ false)
none_ends (held ∷ rest) none = by held.body none (λ is. none_ends rest is)
  where
    by : (b : HeldBody) → (is_held_halt b || has_halt rest) ≡ false → (has_halt rest ≡ false → IsUnended (flat_map held_of rest))
        → IsUnended (held_for held.needs b ++ flat_map held_of rest)
    by (Message sent) none of_rest = of_rest none
    by (Sync number) none of_rest =
        All-cons (λ h. is_end h.hold ≡ false) (record { hold = sync number; needs = held.needs }) (flat_map held_of rest) refl (of_rest none)
    by (Halt cause) none of_rest = absurd (true≢false none)

module _ {D : Type 0} (moment_of : D → ℕ) (left_since : D → ℕ → List ℕ → Type 0) (told : D → Option (List ℕ)) (image : D → List ℕ → Type 0) (faults_of : D → ℕ)
    (start : List (List Op)) (opening : ℕ) (sound : Bool) (back later : Back D)
    (known : IsBackAs moment_of left_since told image faults_of start opening sound back) (may : may_take back ≡ true) (e : Entry) (failed : Failed)
    (enters : Enters failed back later e) (m n : Contents) where
  in_order : IsBackAs moment_of left_since told image faults_of start opening sound back → AreInOrder back.log.taken.items back.log.stops.items
  in_order (inl m) = m.logged.ordered
  in_order (inr u) = u.logged.ordered

  abbrev Steps : Failed → (x own on : Bool) → Type 0
  Steps f x own on = BackSteps (rear_of m back) (rear_of n later) (e ∷ []) (option_to_list (notice_with f (fit_as x own on) e m))

  -- what is held then, as the front's side sees it
  abbrev Holds : Failed → (x own on : Bool) → Type 0
  Holds f x own on = flat_map held_of later.held.items ≡ flat_map held_of back.held.items ++ flat_map held_of (held_with f (fit_as x own on) back e)

  logs_as : (x own on : Bool) → fit_of back e ≡ fit_as x own on → backed later.log ≡ logged_as (fit_as x own on) (backed back.log) e
  logs_as x own on is = enters.log ∙ ap (λ y. logged_as y (backed back.log) e) is

  held_seen : (x own on : Bool) → fit_of back e ≡ fit_as x own on → Holds failed x own on
  held_seen x own on is = ap (flat_map held_of) (enters.held ∙ ap (λ y. back.held.items ++ held_with failed y back e) is)
      ∙ flat_map-append held_of back.held.items (held_with failed (fit_as x own on) back e)

  stands_as : (x own on : Bool) → fit_of back e ≡ fit_as x own on → stand_of later.mode ≡ stand_of (mode_after (fit_as x own on) back.mode e.body)
  stands_as x own on is = ap stand_of (enters.mode ∙ ap (λ y. mode_after y back.mode e.body) is)

  counts_as : (x own on : Bool) → fit_of back e ≡ fit_as x own on → later.before ≡ before_after (fit_as x own on) back.before e.body
  counts_as x own on is = enters.before ∙ ap (λ y. before_after y back.before e.body) is

  -- Behind a halt nothing of its incarnation comes, and nothing is taken while the end by a read that failed is held, so no end is held.
  unended : comes_behind (last_of back.log.taken.items) e ≡ true → (e.incarnation == back.number) ≡ true → IsUnended (flat_map held_of back.held.items)
  unended comes own = by known
    where
      behind_halt : (last : Option Entry) (ending : Entry) → last ≡ Some ending → ending.incarnation ≡ back.number → is_halt ending.body ≡ true
          → comes_behind last e ≡ true → ⊥
      behind_halt None ending is number halts comes = absurd cc
      behind_halt (Some last) ending is number halts comes =
          let same : last ≡ ending = cc in
          let one : last.incarnation ≡ e.incarnation = ap (λ (x : Entry). x.incarnation) same ∙ number ∙ sym (eqb-true e.incarnation back.number own) in
          true≢false (sym comes
          ∙ ap (λ (b : Bool). if b then not (is_halt last.body) else nat_lt last.incarnation e.incarnation) (same_eqb last.incarnation e.incarnation one)
          ∙ ap not (ap (λ (x : Entry). is_halt x.body) same ∙ halts))

      none_failed : has_failed_read back.held.items ≡ true → ⊥
      none_failed failed_one =
          true≢false (sym may ∙ ap (λ (b : Bool). not back.stuck && not (is_wanted back.mode) && not b && nat_lt back.unflushed most_unflushed) failed_one
          ∙ never_so (not back.stuck && not (is_wanted back.mode)) (nat_lt back.unflushed most_unflushed))

      held_as_is : (has : Bool) → has_halt back.held.items ≡ has
          → (has ≡ true → (ending : Entry) × (last_of back.log.taken.items ≡ Some ending) × (ending.incarnation ≡ back.number) × HaltsBy ending back)
          → IsUnended (flat_map held_of back.held.items)
      held_as_is false is halted = none_ends back.held.items is
      held_as_is true is halted =
          let some = halted refl in
          absurd (⊎_elim (λ halts. behind_halt (last_of back.log.taken.items) some.0 some.1 some.2 halts.1 comes) (λ by. none_failed by.0) some.3)

      by : IsBackAs moment_of left_since told image faults_of start opening sound back → IsUnended (flat_map held_of back.held.items)
      by (inl m) = held_as_is (has_halt back.held.items) refl m.safe.halted
      by (inr u) = none_ends back.held.items u.safe.halts

  own_steps : (f : Failed) → MayFail f back e → Holds f true true true → fit_of back e ≡ fit_as true true true → comes_behind (last_of back.log.taken.items) e ≡ true
      → (e.incarnation == back.number) ≡ true → is_mounted_mode back.mode ≡ true → Steps f true true true
  own_steps None may_fail holds_so is comes own on =
      let incarnation : e.incarnation ≡ suc (length back.log.stops.items) =
      eqb-true e.incarnation back.number own ∙ numbered_so moment_of left_since told image faults_of start opening sound back known in
      steps_to (rear_of m back) later n (e ∷ []) _ _ (stand_of back.mode) (flat_map held_of back.held.items ++ holds e.number back.before e.body) (before_next back.before e.body) back.durable
      (takes_own e n (mounted_as back.mode on) incarnation (unended comes own)) (logs_as true true true is) (stands_as true true true is)
      (holds_so ∙ ap (λ (h : List Held). flat_map held_of back.held.items ++ h) (own_seen back.before back.needs back.number e.number e.body))
      (counts_as true true true is ∙ before_seen back.before e.body) enters.durable
  own_steps (Some counts) may_fail holds_so is comes own on =
      let incarnation : e.incarnation ≡ suc (length back.log.stops.items) =
      eqb-true e.incarnation back.number own ∙ numbered_so moment_of left_since told image faults_of start opening sound back known in
      let ask = ask_of e.body may_fail.1 in
      let ends : List Held = record { hold = halt (causes.Disk counts.0 counts.1); needs = back.before } ∷ [] in
      steps_to (rear_of m back) later n (e ∷ []) [] _ (stand_of back.mode) (flat_map held_of back.held.items ++ ends) back.before back.durable
      (read_fails e ask.0 ask.1 counts.0 counts.1 n (mounted_as back.mode on) incarnation (unended comes own) ask.2) (logs_as true true true is)
      (stands_as true true true is) holds_so (counts_as true true true is ∙ ap (λ (b : Body). before_by b back.before) ask.2) enters.durable

  never_fails : (f : Failed) (x own on : Bool) → MayFail f back e → fit_of back e ≡ fit_as x own on → (fit_as x own on ≡ fit_as true true true → ⊥) → f ≡ None
  never_fails None x own on may_fail is other = refl
  never_fails (Some counts) x own on may_fail is other = absurd (other (sym is ∙ may_fail.0))

  down_steps : (mode : Mode) → back.mode ≡ mode → Holds None true true false → fit_of back e ≡ fit_as true true false → (e.incarnation == back.number) ≡ true
      → is_mounted_mode mode ≡ false → fits_down e.body ≡ true → Steps None true true false
  down_steps Mounted at holds_so is own off fits = absurd (true≢false off)
  down_steps (Wanted ending) at holds_so is own off fits = absurd (never_between (not back.stuck) (not (has_failed_read back.held.items)) (nat_lt back.unflushed most_unflushed)
      (subst (λ (m : Mode). (not back.stuck && not (is_wanted m) && not (has_failed_read back.held.items) && nat_lt back.unflushed most_unflushed) ≡ true) at may))
  down_steps (Down ending) at holds_so is own off fits =
      let incarnation : e.incarnation ≡ suc (length back.log.stops.items) =
      eqb-true e.incarnation back.number own ∙ numbered_so moment_of left_since told image faults_of start opening sound back known in
      steps_to (rear_of m back) later n (e ∷ []) [] _ (stands_after ending.cause e.body) (flat_map held_of back.held.items) back.before back.durable
      (takes_down e ending.cause n (ap stand_of at) incarnation fits) (logs_as true true false is)
      (stands_as true true false is ∙ ap (λ (m : Mode). stand_of (mode_by e.body m)) at ∙ stand_seen ending e.body)
      (holds_so ∙ ap (λ (h : List Held). flat_map held_of back.held.items ++ h) (down_seen back.before back.before (back.number - 1) e.number e.body fits) ∙ append-nil _)
      (counts_as true true false is) enters.durable

  late_steps : (on : Bool) → Holds None true false on → fit_of back e ≡ fit_as true false on → comes_behind (last_of back.log.taken.items) e ≡ true → not (nat_lt back.number e.incarnation) ≡ true
      → (e.incarnation == back.number) ≡ false → Steps None true false on
  late_steps on holds_so is comes within other =
      let number = numbered_so moment_of left_since told image faults_of start opening sound back known in
      let most : e.incarnation ≤ back.number = ltb-false back.number e.incarnation (not_true (nat_lt back.number e.incarnation) within) in
      let differs : e.incarnation ≡ back.number → ⊥ = λ same. true≢false (sym (same_eqb e.incarnation back.number same) ∙ other) in
      let least = above (last_of back.log.taken.items) e comes in
      let incarnation : suc e.incarnation ≡ suc (length back.log.stops.items) = omega (arith, number, most, differs, least, (in_order known).newest) in
      steps_to (rear_of m back) later n (e ∷ []) [] _ (stand_of back.mode) (flat_map held_of back.held.items) back.before back.durable
      (takes_late e n incarnation) (logs_as true false on is) (stands_as true false on is)
      (holds_so ∙ ap (λ (h : List Held). flat_map held_of back.held.items ++ h) (late_seen _ back.late back.settled e.incarnation e.body) ∙ append-nil _)
      (counts_as true false on is) enters.durable

  abbrev fits : Bool
  fits = comes_behind (last_of back.log.taken.items) e && not (nat_lt back.number e.incarnation)
      && fits_so (e.incarnation == back.number) (is_mounted_mode back.mode) (is_some back.identity) e.body

  record AllFit : Type 0 where
    comes : comes_behind (last_of back.log.taken.items) e ≡ true
    within : not (nat_lt back.number e.incarnation) ≡ true
    so : fits_so (e.incarnation == back.number) (is_mounted_mode back.mode) (is_some back.identity) e.body ≡ true

  all_fit : fits ≡ true → AllFit
  all_fit is =
      let all = all_three (comes_behind (last_of back.log.taken.items) e) (not (nat_lt back.number e.incarnation))
      (fits_so (e.incarnation == back.number) (is_mounted_mode back.mode) (is_some back.identity) e.body) is in
      record { comes = all.0; within = all.1; so = all.2 }

  fit_is : (x own on : Bool) → fits ≡ x → (e.incarnation == back.number) ≡ own → is_mounted_mode back.mode ≡ on → fit_of back e ≡ fit_as x own on
  fit_is x own on is of_it stands = ap (λ (y : Bool). fit_as y (e.incarnation == back.number) (is_mounted_mode back.mode)) is
      ∙ ap (λ (y : Bool). fit_as x y (is_mounted_mode back.mode)) of_it ∙ ap (λ (y : Bool). fit_as x own y) stands

  steps_as : (x own on : Bool) → fits ≡ x → (e.incarnation == back.number) ≡ own → is_mounted_mode back.mode ≡ on → is_unfit (fit_as x own on) ≡ false
      → Steps failed x own on
  steps_as false own on is of_it stands fit_well = absurd (true≢false fit_well)
  steps_as true true true is of_it stands fit_well =
      let at = fit_is true true true is of_it stands in own_steps failed enters.may (held_seen true true true at) at (all_fit is).comes of_it stands
  steps_as true true false is of_it stands fit_well =
      let all = all_fit is in
      let down : fits_down e.body ≡ true = sym (ap (λ (y : Bool). fits_so y (is_mounted_mode back.mode) (is_some back.identity) e.body) of_it
      ∙ ap (λ (y : Bool). fits_so true y (is_some back.identity) e.body) stands) ∙ all.so in
      let at = fit_is true true false is of_it stands in
      let none = never_fails failed true true false enters.may at (λ same. cc) in
      subst (λ (f : Failed). Steps f true true false) (sym none)
      (down_steps back.mode refl (subst (λ (f : Failed). Holds f true true false) none (held_seen true true false at)) at of_it stands down)
  steps_as true false on is of_it stands fit_well =
      let all = all_fit is in
      let at = fit_is true false on is of_it stands in
      let none = never_fails failed true false on enters.may at (λ same. cc) in
      subst (λ (f : Failed). Steps f true false on) (sym none)
      (late_steps on (subst (λ (f : Failed). Holds f true false on) none (held_seen true false on at)) at all.comes all.within of_it)

  pub take_steps : is_unfit (fit_of back e) ≡ false → BackSteps (rear_of m back) (rear_of n later) (e ∷ []) (option_to_list (notice_with failed (fit_of back e) e m))
  take_steps fit_well = steps_as fits (e.incarnation == back.number) (is_mounted_mode back.mode) refl refl refl fit_well
