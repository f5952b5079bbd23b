-- Which entries fit one another on the line to a back, and what a front takes that its class fits.
use Rattle.std.specs.Prelude.{◌≡◌, Bool, true, false, List, [], ◌∷◌, Option, Some, ℕ}
use Rattle.do_tree.specs.Tree.{Script}
use Rattle.timeline.specs.Eligible.{is_fit}
use Rattle.timeline.specs.History.{is_halting}
use Rattle.timeline.specs.Intake.{Taken, delivered, noticed, wanted}
use Rattle.timeline.specs.declared.entry.Body.{Body}
use Rattle.timeline.specs.declared.entry.Body.TheVariants as body
use Rattle.timeline.specs.declared.entry.Entry.{Entry}
use Rattle.front_half.specs.Kinds.{is_call}
use Rattle.front_half.specs.Taking.{class_after}
use Rattle.output_gate.specs.Fits.{comes_behind}

-- Whether the slot's object is known behind an entry.
abbrev pub known_by : Body → Bool → Bool
known_by (body.Bind identity) known = true
known_by b known = known

-- What is known behind some entries, and the last of these and of those before.
abbrev pub known_over : Bool → List Entry → Bool
known_over known [] = known
known_over known (e ∷ entries) = known_over (known_by e.body known) entries

abbrev pub last_over : Option Entry → List Entry → Option Entry
last_over last [] = last
last_over last (e ∷ entries) = last_over (Some e) entries

-- An entry fits an object that is known, or isn't: it is bound once, and then writes and reads, and a halt names a cause of a front.
abbrev pub FitsKnown : Bool → Body → Type 0
FitsKnown known (body.Bind identity) = known ≡ false
FitsKnown known (body.Batch ops tail confirmed) = known ≡ true
FitsKnown known (body.Ask ask free) = known ≡ true
FitsKnown known (body.Halt c) = is_halting c ≡ true
FitsKnown known b = Unit {0}

-- Each of these stands behind the one before, and fits.
abbrev pub AreFit : (known : Bool) (last : Option Entry) → List Entry → Type 0
AreFit known last [] = Unit {0}
AreFit known last (e ∷ entries) = (comes_behind last e ≡ true) × FitsKnown known e.body × AreFit (known_by e.body known) (Some e) entries

-- Each event that was delivered was one that a front of the class takes that it then had, and each that asks for a mounting is a call.
abbrev pub IsFitIntake : Script → Option ℕ → List Taken → Type 0
IsFitIntake script class [] = Unit {0}
IsFitIntake script class (delivered e ∷ taken) = (is_fit script class e ≡ true) × IsFitIntake script (class_after script class e) taken
IsFitIntake script class (noticed n ∷ taken) = IsFitIntake script class taken
IsFitIntake script class (wanted e ∷ taken) = (is_call e ≡ true) × IsFitIntake script class taken
