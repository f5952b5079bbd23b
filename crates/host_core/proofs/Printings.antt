-- What a switch prints, call after call.
use Rattle.std.proofs.Common.{◌≡◌, ◌∙◌, ap, sym, ℕ, List, Option, None, refl}
use Rattle.std.specs.Prelude.{Bool, true, false, Result, Ok, Err}
use Rattle.lane.specs.Lanes.{LaneId}
use Rattle.timeline.specs.declared.event.Event.{Event}
use Rattle.mailbox.proofs.Writings.{writes_none, writes_then, part_then, counts_then}
use Rattle.mailbox.specs.Runs.{Acts, fault_of, lines_of, out_of}
use Rattle.mailbox.specs.declared.fault.SwitchFault.{SwitchFault}
use Rattle.mailbox.specs.declared.fault.SwitchFault.TheVariants.{WriteFailed}
use Rattle.mailbox.specs.declared.switch.Switch.{Switch}
use Rattle.host_core.specs.Running.{Prints}

abbrev Yes : Result Bool SwitchFault
Yes = Ok true

abbrev Answered : Bool → Result Bool SwitchFault
Answered did = Ok did

pub ok_unfailed_at : (did : Bool) → Answered did ≡ Err WriteFailed → ⊥
ok_unfailed_at did failed = absurd cc

pub ok_unfailed : Yes ≡ Err WriteFailed → ⊥
ok_unfailed failed = ok_unfailed_at true failed

-- An answer that is good is the one that is in it.
pub answer_is : (did : Bool) → Answered did ≡ Answered false → did ≡ false
answer_is did same = cc

pub was_false : (result : Result Bool SwitchFault) (did : Bool) → result ≡ Ok did → did ≡ false → result ≡ Ok false
was_false result did is none = is ∙ ap (λ (b : Bool). Answered b) none

pub true_not : true ≡ false → ⊥
true_not same = absurd cc

abbrev Failed : (T : Type 0) → SwitchFault → Result T SwitchFault
Failed T fault = Err fault

fault_is : (T : Type 0) (fault : SwitchFault) → Failed T fault ≡ Failed T WriteFailed → fault ≡ WriteFailed
fault_is T fault same = cc

module _ {W : Type 0} (taken : W → Option (List ℕ)) (faults : W → ℕ) where
  -- Nothing is printed.
  pub prints_none : {T : Type 0} (s : Switch W) (result : Result T SwitchFault) → (result ≡ Err WriteFailed → ⊥) → Prints taken faults s s result
  prints_none s result unfailed = record {
    written = λ _. writes_none (taken (out_of s)) (taken (out_of s)) (lines_of s) (lines_of s) refl refl;
    part = λ failed. absurd (unfailed failed);
    counted = λ _. record { failed = λ failed. absurd (unfailed failed); steady = λ _. refl };
  }

  -- First these lines, at no fault, and then those.
  pub prints_then : {T U : Type 0} (a b c : Switch W) (first : Result T SwitchFault) (result : Result U SwitchFault) → (first ≡ Err WriteFailed → ⊥) → fault_of b ≡ None
      → Prints taken faults a b first → Prints taken faults b c result → Prints taken faults a c result
  prints_then a b c first result unfailed goes one two = record {
    written = λ unwritten. writes_then (taken (out_of a)) (taken (out_of b)) (taken (out_of c)) (lines_of a) (lines_of b) (lines_of c) (one.written unfailed) (two.written unwritten);
    part = λ failed. part_then (taken (out_of a)) (taken (out_of b)) (taken (out_of c)) (lines_of a) (lines_of b) (lines_of c) (one.written unfailed) (two.part failed);
    counted = λ none. counts_then (faults (out_of a)) (faults (out_of c)) (faults (out_of b)) result ((one.counted none).steady unfailed) (two.counted goes);
  }

  -- The same at an answer that is the same fault, or none.
  pub prints_as : {T U : Type 0} (a b : Switch W) (first : Result T SwitchFault) (result : Result U SwitchFault)
      → (first ≡ Err WriteFailed → result ≡ Err WriteFailed) → (result ≡ Err WriteFailed → first ≡ Err WriteFailed)
      → Prints taken faults a b first → Prints taken faults a b result
  prints_as a b first result to from prints = record {
    written = λ unwritten. prints.written (λ failed. unwritten (to failed));
    part = λ failed. prints.part (from failed);
    counted = λ none. let counts = prints.counted none in record {
      failed = λ failed. counts.failed (from failed);
      steady = λ unwritten. counts.steady (λ failed. unwritten (to failed));
    };
  }

  pub prints_acts : {S T : Type 0} (sent : S → List Event) (outlet : S → LaneId) (left : S → List Event) (a b : Switch W) (before after : List S)
      (result : Result T SwitchFault) → Acts sent outlet left taken faults a b before after result → Prints taken faults a b result
  prints_acts sent outlet left a b before after result acts = record { written = acts.written; part = acts.part; counted = acts.counted }

  -- A step more of a loop, in which none failed before.
  pub prints_on : {T U : Type 0} (a b c : Switch W) (step : Result T SwitchFault) (result : Result U SwitchFault) → fault_of b ≡ None
      → (step ≡ Err WriteFailed → result ≡ Err WriteFailed) → (result ≡ Err WriteFailed → step ≡ Err WriteFailed)
      → Prints taken faults a b (Ok true) → Prints taken faults b c step → Prints taken faults a c result
  prints_on a b c step result goes to from one two =
      prints_then a b c (Ok true) result ok_unfailed goes one (prints_as b c step result to from two)

  -- A step at which a loop stops by its fault.
  pub prints_failed : {T U : Type 0} (a b c : Switch W) (step : Result T SwitchFault) (result : Result U SwitchFault) (fault same : SwitchFault) → fault_of b ≡ None
      → step ≡ Err fault → result ≡ Err same → same ≡ fault → Prints taken faults a b (Ok true) → Prints taken faults b c step → Prints taken faults a c result
  prints_failed {T} {U} a b c step result fault same goes stopped is alike one two =
      prints_on a b c step result goes (λ failed. is ∙ ap (λ (f : SwitchFault). Err f) (alike ∙ fault_is T fault (sym stopped ∙ failed)))
      (λ failed. stopped ∙ ap (λ (f : SwitchFault). Err f) (sym alike ∙ fault_is U same (sym is ∙ failed))) one two
