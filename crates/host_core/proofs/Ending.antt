-- What a run that serves is at its end, and what it has printed.
use Rattle.std.proofs.Common.{◌≡◌, ◌∙◌, ap, sym, subst, refl, ℕ, List, [], Option, None, Some, Result, Ok, Err}
use Rattle.std.specs.Prelude.{OnOk, OnErr}
use Rattle.do_disk.specs.Disk.{Rose}
use Rattle.line_server.specs.declared.out_line.OutLine.{OutLine}
use Rattle.line_server.specs.declared.fault.LineFault.{LineFault}
use Rattle.line_server.specs.declared.fault.LineFault.TheVariants as line
use Rattle.do_tree.specs.Tree.{Script}
use Rattle.placement.specs.Slots.{Slots}
use Rattle.mailbox.proofs.Writings.{part_then, writes_then}
use Rattle.mailbox.specs.Runs.{fault_of, lines_of, log_of, out_of, state_of}
use Rattle.mailbox.specs.Written.{Writes, WritesInPart}
use Rattle.mailbox.specs.declared.fault.SwitchFault.{SwitchFault}
use Rattle.mailbox.specs.declared.fault.SwitchFault.TheVariants as switch
use Rattle.mailbox.specs.declared.switch.Switch.{Switch}
use Rattle.host_workers.specs.Switches.{HasPrinted}
use Rattle.host_core.proofs.Routings.{all_stand}
use Rattle.host_core.specs.Ends.{line_stop, switch_stop}
use Rattle.host_core.specs.Objects.{AreThere}
use Rattle.host_core.specs.Running.{HasServed, IsServing, Prints, PrintsUntil}
use Rattle.mailbox.specs.SoFar.IsRunSoFar.{whole}
use Rattle.host_core.specs.declared.objects.Objects.{Objects}
use Rattle.host_core.specs.declared.serving.Stop.{Stop}
use Rattle.host_core.specs.declared.serving.Stop.TheVariants as stops

-- A run that serves may end.
pub serves_served : {D W : Type 0} (moment_of : D → ℕ) (left_since : D → ℕ → List ℕ → Type 0) (told : D → Option (List ℕ)) (image : D → List ℕ → Type 0) (faults_of : D → ℕ)
    (limit : ℕ) (script : Script) (contents : ℕ → Option (List ℕ)) (named : Slots) (switch : Switch W) (objects : Objects D)
    → IsServing moment_of left_since told image faults_of limit script contents named switch objects
    → HasServed moment_of left_since told image faults_of limit script contents named switch objects
serves_served moment_of left_since told image faults_of limit script contents named switch objects serving = record {
  run = whole (state_of switch) serving.run;
  slots = all_stand moment_of left_since told image faults_of limit script contents named (log_of switch) objects serving.slots;
  there = subst (λ (n : ℕ). AreThere n (log_of switch)) (sym serving.all) serving.there;
}

-- What holds at a good answer and what holds at a fault, either way.
pub either_way : {T E : Type 0} (result : Result T E) (P Q R : Type 0) → OnOk result P → OnErr result Q → (P → R) → (Q → R) → R
either_way (Ok x) P Q R p q good bad = good p
either_way (Err e) P Q R p q good bad = bad q

pub at_fault : {T E : Type 0} (result : Result T E) (e : E) (P : Type 0) → result ≡ Err e → OnErr result P → P
at_fault (Ok x) e P is p = cc
at_fault (Err f) e P is p = p

pub no_fault : {T E : Type 0} (result : Result T E) (x : T) (e : E) → result ≡ Ok x → result ≡ Err e → ⊥
no_fault (Ok y) x e good bad = cc
no_fault (Err f) x e good bad = cc

abbrev stopped : Stop → Result (Unit {0}) Stop
stopped s = Err s

abbrev faulted : SwitchFault → Result (Unit {0}) SwitchFault
faulted f = Err f

-- The stop of a fault of the switch is a write fault exactly where the fault is.
pub write_stop : (f : SwitchFault) → stopped (switch_stop f) ≡ stopped stops.WriteFailed → f ≡ switch.WriteFailed
write_stop switch.WriteFailed is = refl
write_stop switch.NoMemory is = cc

pub no_read_stop : (f : SwitchFault) → stopped (switch_stop f) ≡ stopped stops.ReadFailed → ⊥
no_read_stop switch.WriteFailed is = cc
no_read_stop switch.NoMemory is = cc

-- The stop of a fault of the reader is no write fault.
pub no_write_stop : (f : LineFault) → stopped (line_stop f) ≡ stopped stops.WriteFailed → ⊥
no_write_stop line.ReadFailed is = cc
no_write_stop line.NoMemory is = cc

pub read_stop : (f : LineFault) → stopped (line_stop f) ≡ stopped stops.ReadFailed → f ≡ line.ReadFailed
read_stop line.ReadFailed is = refl
read_stop line.NoMemory is = cc

abbrev stop_of : Result (Unit {0}) SwitchFault → Result (Unit {0}) Stop
stop_of (Ok x) = Ok x
stop_of (Err f) = Err (switch_stop f)

abbrev good : Result (Unit {0}) SwitchFault
good = Ok tt

pub never : good ≡ faulted switch.WriteFailed → ⊥
never e = cc

abbrev fault_is_none : Option SwitchFault
fault_is_none = None

abbrev fault_is : SwitchFault → Option SwitchFault
fault_is f = Some f

-- None is no fault.
never_fault : (f : SwitchFault) → fault_is_none ≡ fault_is f → ⊥
never_fault f e = cc

module _ {W : Type 0} (taken : W → Option (List ℕ)) (faults : W → ℕ) where
  -- What is printed until a run of lines stops at a fault of the switch, or at another cause.
  pub prints_fault : (a b : Switch W) (f : SwitchFault) → fault_of a ≡ None → Prints taken faults a b (faulted f) → PrintsUntil taken faults a b (stopped (switch_stop f))
  prints_fault a b f none prints = record {
    written = λ unwritten. prints.written (λ failed. unwritten (ap stop_of failed));
    part = λ failed. prints.part (ap faulted (write_stop f failed));
    failed = λ failed. (prints.counted none).failed (ap faulted (write_stop f failed));
    steady = λ unwritten. (prints.counted none).steady (λ failed. unwritten (ap stop_of failed));
  }

  pub prints_so_far : (a b : Switch W) (result : Result (Unit {0}) Stop) → fault_of a ≡ None → (result ≡ stopped stops.WriteFailed → ⊥)
      → Prints {T = Unit {0}} taken faults a b (Ok tt) → PrintsUntil taken faults a b result
  prints_so_far a b result none unwritten prints = record {
    written = λ _. prints.written never;
    part = λ failed. absurd (unwritten failed);
    failed = λ failed. absurd (unwritten failed);
    steady = λ _. (prints.counted none).steady never;
  }

  pub prints_good : (a b : Switch W) (result : Result (Unit {0}) SwitchFault) (x : Unit {0}) → result ≡ Ok x → Prints taken faults a b result → Prints {T = Unit {0}} taken faults a b (Ok tt)
  prints_good a b (Ok x) y is prints = record {
    written = λ _. prints.written (no_fault (Ok x) x switch.WriteFailed refl);
    part = λ failed. absurd (never failed);
    counted = λ none. record { failed = λ failed. absurd (never failed); steady = λ _. (prints.counted none).steady (no_fault (Ok x) x switch.WriteFailed refl) };
  }
  prints_good a b (Err f) y is prints = cc

  -- ---- what was printed before by the workers
  -- A switch at no fault stands at no write fault.
  none_failed : (b : Switch W) → fault_of b ≡ None → fault_of b ≡ Some switch.WriteFailed → ⊥
  none_failed b goes failed = let no : fault_is_none ≡ fault_is switch.WriteFailed = sym goes ∙ failed in never_fault switch.WriteFailed no

  module _ (a b : Switch W) (blank : lines_of a ≡ []) (has : HasPrinted taken faults (taken (out_of a)) (faults (out_of a)) b) where
    -- All that the workers logged was written, where no write failed.
    all_printed : (fault_of b ≡ Some switch.WriteFailed → ⊥) → Writes (taken (out_of a)) (taken (out_of b)) (lines_of a) (lines_of b)
    all_printed unfailed = subst (λ (ls : List OutLine). Writes (taken (out_of a)) (taken (out_of b)) ls (lines_of b)) (sym blank) (has.written unfailed)

    -- The first bytes of it were, where one did.
    some_printed : fault_of b ≡ Some switch.WriteFailed → WritesInPart (taken (out_of a)) (taken (out_of b)) (lines_of a) (lines_of b)
    some_printed failed = subst (λ (ls : List OutLine). WritesInPart (taken (out_of a)) (taken (out_of b)) ls (lines_of b)) (sym blank) (has.part failed)

    -- The workers have stopped at this fault.
    pub printed_fault : (f : SwitchFault) → (faulted f ≡ Err switch.WriteFailed → fault_of b ≡ Some switch.WriteFailed)
        → (fault_of b ≡ Some switch.WriteFailed → faulted f ≡ Err switch.WriteFailed) → PrintsUntil taken faults a b (stopped (switch_stop f))
    printed_fault f to from = record {
      written = λ unwritten. all_printed (λ failed. unwritten (ap stop_of (from failed)));
      part = λ failed. some_printed (to (ap faulted (write_stop f failed)));
      failed = λ failed. has.failed (to (ap faulted (write_stop f failed)));
      steady = λ unwritten. has.steady (λ failed. unwritten (ap stop_of (from failed)));
    }

    -- They have met no fault, and nothing is printed behind them.
    pub printed_so_far : (result : Result (Unit {0}) Stop) → fault_of b ≡ None → (result ≡ stopped stops.WriteFailed → ⊥) → PrintsUntil taken faults a b result
    printed_so_far result goes unwritten = record {
      written = λ _. all_printed (none_failed b goes);
      part = λ failed. absurd (unwritten failed);
      failed = λ failed. absurd (unwritten failed);
      steady = λ _. has.steady (none_failed b goes);
    }

    -- They have met no fault, and this is printed behind them.
    pub printed_then : (c : Switch W) (result : Result (Unit {0}) Stop) → fault_of b ≡ None → PrintsUntil taken faults b c result → PrintsUntil taken faults a c result
    printed_then c result goes until = record {
      written = λ unwritten. writes_then (taken (out_of a)) (taken (out_of b)) (taken (out_of c)) (lines_of a) (lines_of b) (lines_of c)
          (all_printed (none_failed b goes)) (until.written unwritten);
      part = λ failed. part_then (taken (out_of a)) (taken (out_of b)) (taken (out_of c)) (lines_of a) (lines_of b) (lines_of c)
          (all_printed (none_failed b goes)) (until.part failed);
      failed = λ failed. subst (λ (n : ℕ). Rose n (faults (out_of c))) (has.steady (none_failed b goes)) (until.failed failed);
      steady = λ unwritten. until.steady unwritten ∙ has.steady (none_failed b goes);
    }
