-- What the cell of the switch has written.
use Rattle.std.proofs.Common.{◌≡◌, ◌∙◌, ap, sym, refl, subst, ℕ, List, [], ◌∷◌, map, Option, Some, None}
use Rattle.std.specs.Prelude.{Result, Ok, Err}
use Rattle.do_disk.specs.Disk.{Rose}
use Rattle.line_server.specs.declared.out_line.OutLine.{OutLine}
use Rattle.timeline.specs.Switch as switch
use Rattle.mailbox.proofs.Writings.{part_then, writes_none, writes_then}
use Rattle.mailbox.specs.Runs.{fault_in, fault_of, lines_of, log_of, out_of}
use Rattle.mailbox.specs.Seen.{seen_out}
use Rattle.mailbox.specs.Written.{CountsWrites, Writes, WritesInPart}
use Rattle.mailbox.specs.declared.fault.SwitchFault.{SwitchFault}
use Rattle.mailbox.specs.declared.fault.SwitchFault.TheVariants.{NoMemory, WriteFailed}
use Rattle.mailbox.specs.declared.switch.Switch.{Switch}
use Rattle.host_workers.specs.Switches.{HasPrinted}

none_failed : None ≡ Some WriteFailed → ⊥
none_failed is = absurd cc

wanting_failed : Some NoMemory ≡ Some WriteFailed → ⊥
wanting_failed is = absurd cc

abbrev Good : (T : Type 0) → T → Result T SwitchFault
Good T x = Ok x

abbrev Bad : (T : Type 0) → SwitchFault → Result T SwitchFault
Bad T fault = Err fault

good_failed : {T : Type 0} (x : T) → Good T x ≡ Bad T WriteFailed → ⊥
good_failed x is = absurd cc

bad_failed : (T : Type 0) → Bad T NoMemory ≡ Bad T WriteFailed → ⊥
bad_failed T is = absurd cc

none_mapped : (lines : List OutLine) → map seen_out lines ≡ [] → lines ≡ []
none_mapped [] none = refl
none_mapped (line ∷ lines) none = absurd cc

-- What a call says of its lines.
pub record PrintsBy {W T : Type 0} (taken : W → Option (List ℕ)) (faults : W → ℕ) (old new : Switch W) (result : Result T SwitchFault) : Type 0 where
  pub written : (result ≡ Err WriteFailed → ⊥) → Writes (taken (out_of old)) (taken (out_of new)) (lines_of old) (lines_of new)
  pub part : result ≡ Err WriteFailed → WritesInPart (taken (out_of old)) (taken (out_of new)) (lines_of old) (lines_of new)
  pub counted : fault_of old ≡ None → CountsWrites (faults (out_of old)) (faults (out_of new)) result
  pub again : (fault : SwitchFault) → fault_of old ≡ Some fault → new ≡ old
  pub fault : fault_of new ≡ fault_in result

module _ {W : Type 0} (taken : W → Option (List ℕ)) (faults : W → ℕ) where
  -- A switch that has printed nothing.
  pub begins_printed : (s : Switch W) → log_of s ≡ switch.no_log → fault_of s ≡ None → HasPrinted taken faults (taken (out_of s)) (faults (out_of s)) s
  begins_printed s log goes = record {
    written = λ _. writes_none (taken (out_of s)) (taken (out_of s)) [] (lines_of s) refl (none_mapped (lines_of s) (ap (λ (l : switch.SwitchLog). l.lines) log));
    part = λ failed. absurd (none_failed (sym goes ∙ failed));
    failed = λ failed. absurd (none_failed (sym goes ∙ failed));
    steady = λ _. refl;
  }

  module _ (held : Option (List ℕ)) (from : ℕ) (old new : Switch W) (was : HasPrinted taken faults held from old) where
    module _ (goes : fault_of old ≡ None) where
      unfailed : fault_of old ≡ Some WriteFailed → ⊥
      unfailed failed = none_failed (sym goes ∙ failed)

      -- all was written
      all_written : {T : Type 0} (result : Result T SwitchFault) → PrintsBy taken faults old new result → (result ≡ Err WriteFailed → ⊥)
          → (fault_of new ≡ Some WriteFailed → ⊥) → HasPrinted taken faults held from new
      all_written result by good never = record {
        written = λ _. writes_then held (taken (out_of old)) (taken (out_of new)) [] (lines_of old) (lines_of new) (was.written unfailed) (by.written good);
        part = λ failed. absurd (never failed);
        failed = λ failed. absurd (never failed);
        steady = λ _. (by.counted goes).steady good ∙ was.steady unfailed;
      }

      printed_as : {T : Type 0} (result : Result T SwitchFault) → PrintsBy taken faults old new result → HasPrinted taken faults held from new
      printed_as (Ok x) by = all_written (Ok x) by (good_failed x) (λ failed. none_failed (sym by.fault ∙ failed))
      printed_as {T} (Err NoMemory) by = all_written (Err NoMemory) by (bad_failed T) (λ failed. wanting_failed (sym by.fault ∙ failed))
      printed_as (Err WriteFailed) by = record {
        written = λ never. absurd (never by.fault);
        part = λ _. part_then held (taken (out_of old)) (taken (out_of new)) [] (lines_of old) (lines_of new) (was.written unfailed) (by.part refl);
        failed = λ _. subst (λ (n : ℕ). Rose n (faults (out_of new))) (was.steady unfailed) ((by.counted goes).failed refl);
        steady = λ never. absurd (never by.fault);
      }

    printed_at : {T : Type 0} (at : Option SwitchFault) → fault_of old ≡ at → (result : Result T SwitchFault) → PrintsBy taken faults old new result
        → HasPrinted taken faults held from new
    printed_at None at result by = printed_as at result by
    printed_at (Some f) at result by = subst (λ (s : Switch W). HasPrinted taken faults held from s) (sym (by.again f at)) was

    pub printed_more : {T : Type 0} (result : Result T SwitchFault) → PrintsBy taken faults old new result → HasPrinted taken faults held from new
    printed_more result by = printed_at (fault_of old) refl result by
