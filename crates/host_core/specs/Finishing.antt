-- The lines of what is left at the end.
use Rattle.std.specs.Prelude.{◌≡◌, ◌≢◌, ℕ, true, List, Option}
use Rattle.do_disk.specs.Disk.{Rose}
use Rattle.mailbox.specs.Left.{finished_by}
use Rattle.mailbox.specs.Runs.{Begins, lines_of, log_of, out_of, state_of}
use Rattle.mailbox.specs.Written.{Writes, WritesInPart}
use Rattle.mailbox.specs.declared.switch.Switch.{Switch}
use Rattle.timeline.specs.Switch.{gave}
use Rattle.timeline.specs.declared.caller.Caller.{Caller}
use Rattle.timeline.specs.declared.notice.Waits.{Waits}
use Rattle.host_core.specs.Ends.{is_served}
use Rattle.host_core.specs.declared.settings.ServeEnd.{ServeEnd}
use Rattle.host_core.specs.declared.settings.ServeEnd.TheVariants.{WriteFailed}

-- The lines of what is left are logged and written, all of them where the run ends as is wanted, and else the first of them; the sink's count
-- of faults rose exactly where a write failed.
pub record Finishes {W : Type 0} (taken : W → Option (List ℕ)) (faults : W → ℕ) (old new : Switch W) (left : List (ℕ × Caller × Waits))
    (wanted end : ServeEnd) : Type 0 where
  pub whole : is_served end ≡ true → (end ≡ wanted) × (log_of new ≡ gave (log_of old) (finished_by (state_of old) left))
  pub begun : Begins (log_of old) (log_of new) (finished_by (state_of old) left)
  pub written : end ≢ WriteFailed → Writes (taken (out_of old)) (taken (out_of new)) (lines_of old) (lines_of new)
  pub part : end ≡ WriteFailed → WritesInPart (taken (out_of old)) (taken (out_of new)) (lines_of old) (lines_of new)
  pub failed : end ≡ WriteFailed → Rose (faults (out_of old)) (faults (out_of new))
  pub steady : end ≢ WriteFailed → faults (out_of new) ≡ faults (out_of old)
