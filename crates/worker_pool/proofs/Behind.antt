-- What holds of a run's halves, switch and reader holds of the same once they are behind pointers, or given back.
use Rattle.std.proofs.Common.{◌≡◌, subst, sym, ℕ, List, Option}
use Rattle.do_tree.specs.Tree.{Script}
use Rattle.line_server.specs.declared.lines.Lines.{Lines}
use Rattle.mailbox.specs.declared.switch.Switch.{Switch}
use Rattle.host_workers.specs.declared.joining.Halves.{Halves}
use Rattle.worker_pool.specs.Ended.{HasRun}
use Rattle.worker_pool.specs.declared.ran.Ran.{Ran}

module _ {D W : Type 0} {slots now : List (Halves D)} {switch switch_now : Switch W} (same : now ≡ slots) (same_switch : switch_now ≡ switch) where
  -- what the workers leave of it they leave of what was given
  pub has_run : {R : Type 0} (moment_of : D → ℕ) (left_since : D → ℕ → List ℕ → Type 0) (told : D → Option (List ℕ)) (image : D → List ℕ → Type 0)
      (faults_of : D → ℕ) (left : R → Option (List ℕ)) (read_faults : R → ℕ) (taken : W → Option (List ℕ)) (write_faults : W → ℕ) (script : Script)
      {lines lines_now : Lines R} (ran : Ran D R W) → lines_now ≡ lines
      → HasRun moment_of left_since told image faults_of left read_faults taken write_faults script now switch_now lines_now ran
      → HasRun moment_of left_since told image faults_of left read_faults taken write_faults script slots switch lines ran
  has_run {R} moment_of left_since told image faults_of left read_faults taken write_faults script ran same_lines run =
      subst (λ (x : List (Halves D) × Switch W × Lines R). HasRun moment_of left_since told image faults_of left read_faults taken write_faults script x.0 x.1 x.2 ran)
      (λ i. (same i, same_switch i, same_lines i)) run
