use Rattle.std.proofs.Common.{[], List, ℕ, true, false}
use Rattle.storage_map.specs.declared.op.Op.{Op}
use Rattle.output_gate.specs.Serving.{IsBackAs}
use Rattle.output_gate.proofs.Entered.{on_err}
use Rattle.output_gate.proofs.Gone.{back_stopped}
use Rattle.output_gate.proofs.back.Back.release_next.Goals as goal

pub returns-in_err-copy-in-Message-clause-stopped : goal.returns-in_err-copy-in-Message-clause-stopped
returns-in_err-copy-in-Message-clause-stopped g c =
    let f : (start : List (List Op)) (opening : ℕ) → IsBackAs g.D.Disk.moment_of g.D.Disk.left_since g.D.Disk.told g.D.Disk.image g.D.Disk.faults_of start opening true c.args.self.now → IsBackAs g.D.Disk.moment_of g.D.Disk.left_since g.D.Disk.told g.D.Disk.image g.D.Disk.faults_of start opening false c.args.self.now =
    λ start opening b. back_stopped g.D.Disk.moment_of g.D.Disk.left_since g.D.Disk.told g.D.Disk.image g.D.Disk.faults_of start opening c.args.self.now b in
    on_err _ _ f

pub returns-in_err-release_message-in-Message-clause-stays : goal.returns-in_err-release_message-in-Message-clause-stays
returns-in_err-release_message-in-Message-clause-stays g c = on_err _ _ (c.in_err-release_message-in-Message.ensures.stays (g.N.Outlet.sent c.args.notices.now)).stays

pub returns-in_err-release_message-in-Message-clause-stopped : goal.returns-in_err-release_message-in-Message-clause-stopped
returns-in_err-release_message-in-Message-clause-stopped g c = on_err _ _ (c.in_err-release_message-in-Message.ensures.stays []).back

pub returns-in_err-release_sync-in-Sync-clause-stays : goal.returns-in_err-release_sync-in-Sync-clause-stays
returns-in_err-release_sync-in-Sync-clause-stays g c = on_err _ _ (c.in_err-release_sync-in-Sync.ensures.stays (g.O.Outlet.sent c.args.out.now)).stays

pub returns-in_err-release_sync-in-Sync-clause-stopped : goal.returns-in_err-release_sync-in-Sync-clause-stopped
returns-in_err-release_sync-in-Sync-clause-stopped g c = on_err _ _ (c.in_err-release_sync-in-Sync.ensures.stays []).back

pub returns-in_err-restart-in-Halt-clause-stays : goal.returns-in_err-restart-in-Halt-clause-stays
returns-in_err-restart-in-Halt-clause-stays g c = on_err _ _ (c.in_err-restart-in-Halt.ensures.stays (g.O.Outlet.sent c.args.out.now)).stays

pub returns-in_err-restart-in-Halt-clause-stopped : goal.returns-in_err-restart-in-Halt-clause-stopped
returns-in_err-restart-in-Halt-clause-stopped g c = on_err _ _ (c.in_err-restart-in-Halt.ensures.stays []).back

pub returns-in_ok-release_message-in-Message-clause-back : goal.returns-in_ok-release_message-in-Message-clause-back
returns-in_ok-release_message-in-Message-clause-back g c = (c.in_ok-release_message-in-Message.ensures.went []).back

pub returns-in_ok-release_sync-in-Sync-clause-back : goal.returns-in_ok-release_sync-in-Sync-clause-back
returns-in_ok-release_sync-in-Sync-clause-back g c = (c.in_ok-release_sync-in-Sync.ensures.went []).back

pub returns-in_ok-restart-in-Halt-clause-back : goal.returns-in_ok-restart-in-Halt-clause-back
returns-in_ok-restart-in-Halt-clause-back g c = (c.in_ok-restart-in-Halt.ensures.went []).back
