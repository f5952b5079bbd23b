use Rattle.std.proofs.Common.{refl, List, ℕ, true, false}
use Rattle.storage_map.specs.declared.op.Op.{Op}
use Rattle.output_gate.specs.Serving.{IsBackAs}
use Rattle.output_gate.proofs.Enter.{loses, unentered}
use Rattle.output_gate.proofs.Entered.{on_err}
use Rattle.output_gate.proofs.Gone.{back_stopped}
use Rattle.output_gate.proofs.Stored.{reads_of, still_disk}
use Rattle.output_gate.proofs.back.Back.take_next.Goals as goal

pub returns-in_err-send-in-Some-clause-lost : goal.returns-in_err-send-in-Some-clause-lost
returns-in_err-send-in-Some-clause-lost g c =
    on_err _ _ (loses c.args.self.now c.take_entry.new.self c.in-Some.entry (g.L.Inlet.got c.args.line.now) (g.L.Inlet.got c.take.new.self) (g.N.Outlet.sent c.args.notices.now) (g.N.Outlet.sent c.send.new.outlet)
    c.in_ok-notice-in-Some.ensures.took.failed c.in_ok-notice-in-Some.ensures.took.enters c.in-Some.ensures.some c.in_err-send-in-Some.ensures.same)

pub returns-in_err-send-in-Some-clause-stopped : goal.returns-in_err-send-in-Some-clause-stopped
returns-in_err-send-in-Some-clause-stopped g c =
    let f : (start : List (List Op)) (opening : ℕ) → IsBackAs g.D.Disk.moment_of g.D.Disk.left_since g.D.Disk.told g.D.Disk.image g.D.Disk.faults_of start opening true c.args.self.now → IsBackAs g.D.Disk.moment_of g.D.Disk.left_since g.D.Disk.told g.D.Disk.image g.D.Disk.faults_of start opening false c.take_entry.new.self =
    λ start opening b. back_stopped g.D.Disk.moment_of g.D.Disk.left_since g.D.Disk.told g.D.Disk.image g.D.Disk.faults_of start opening c.take_entry.new.self
    (c.in_ok-notice-in-Some.ensures.back start opening b) in
    on_err _ _ f

pub returns-in_err-notice-in-Some-clause-lost : goal.returns-in_err-notice-in-Some-clause-lost
returns-in_err-notice-in-Some-clause-lost g c =
    on_err _ _ (unentered c.args.self.now c.take_entry.new.self c.in-Some.entry (g.L.Inlet.got c.args.line.now) (g.L.Inlet.got c.take.new.self) (g.N.Outlet.sent c.args.notices.now) (g.N.Outlet.sent c.args.notices.now)
    c.in_err-notice-in-Some.ensures.kept c.in-Some.ensures.some refl)

pub returns-then-not-may_take-clause-disk : goal.returns-then-not-may_take-clause-disk
returns-then-not-may_take-clause-disk g c = let same = c.args.self.now.store in reads_of g.D.Disk.told same same (still_disk same same refl)

pub returns-in-None-clause-disk : goal.returns-in-None-clause-disk
returns-in-None-clause-disk g c = let same = c.args.self.now.store in reads_of g.D.Disk.told same same (still_disk same same refl)
