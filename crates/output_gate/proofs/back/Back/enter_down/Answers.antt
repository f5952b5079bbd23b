use Rattle.std.proofs.Common.{ap, refl, inr, List, ℕ, true, false}
use Rattle.storage_map.specs.declared.op.Op.{Op}
use Rattle.output_gate.specs.Entering.{notice_as}
use Rattle.output_gate.specs.Serving.{IsBackAs}
use Rattle.output_gate.specs.declared.fit.Fit.{Fit}
use Rattle.output_gate.proofs.Enter.{before_room, entered_unread, room_only, down_unmounted, down_can, down_enters}
use Rattle.output_gate.proofs.Entered.{on_err}
use Rattle.output_gate.proofs.Gone.{back_room, back_stopped}
use Rattle.output_gate.proofs.Stored.{reads_of, still_disk}
use Rattle.output_gate.proofs.back.Back.enter_down.Goals as goal

pub take_down-requires : goal.take_down-requires
take_down-requires g c =
    let b = c.requires.back in
    down_can g.D.Disk.moment_of g.D.Disk.left_since g.D.Disk.told g.D.Disk.image g.D.Disk.faults_of b.0 b.1 c.args.self.now c.make_room.new.log c.args.entry c.make_room.ensures.same c.in_ok-make_room.ensures.room c.requires.may c.requires.fit b.2

pub returns-in_err-make_room-clause-stopped : goal.returns-in_err-make_room-clause-stopped
returns-in_err-make_room-clause-stopped g c =
    let f : (start : List (List Op)) (opening : ℕ) → IsBackAs g.D.Disk.moment_of g.D.Disk.left_since g.D.Disk.told g.D.Disk.image g.D.Disk.faults_of start opening true c.args.self.now → IsBackAs g.D.Disk.moment_of g.D.Disk.left_since g.D.Disk.told g.D.Disk.image g.D.Disk.faults_of start opening false (record c.args.self.now { log = c.make_room.new.log }) =
    λ start opening b. back_stopped g.D.Disk.moment_of g.D.Disk.left_since g.D.Disk.told g.D.Disk.image g.D.Disk.faults_of start opening (record c.args.self.now { log = c.make_room.new.log }) (back_room g.D.Disk.moment_of g.D.Disk.left_since g.D.Disk.told g.D.Disk.image g.D.Disk.faults_of start opening c.args.self.now c.make_room.new.log c.make_room.ensures.same b) in
    on_err _ _ f

pub returns-clause-took : goal.returns-clause-took
returns-clause-took g c =
    entered_unread g.D.Disk.told g.D.Disk.image c.args.self.now c.take_down.new.self c.args.entry
    (down_enters g.D.Disk.moment_of g.D.Disk.left_since g.D.Disk.told g.D.Disk.image g.D.Disk.faults_of c.args.self.now c.take_down.new.self c.make_room.new.log c.args.entry c.make_room.ensures.same c.requires.may c.requires.fit c.in_ok-take_down.ensures.took)
    (λ m. ap (λ (x : Fit). notice_as x c.args.entry m) c.requires.fit)

pub returns-clause-back : goal.returns-clause-back
returns-clause-back g c start opening b =
    inr (c.in_ok-take_down.ensures.took.back start opening (down_unmounted g.D.Disk.moment_of g.D.Disk.left_since g.D.Disk.told g.D.Disk.image g.D.Disk.faults_of start opening c.args.self.now c.make_room.new.log c.args.entry c.make_room.ensures.same c.requires.fit b))

pub returns-in_err-take_down-clause-stopped : goal.returns-in_err-take_down-clause-stopped
returns-in_err-take_down-clause-stopped g c =
    let f : (start : List (List Op)) (opening : ℕ) → IsBackAs g.D.Disk.moment_of g.D.Disk.left_since g.D.Disk.told g.D.Disk.image g.D.Disk.faults_of start opening true c.args.self.now → IsBackAs g.D.Disk.moment_of g.D.Disk.left_since g.D.Disk.told g.D.Disk.image g.D.Disk.faults_of start opening false c.take_down.new.self =
    λ start opening b. inr (c.in_err-take_down.ensures.failed.back start opening (down_unmounted g.D.Disk.moment_of g.D.Disk.left_since g.D.Disk.told g.D.Disk.image g.D.Disk.faults_of start opening c.args.self.now c.make_room.new.log c.args.entry c.make_room.ensures.same c.requires.fit b)) in
    on_err _ _ f

pub returns-in_err-make_room-clause-kept : goal.returns-in_err-make_room-clause-kept
returns-in_err-make_room-clause-kept g c = on_err _ _ (room_only c.args.self.now c.make_room.new.log c.make_room.ensures.same)

pub returns-in_err-take_down-clause-kept : goal.returns-in_err-take_down-clause-kept
returns-in_err-take_down-clause-kept g c = on_err _ _ (before_room c.args.self.now c.take_down.new.self c.make_room.new.log c.make_room.ensures.same c.in_err-take_down.ensures.failed.same)

pub returns-in_err-take_down-clause-disk : goal.returns-in_err-take_down-clause-disk
returns-in_err-take_down-clause-disk g c = reads_of g.D.Disk.told c.args.self.now.store c.take_down.new.self.store c.in_err-take_down.ensures.failed.disk

pub returns-clause-disk : goal.returns-clause-disk
returns-clause-disk g c = reads_of g.D.Disk.told c.args.self.now.store c.take_down.new.self.store c.in_ok-take_down.ensures.took.disk

pub returns-in_err-make_room-clause-disk : goal.returns-in_err-make_room-clause-disk
returns-in_err-make_room-clause-disk g c = let same = c.args.self.now.store in reads_of g.D.Disk.told same same (still_disk same same refl)
