use Rattle.std.proofs.Common.{ap, refl, List, ℕ, true, false}
use Rattle.storage_map.specs.declared.op.Op.{Op}
use Rattle.output_gate.specs.Entering.{notice_as}
use Rattle.output_gate.specs.Serving.{IsBackAs}
use Rattle.output_gate.specs.declared.back.Back.{Back}
use Rattle.output_gate.specs.declared.fit.Fit.{Fit}
use Rattle.output_gate.proofs.Enter.{entered_unread, room_only, late_enters, late_back}
use Rattle.output_gate.proofs.Entered.{on_err, as_before}
use Rattle.output_gate.proofs.Gone.{back_room, back_stopped, back_held}
use Rattle.output_gate.proofs.Stored.{reads_of, still_disk}
use Rattle.output_gate.proofs.back.Back.enter_late.Goals as goal

pub returns-in_err-make_room-clause-stopped : goal.returns-in_err-make_room-clause-stopped
returns-in_err-make_room-clause-stopped g c =
    let f : (start : List (List Op)) (opening : ℕ) → IsBackAs g.D.Disk.moment_of g.D.Disk.left_since g.D.Disk.told g.D.Disk.image g.D.Disk.faults_of start opening true c.args.self.now → IsBackAs g.D.Disk.moment_of g.D.Disk.left_since g.D.Disk.told g.D.Disk.image g.D.Disk.faults_of start opening false (record c.args.self.now { log = c.make_room.new.log }) =
    λ start opening b. back_stopped g.D.Disk.moment_of g.D.Disk.left_since g.D.Disk.told g.D.Disk.image g.D.Disk.faults_of start opening (record c.args.self.now { log = c.make_room.new.log }) (back_room g.D.Disk.moment_of g.D.Disk.left_since g.D.Disk.told g.D.Disk.image g.D.Disk.faults_of start opening c.args.self.now c.make_room.new.log c.make_room.ensures.same b) in
    on_err _ _ f

pub returns-clause-took : goal.returns-clause-took
returns-clause-took g c =
    entered_unread g.D.Disk.told g.D.Disk.image c.args.self.now c.take_late.new.self c.args.entry
    (late_enters g.D.Disk.moment_of g.D.Disk.left_since g.D.Disk.told g.D.Disk.image g.D.Disk.faults_of c.args.self.now c.take_late.new.self c.make_room.new.log c.args.entry c.make_room.ensures.same c.requires.may c.requires.fit c.in_ok-take_late.ensures.took)
    (λ m. ap (λ (x : Fit). notice_as x c.args.entry m) c.requires.fit)

pub returns-in_err-take_late-clause-stopped : goal.returns-in_err-take_late-clause-stopped
returns-in_err-take_late-clause-stopped g c =
    let f : (start : List (List Op)) (opening : ℕ) → IsBackAs g.D.Disk.moment_of g.D.Disk.left_since g.D.Disk.told g.D.Disk.image g.D.Disk.faults_of start opening true c.args.self.now → IsBackAs g.D.Disk.moment_of g.D.Disk.left_since g.D.Disk.told g.D.Disk.image g.D.Disk.faults_of start opening false c.take_late.new.self =
    λ start opening b. back_held g.D.Disk.moment_of g.D.Disk.left_since g.D.Disk.told g.D.Disk.image g.D.Disk.faults_of start opening (record c.args.self.now { log = c.make_room.new.log }) c.take_late.new.self c.in_err-take_late.ensures.kept.0 c.in_err-take_late.ensures.kept.1
    (back_room g.D.Disk.moment_of g.D.Disk.left_since g.D.Disk.told g.D.Disk.image g.D.Disk.faults_of start opening c.args.self.now c.make_room.new.log c.make_room.ensures.same b) in
    on_err _ _ f

pub returns-clause-back : goal.returns-clause-back
returns-clause-back g c start opening b =
    late_back g.D.Disk.moment_of g.D.Disk.left_since g.D.Disk.told g.D.Disk.image g.D.Disk.faults_of start opening c.args.self.now c.take_late.new.self c.make_room.new.log c.args.entry c.make_room.ensures.same c.requires.fit c.in_ok-take_late.ensures.took b

pub returns-in_err-make_room-clause-kept : goal.returns-in_err-make_room-clause-kept
returns-in_err-make_room-clause-kept g c = on_err _ _ (room_only c.args.self.now c.make_room.new.log c.make_room.ensures.same)

pub returns-in_err-take_late-clause-kept : goal.returns-in_err-take_late-clause-kept
returns-in_err-take_late-clause-kept g c =
    let k = c.in_err-take_late.ensures.kept in
    on_err _ _ (as_before c.args.self.now c.take_late.new.self c.args.self.now.store c.args.self.now.cache c.take_late.new.self.held c.make_room.new.log k.1 c.make_room.ensures.same.same k.0)

pub returns-in_err-take_late-clause-disk : goal.returns-in_err-take_late-clause-disk
returns-in_err-take_late-clause-disk g c =
    reads_of g.D.Disk.told c.args.self.now.store c.take_late.new.self.store (still_disk c.args.self.now.store c.take_late.new.self.store (ap (λ (b : Back g.row.D.Denot). b.store) c.in_err-take_late.ensures.kept.1))

pub returns-clause-disk : goal.returns-clause-disk
returns-clause-disk g c =
    reads_of g.D.Disk.told c.args.self.now.store c.take_late.new.self.store (still_disk c.args.self.now.store c.take_late.new.self.store (ap (λ (b : Back g.row.D.Denot). b.store) c.in_ok-take_late.ensures.took.same))

pub returns-in_err-make_room-clause-disk : goal.returns-in_err-make_room-clause-disk
returns-in_err-make_room-clause-disk g c = let same = c.args.self.now.store in reads_of g.D.Disk.told same same (still_disk same same refl)
