use Rattle.std.proofs.Common.{refl, inl, List, ℕ, true, false}
use Rattle.std.proofs.lemmas.Result.{IfOk-weaker}
use Rattle.storage_map.specs.declared.op.Op.{Op}
use Rattle.output_gate.specs.Serving.{IsBackAs}
use Rattle.output_gate.proofs.Enter.{err_weaker, before_room, room_only, own_mounted, own_can, own_enters, own_disk}
use Rattle.output_gate.proofs.Entered.{if_on_ok, on_err}
use Rattle.output_gate.proofs.Gone.{back_room, back_stopped}
use Rattle.output_gate.proofs.Stored.{reads_of, still_disk}
use Rattle.output_gate.proofs.back.Back.enter_own.Goals as goal

pub take_own-requires : goal.take_own-requires
take_own-requires g c =
    let b = c.requires.back in
    own_can g.D.Disk.moment_of g.D.Disk.left_since g.D.Disk.told g.D.Disk.image g.D.Disk.faults_of b.0 b.1 c.args.self.now c.make_room.new.log c.args.entry c.make_room.ensures.same c.in_ok-make_room.ensures.room c.requires.may c.requires.fit b.2

pub returns-in_err-make_room-clause-stopped : goal.returns-in_err-make_room-clause-stopped
returns-in_err-make_room-clause-stopped g c =
    let f : (start : List (List Op)) (opening : ℕ) → IsBackAs g.D.Disk.moment_of g.D.Disk.left_since g.D.Disk.told g.D.Disk.image g.D.Disk.faults_of start opening true c.args.self.now → IsBackAs g.D.Disk.moment_of g.D.Disk.left_since g.D.Disk.told g.D.Disk.image g.D.Disk.faults_of start opening false (record c.args.self.now { log = c.make_room.new.log }) =
    λ start opening b. back_stopped g.D.Disk.moment_of g.D.Disk.left_since g.D.Disk.told g.D.Disk.image g.D.Disk.faults_of start opening (record c.args.self.now { log = c.make_room.new.log }) (back_room g.D.Disk.moment_of g.D.Disk.left_since g.D.Disk.told g.D.Disk.image g.D.Disk.faults_of start opening c.args.self.now c.make_room.new.log c.make_room.ensures.same b) in
    on_err _ _ f

pub returns-clause-took : goal.returns-clause-took
returns-clause-took g c =
    IfOk-weaker c.take_own.result _ _ (λ notice t. own_enters g.D.Disk.moment_of g.D.Disk.left_since g.D.Disk.told g.D.Disk.image g.D.Disk.faults_of c.args.self.now c.take_own.new.self c.make_room.new.log c.args.entry notice
    c.make_room.ensures.same c.requires.may c.requires.fit t) c.take_own.ensures.took

pub returns-clause-back : goal.returns-clause-back
returns-clause-back g c =
    if_on_ok c.take_own.result (λ notice t start opening b. inl (t.back start opening
    (own_mounted g.D.Disk.moment_of g.D.Disk.left_since g.D.Disk.told g.D.Disk.image g.D.Disk.faults_of start opening c.args.self.now c.make_room.new.log c.args.entry c.make_room.ensures.same c.requires.fit b))) c.take_own.ensures.took

pub returns-clause-stopped : goal.returns-clause-stopped
returns-clause-stopped g c =
    err_weaker c.take_own.result _ _ (λ t start opening b. inl (t.back start opening
    (own_mounted g.D.Disk.moment_of g.D.Disk.left_since g.D.Disk.told g.D.Disk.image g.D.Disk.faults_of start opening c.args.self.now c.make_room.new.log c.args.entry c.make_room.ensures.same c.requires.fit b))) c.take_own.ensures.failed

pub returns-in_err-make_room-clause-kept : goal.returns-in_err-make_room-clause-kept
returns-in_err-make_room-clause-kept g c = on_err _ _ (room_only c.args.self.now c.make_room.new.log c.make_room.ensures.same)

pub returns-clause-kept : goal.returns-clause-kept
returns-clause-kept g c =
    err_weaker c.take_own.result _ _ (λ t. before_room c.args.self.now c.take_own.new.self c.make_room.new.log c.make_room.ensures.same t.same) c.take_own.ensures.failed

pub returns-clause-disk : goal.returns-clause-disk
returns-clause-disk g c =
    own_disk g.D.Disk.moment_of g.D.Disk.left_since g.D.Disk.told g.D.Disk.image g.D.Disk.faults_of c.take_own.result (record c.args.self.now { log = c.make_room.new.log }) c.take_own.new.self c.args.entry c.take_own.ensures.took c.take_own.ensures.failed

pub returns-in_err-make_room-clause-disk : goal.returns-in_err-make_room-clause-disk
returns-in_err-make_room-clause-disk g c = let same = c.args.self.now.store in reads_of g.D.Disk.told same same (still_disk same same refl)
