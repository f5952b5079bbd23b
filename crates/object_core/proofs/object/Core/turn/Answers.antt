use Rattle.std.proofs.Common.{refl, sym, subst}
use Rattle.std.specs.Prelude.{Bool, Result}
use Rattle.do_tree.specs.Checked.{tree_of}
use Rattle.do_value.specs.declared.fault.NoMemory.{NoMemory}
use Rattle.output_gate.proofs.Stored.{still_disk, still_tells}
use Rattle.object_core.proofs.Turning.{TurnsBy, turn_keeps, can_turn}
use Rattle.object_core.proofs.Turns.{turn_steps}
use Rattle.object_core.specs.Stepping.{Steps}
use Rattle.object_core.specs.declared.choice.Choice.TheVariants.{Turn}
use Rattle.object_core.proofs.object.Core.turn.Goals as goal

pub turn-turned-requires : goal.turn-turned-requires
turn-turned-requires g c =
    let r = c.requires in
    can_turn g.D.Disk.moment_of g.D.Disk.left_since g.D.Disk.told g.D.Disk.image g.D.Disk.faults_of (tree_of c.args.checked.now) r.0 c.args.self.now.front.half c.args.self.now.inbox c.args.self.now.back c.args.self.now.line c.args.self.now.notices c.args.self.now.out r.1

pub returns-clause-steps : goal.returns-clause-steps
returns-clause-steps g c =
    let e = c.turn-turned.ensures in
    let r = c.requires in
    let by : TurnsBy (tree_of c.args.checked.now) c.args.self.now.front.half c.turn-turned.new.self.half c.args.self.now.inbox c.turn-turned.new.inbox c.args.self.now.line c.turn-turned.new.line c.args.self.now.notices c.turn-turned.new.notices c.turn-turned.result =
    record { stopped = e.stopped; stuck = e.stuck; still = e.still; idle = e.idle; ran = e.ran; lost = e.lost; too = e.too; events = e.inbox.1; told = e.notices.1; said = e.line.1 } in
    subst (λ (x : Result Bool NoMemory). Steps g.D.Disk.moment_of g.D.Disk.told g.D.Disk.image g.D.Disk.faults_of (tree_of c.args.checked.now) c.args.self.now (record c.args.self.now { front = c.turn-turned.new.self; inbox = c.turn-turned.new.inbox; line = c.turn-turned.new.line; notices = c.turn-turned.new.notices }) Turn x)
    (sym c.turned_so.ensures)
    (turn_steps g.D.Disk.moment_of g.D.Disk.told g.D.Disk.image g.D.Disk.faults_of (tree_of c.args.checked.now) c.args.self.now c.turn-turned.new.self c.turn-turned.new.inbox c.turn-turned.new.line c.turn-turned.new.notices
    (λ on. (r.1.st, r.1.front_stands on)) c.turn-turned.result by)

pub returns-clause-one : goal.returns-clause-one
returns-clause-one g c origin one =
    let e = c.turn-turned.ensures in
    turn_keeps g.D.Disk.moment_of g.D.Disk.left_since g.D.Disk.told g.D.Disk.image g.D.Disk.faults_of c.turn_steps.ensures c.events_come.ensures c.class_comes.ensures c.early_is_unasked.ensures c.drops_are_answered.ensures (tree_of c.args.checked.now) origin c.args.self.now.front.half c.turn-turned.new.self.half c.args.self.now.back
    c.args.self.now.inbox c.turn-turned.new.inbox c.args.self.now.line c.turn-turned.new.line c.args.self.now.notices c.turn-turned.new.notices c.args.self.now.out one c.turn-turned.result
    (record { stopped = e.stopped; stuck = e.stuck; still = e.still; idle = e.idle; ran = e.ran; lost = e.lost; too = e.too; events = e.inbox.1; told = e.notices.1; said = e.line.1 })

pub returns-clause-tells : goal.returns-clause-tells
returns-clause-tells g c = let same = c.args.self.now.back.store in still_tells g.D.Disk.told same same (still_disk same same refl)
