use Rattle.std.proofs.Common.{sym, subst, Option, OnOk, OnErr}
use Rattle.do_tree.specs.Tree.{Script}
use Rattle.timeline.specs.declared.event.Event.{Event}
use Rattle.front_half.specs.Noticing.{GoesOn, IsStoppedBy, in_mode}
use Rattle.front_half.specs.declared.half.Half.{Half}
use Rattle.front_half.specs.declared.half.Mode.TheVariants.{Down}
use Rattle.std.specs.Prelude.{None}
use Rattle.front_half.proofs.Unmounting.{unmounted_sticks}
use Rattle.front_half.proofs.half.Half.take_unmounted.Goals as goal

pub returns-in-Some-clause-moves : goal.returns-in-Some-clause-moves
returns-in-Some-clause-moves g c =
    subst (λ (call : Option Event). OnOk c.take_mounting.result ((script : Script) → GoesOn g.T.Task.seen script (in_mode c.args.self.now (Down call)) c.take_mounting.new.self c.args.notice))
    (sym c.in-Some.is) c.take_mounting.ensures.moves

pub returns-in-Some-clause-stops : goal.returns-in-Some-clause-stops
returns-in-Some-clause-stops g c =
    subst (λ (call : Option Event). OnErr c.take_mounting.result ((script : Script) → IsStoppedBy g.T.Task.seen script (in_mode c.args.self.now (Down call)) c.take_mounting.new.self c.args.notice))
    (sym c.in-Some.is) c.take_mounting.ensures.stops

pub returns-in-None-clause-moves : goal.returns-in-None-clause-moves
returns-in-None-clause-moves g c = λ script.
    subst (λ (call : Option Event). GoesOn g.T.Task.seen script (in_mode c.args.self.now (Down call)) c.stick.new.self c.args.notice) (sym c.in-None.is)
    (subst (λ (x : Half g.row.T.Denot). GoesOn g.T.Task.seen script (in_mode c.args.self.now (Down None)) x c.args.notice) (sym c.stick.ensures)
    (unmounted_sticks g.T.Task.seen script c.args.self.now c.args.notice))
