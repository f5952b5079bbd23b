use Rattle.std.proofs.Common.{sym, subst, OnOk}
use Rattle.do_tree.specs.Checked.{tree_of as script_in}
use Rattle.front_turns.specs.declared.object.State.{State}
use Rattle.front_turns.specs.declared.object.State.TheVariants.{Idle, Ended}
use Rattle.front_half.specs.Noticing.{GoesOn, in_mode}
use Rattle.front_half.specs.declared.half.Half.{Half}
use Rattle.front_half.specs.declared.half.Mode.TheVariants.{Serves}
use Rattle.front_half.proofs.Noticed.{idle_sticks, ended_sticks}
use Rattle.front_half.proofs.half.Half.take_stored.Goals as goal

pub returns-in-Waiting-clause-moves : goal.returns-in-Waiting-clause-moves
returns-in-Waiting-clause-moves g c =
    subst (λ (s : State g.row.T.Denot). OnOk c.take_waited.result (GoesOn g.T.Task.seen (script_in c.args.checked.now)
    (in_mode c.args.self.now (Serves s)) c.take_waited.new.self c.args.notice)) (sym c.in-Waiting.is) c.take_waited.ensures.moves

pub returns-in-Idle-clause-moves : goal.returns-in-Idle-clause-moves
returns-in-Idle-clause-moves g c =
    subst (λ (s : State g.row.T.Denot). GoesOn g.T.Task.seen (script_in c.args.checked.now) (in_mode c.args.self.now (Serves s)) c.stick.new.self c.args.notice)
    (sym c.in-Idle.is)
    (subst (λ (x : Half g.row.T.Denot). GoesOn g.T.Task.seen (script_in c.args.checked.now) (in_mode c.args.self.now (Serves (Idle c.in-Idle.object))) x c.args.notice)
    (sym c.stick.ensures)
    (idle_sticks g.T.Task.seen (script_in c.args.checked.now) c.args.self.now c.in-Idle.object c.args.notice c.requires.stored))

pub returns-in-Ended-clause-moves : goal.returns-in-Ended-clause-moves
returns-in-Ended-clause-moves g c =
    subst (λ (s : State g.row.T.Denot). GoesOn g.T.Task.seen (script_in c.args.checked.now) (in_mode c.args.self.now (Serves s)) c.stick-in-Ended.new.self c.args.notice)
    (sym c.in-Ended.is)
    (subst (λ (x : Half g.row.T.Denot). GoesOn g.T.Task.seen (script_in c.args.checked.now) (in_mode c.args.self.now (Serves (Ended c.in-Ended.cause))) x c.args.notice)
    (sym c.stick-in-Ended.ensures)
    (ended_sticks g.T.Task.seen (script_in c.args.checked.now) c.args.self.now c.in-Ended.cause c.args.notice c.requires.stored))
