use Rattle.std.proofs.Common.{refl, sym, ap, subst, OnOk, OnErr, Some}
use Rattle.std.proofs.lemmas.Result.{on_ok_weaker, on_err_weaker}
use Rattle.do_tree.specs.Tree.{Script}
use Rattle.timeline.specs.declared.front_log.FrontLog.{FrontLog}
use Rattle.timeline.specs.declared.notice.Notice.{Notice}
use Rattle.front_half.specs.Noticing.{GoesOn, IsStoppedBy, in_mode, is_end}
use Rattle.front_half.specs.declared.half.Half.{Half}
use Rattle.front_half.specs.declared.half.Mode.TheVariants.{Down}
use Rattle.front_half.proofs.Sent.{sent_none}
use Rattle.front_half.proofs.Unmounting.{mounting_sticks}
use Rattle.front_half.proofs.half.Half.take_mounting.Goals as goal

pub returns-in-Fresh-clause-moves : goal.returns-in-Fresh-clause-moves
returns-in-Fresh-clause-moves g c =
    subst (λ (n : Notice). OnOk c.mount.result ((script : Script) → GoesOn g.T.Task.seen script (in_mode c.args.self.now (Down (Some c.args.call))) c.mount.new.self n))
    (sym c.in-Fresh.is) (on_ok_weaker c.mount.result (λ all script. all script _ _) c.mount.ensures.moves)

pub returns-in-Fresh-clause-stops : goal.returns-in-Fresh-clause-stops
returns-in-Fresh-clause-stops g c =
    subst (λ (n : Notice). OnErr c.mount.result ((script : Script) → IsStoppedBy g.T.Task.seen script (in_mode c.args.self.now (Down (Some c.args.call))) c.mount.new.self n))
    (sym c.in-Fresh.is) (on_err_weaker c.mount.result (λ all script. all script _ _) c.mount.ensures.stops)

pub returns-in-Fresh-clause-too : goal.returns-in-Fresh-clause-too
returns-in-Fresh-clause-too g c = sent_none _ _ _ _ refl (ap (λ (l : FrontLog). l.sent.items) c.mount.ensures.log)

pub returns-in-Down-clause-moves : goal.returns-in-Down-clause-moves
returns-in-Down-clause-moves g c =
    subst (λ (n : Notice). OnOk c.fail_call.result ((script : Script) → GoesOn g.T.Task.seen script (in_mode c.args.self.now (Down (Some c.args.call))) c.fail_call.new.self n))
    (sym c.in-Down.is) (on_ok_weaker c.fail_call.result (λ all script. all script _) c.fail_call.ensures.moves)

pub returns-in-Down-clause-stops : goal.returns-in-Down-clause-stops
returns-in-Down-clause-stops g c =
    subst (λ (n : Notice). OnErr c.fail_call.result ((script : Script) → IsStoppedBy g.T.Task.seen script (in_mode c.args.self.now (Down (Some c.args.call))) c.fail_call.new.self n))
    (sym c.in-Down.is) (on_err_weaker c.fail_call.result (λ all script. all script _) c.fail_call.ensures.stops)

pub returns-in-Read-clause-moves : goal.returns-in-Read-clause-moves
returns-in-Read-clause-moves g c = λ script.
    subst (λ (x : Half g.row.T.Denot). GoesOn g.T.Task.seen script (in_mode c.args.self.now (Down (Some c.args.call))) x c.args.notice) (sym c.stick.ensures)
    (mounting_sticks g.T.Task.seen script c.args.self.now c.args.call c.args.notice (ap is_end c.in-Read.is))

pub returns-in-Taken-clause-moves : goal.returns-in-Taken-clause-moves
returns-in-Taken-clause-moves g c = λ script.
    subst (λ (x : Half g.row.T.Denot). GoesOn g.T.Task.seen script (in_mode c.args.self.now (Down (Some c.args.call))) x c.args.notice) (sym c.stick-in-Taken.ensures)
    (mounting_sticks g.T.Task.seen script c.args.self.now c.args.call c.args.notice (ap is_end c.in-Taken.is))

pub returns-in-Synced-clause-moves : goal.returns-in-Synced-clause-moves
returns-in-Synced-clause-moves g c = λ script.
    subst (λ (x : Half g.row.T.Denot). GoesOn g.T.Task.seen script (in_mode c.args.self.now (Down (Some c.args.call))) x c.args.notice) (sym c.stick-in-Synced.ensures)
    (mounting_sticks g.T.Task.seen script c.args.self.now c.args.call c.args.notice (ap is_end c.in-Synced.is))
