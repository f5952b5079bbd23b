use Rattle.std.proofs.Common.{◌∙◌, sym, ap, subst, OnOk, OnErr}
use Rattle.std.proofs.lemmas.Result.{on_ok_weaker, on_err_weaker}
use Rattle.do_tree.specs.Checked.{tree_of as script_in}
use Rattle.front_half.specs.Noticing.{GoesOn, IsStoppedBy, in_mode}
use Rattle.front_half.specs.Standing.{IsHalf, is_stopped_mode}
use Rattle.front_half.specs.declared.half.Mode.{Mode}
use Rattle.front_half.proofs.Noticed.{stopped_not}
use Rattle.front_half.proofs.half.Half.take_notice.Goals as goal

pub take_serving-requires-clause-half : goal.take_serving-requires-clause-half
take_serving-requires-clause-half g c = (
  c.requires.0,
  subst (λ (m : Mode g.row.T.Denot). IsHalf g.T.Task.seen (script_in c.args.checked.now) (in_mode c.args.self.now m) c.requires.0)
      (sym c.replace-mode.ensures.value ∙ c.in-Serves.is) c.requires.1,
)

pub take_serving-requires-clause-stopped : goal.take_serving-requires-clause-stopped
take_serving-requires-clause-stopped g c = ap is_stopped_mode c.replace-mode.ensures.after

pub take_unmounted-requires : goal.take_unmounted-requires
take_unmounted-requires g c = record { stopped = ap is_stopped_mode c.replace-mode.ensures.after }

pub unreachable-requires : goal.unreachable-requires
unreachable-requires g c = stopped_not g.T.Task.seen (script_in c.args.checked.now) c.args.self.now c.requires.0
    (subst (λ (m : Mode g.row.T.Denot). IsHalf g.T.Task.seen (script_in c.args.checked.now) (in_mode c.args.self.now m) c.requires.0)
    (sym c.replace-mode.ensures.value ∙ c.in-Stopped.is) c.requires.1)

pub returns-in-Serves-clause-moves : goal.returns-in-Serves-clause-moves
returns-in-Serves-clause-moves g c =
    subst (λ (m : Mode g.row.T.Denot). OnOk c.take_serving.result (GoesOn g.T.Task.seen (script_in c.args.checked.now) (in_mode c.args.self.now m) c.take_serving.new.self c.args.notice))
    (sym c.in-Serves.is ∙ c.replace-mode.ensures.value) c.take_serving.ensures.moves

pub returns-in-Serves-clause-stops : goal.returns-in-Serves-clause-stops
returns-in-Serves-clause-stops g c =
    subst (λ (m : Mode g.row.T.Denot). OnErr c.take_serving.result (IsStoppedBy g.T.Task.seen (script_in c.args.checked.now) (in_mode c.args.self.now m) c.take_serving.new.self c.args.notice))
    (sym c.in-Serves.is ∙ c.replace-mode.ensures.value) c.take_serving.ensures.stops

pub returns-in-Down-clause-moves : goal.returns-in-Down-clause-moves
returns-in-Down-clause-moves g c =
    subst (λ (m : Mode g.row.T.Denot). OnOk c.take_unmounted.result (GoesOn g.T.Task.seen (script_in c.args.checked.now) (in_mode c.args.self.now m) c.take_unmounted.new.self c.args.notice))
    (sym c.in-Down.is ∙ c.replace-mode.ensures.value) (on_ok_weaker c.take_unmounted.result (λ all. all (script_in c.args.checked.now)) c.take_unmounted.ensures.moves)

pub returns-in-Down-clause-stops : goal.returns-in-Down-clause-stops
returns-in-Down-clause-stops g c =
    subst (λ (m : Mode g.row.T.Denot). OnErr c.take_unmounted.result (IsStoppedBy g.T.Task.seen (script_in c.args.checked.now) (in_mode c.args.self.now m) c.take_unmounted.new.self c.args.notice))
    (sym c.in-Down.is ∙ c.replace-mode.ensures.value) (on_err_weaker c.take_unmounted.result (λ all. all (script_in c.args.checked.now)) c.take_unmounted.ensures.stops)
