use Rattle.std.proofs.Common.{◌∙◌, sym, subst}
use Rattle.do_tree.specs.Checked.{tree_of as script_in}
use Rattle.front_half.specs.Noticing.{GoesOn, in_wait}
use Rattle.front_half.specs.declared.half.Half.{Half}
use Rattle.front_half.proofs.Noticed.{wait_sticks}
use Rattle.front_half.proofs.half.Half.take_waited.Goals as goal

pub returns-in-None-clause-moves : goal.returns-in-None-clause-moves
returns-in-None-clause-moves g c =
    subst (λ (x : Half g.row.T.Denot). GoesOn g.T.Task.seen (script_in c.args.checked.now)
    (in_wait c.args.self.now c.args.object c.args.running c.args.task c.args.asked) x c.args.notice) (sym c.stick.ensures)
    (wait_sticks g.T.Task.seen (script_in c.args.checked.now) c.args.self.now c.args.object c.args.running c.args.task c.args.asked c.args.notice
    c.requires.stored (sym c.answer_to.ensures ∙ c.in-None.is))
