use Rattle.do_tree.specs.Checked.{tree_of}
use Rattle.object_front.specs.Evaluated.{seen}
use Rattle.front_half.specs.Turning.{CanTurn}
use Rattle.object_tests.proofs.fronts.drive.answer_often.Given as goal

-- a turn may be asked for
abbrev pub invariant-loop-number : goal.invariant-loop-number
invariant-loop-number l = CanTurn seen (tree_of l.fn.checked) l.front.half
