use Rattle.do_tree.specs.Checked.{tree_of as script_in}
use Rattle.object_front.specs.Evaluated.{seen}
use Rattle.object_front.proofs.Again.{can_turn_again}
use Rattle.object_front.proofs.front.Front.turn.Goals as goal

pub returns-clause-again : goal.returns-clause-again
returns-clause-again g c = can_turn_again seen (script_in c.args.checked.now) _ _ _ _ _ _ _ _ _ c.turn.result
    c.turn.ensures.stopped c.turn.ensures.still c.turn.ensures.ran c.turn.ensures.lost c.requires
