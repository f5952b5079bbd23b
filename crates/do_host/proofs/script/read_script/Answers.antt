use Rattle.std.proofs.Common.{◌∙◌}
use Rattle.do_tree.specs.Checked.{tree_of}
use Rattle.do_host.proofs.Accepted.{accepted_whole, refusal_whole}
use Rattle.do_host.proofs.Outcomes.{if_ok_map}
use Rattle.do_host.proofs.script.read_script.Goals as goal

pub returns-clause-accepted : goal.returns-clause-accepted
returns-clause-accepted g c =
    if_ok_map c.accept.result _ _ (λ checked accepted. λ whole is. accepted_whole whole _ (tree_of checked) (c.as_slice.ensures.value ∙ c.in_ok-text.ensures.content whole is) accepted) c.accept.ensures.accepted

pub returns-clause-refused : goal.returns-clause-refused
returns-clause-refused g c = λ line by whole is. refusal_whole whole _ line (c.as_slice.ensures.value ∙ c.in_ok-text.ensures.content whole is) (c.accept.ensures.refused line by)
