use Rattle.std.proofs.Common.{◌∙◌}
use Rattle.do_host.proofs.Accepted.{refusal_whole, script_line_whole}
use Rattle.do_host.proofs.Outcomes.{if_ok_map}
use Rattle.do_host.proofs.script.told_script.Goals as goal

pub returns-clause-told : goal.returns-clause-told
returns-clause-told g c =
    if_ok_map c.accepted_line.result _ _ (λ line told. λ whole is. script_line_whole whole _ line.items (c.as_slice.ensures.value ∙ c.in_ok-text.ensures.content whole is) told) c.accepted_line.ensures.told

pub returns-clause-refused : goal.returns-clause-refused
returns-clause-refused g c = λ line by whole is. refusal_whole whole _ line (c.as_slice.ensures.value ∙ c.in_ok-text.ensures.content whole is) (c.accepted_line.ensures.refused line by)
