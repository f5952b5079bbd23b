use Rattle.std.proofs.Common.{sym, ◌∙◌}
use Rattle.script_calls.proofs.Objects.{first_value}
use Rattle.script_steps.proofs.Begun.{if_ok}
use Rattle.script_calls.proofs.word.first_of.Goals as goal

pub returns-in-Some : goal.returns-in-Some
returns-in-Some c = if_ok c.copy.result (λ v e. e ∙ sym (first_value c.args.args.now c.in-Some.value.now c.in-Some.ensures.value)) c.copy.ensures
