use Rattle.std.proofs.Common.{ap, ◌∙◌}
use Rattle.script_mean.specs.Answers as answers
use Rattle.script_mean.specs.Task as task
use Rattle.script_steps.proofs.Begun.{if_ok}
use Rattle.script_state.proofs.answers.read.Goals as goal

pub returns-in-Read : goal.returns-in-Read
returns-in-Read c =
    if_ok c.worked.result
    (λ o end. ap (λ answer. answers.answered task.reads answer) c.in-Read.is ∙ end)
    (c.worked.ensures _ c.value_of_reading.ensures)
