use Rattle.std.proofs.Common.{subst}
use Rattle.script_eval.specs.Tasks.{class_in, IsOfClass}
use Rattle.script_eval.specs.declared.task.Task.{Task}
use Rattle.object_front.proofs.evaluated.EvaluatedTask.resume.Goals as goal

pub returns-clause-class : goal.returns-clause-class
returns-clause-class c = c.in_ok-turn.ensures.class (class_in c.args.self.task.value)
    (subst (λ (t : Task). IsOfClass (class_in t) c.in_ok-outcome.outcome) c.into_inner-task.ensures c.in_ok-outcome.ensures.class)
