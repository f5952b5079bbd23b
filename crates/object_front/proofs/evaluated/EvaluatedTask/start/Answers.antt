use Rattle.object_front.proofs.evaluated.EvaluatedTask.start.Goals as goal

pub returns-clause-class : goal.returns-clause-class
returns-clause-class c = c.in_ok-turn.ensures.class c.args.class c.in_ok-outcome.ensures.class
