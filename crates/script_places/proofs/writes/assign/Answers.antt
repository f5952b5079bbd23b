use Rattle.std.proofs.Common.{is_ok, ap}
use Rattle.do_value.specs.Seen.{tree_of}
use Rattle.script_places.specs.Steps.{steps_in}
use Rattle.script_places.proofs.Gives.{on_ok, value_put}
use Rattle.script_places.proofs.writes.assign.Goals.{in-Ok, in-Err}
use Rattle.script_places.proofs.writes.assign.Goals as goal

pub returns-clause-value : goal.returns-clause-value
returns-clause-value c = elim c.match-write.branch [
  | in-Ok w ↦
      on_ok c.match-write.result _
      (value_put (steps_in c.args.steps.now) (tree_of c.args.value) (tree_of c.args.whole.now) c.args.whole.now c.write.new.whole c.write.result c.write.ensures (ap is_ok w.in-Ok.is))
  | in-Err w ↦ rw w.result-is tt
]
