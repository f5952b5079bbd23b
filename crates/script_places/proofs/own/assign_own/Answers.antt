use Rattle.std.proofs.Common.{is_ok, ap}
use Rattle.do_value.specs.Seen.{tree_of}
use Rattle.script_places.specs.Steps.{steps_in}
use Rattle.script_places.proofs.Gives.{on_ok, own_value_put}
use Rattle.script_places.proofs.own.assign_own.Goals.{in-Ok, in-Err}
use Rattle.script_places.proofs.own.assign_own.Goals as goal

pub returns-clause-value : goal.returns-clause-value
returns-clause-value c = elim c.match-write_own.branch [
  | in-Ok w ↦
      on_ok c.match-write_own.result _
      (own_value_put c.args.name.now (steps_in c.args.steps.now) (tree_of c.args.value) c.args.fields.now c.write_own.new.fields c.write_own.result c.write_own.ensures (ap is_ok w.in-Ok.is))
  | in-Err w ↦ rw w.result-is tt
]
