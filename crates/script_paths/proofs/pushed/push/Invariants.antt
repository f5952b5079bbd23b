use Rattle.std.proofs.Common.{◌≡◌}
use Rattle.do_tree.specs.Seen.{expr_of}
use Rattle.script_mean.specs.Calls.{Calls}
use Rattle.script_mean.specs.Meaning.{to_push}
use Rattle.script_mean.specs.Paths.{parts_behind_call}
use Rattle.script_paths.proofs.Found.{how_many}
use Rattle.script_places.specs.Steps.{steps_in}
use Rattle.script_steps.specs.Parts.{links_in}
use Rattle.script_steps.specs.Paths.{root_of}
use Rattle.script_paths.proofs.pushed.push.Given as goal

abbrev pub invariant-fields : goal.invariant-fields
invariant-fields l = record {
  root : l.root ≡ l.fn.root;
  same : (calls : Calls) → to_push calls (root_of l.fn.root) (steps_in l.initial.steps.items) (links_in (expr_of l.node.value) l.initial.place)
      ≡ to_push calls (root_of l.fn.root) (steps_in l.steps.items) (links_in (expr_of l.node.value) l.place);
  parts : parts_behind_call (links_in (expr_of l.node.value) l.initial.place) ≡ parts_behind_call (links_in (expr_of l.node.value) l.place);
}

abbrev pub decreases-fields : goal.decreases-fields
decreases-fields l = how_many (links_in (expr_of l.node.value) l.place)
