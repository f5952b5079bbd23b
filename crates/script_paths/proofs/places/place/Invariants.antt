use Rattle.std.proofs.Common.{◌≡◌, List}
use Rattle.do_tree.specs.Seen.{expr_of}
use Rattle.script_mean.specs.Calls.{Calls}
use Rattle.script_mean.specs.Meaning.{to_place}
use Rattle.script_mean.specs.Places.{Step}
use Rattle.script_mean.specs.Turn.{Run}
use Rattle.script_paths.proofs.Found.{how_many}
use Rattle.script_places.specs.Steps.{steps_in}
use Rattle.script_steps.specs.Parts.{links_in}
use Rattle.script_steps.specs.Paths.{root_of}
use Rattle.script_paths.proofs.places.place.Given as goal

abbrev pub invariant-fields : goal.invariant-fields
invariant-fields l = record {
  root : l.root ≡ l.fn.root;
  writing : l.writing ≡ l.fn.writing;
  same : (calls : Calls) (done : List Step → Run) → to_place calls (root_of l.fn.root) (steps_in l.initial.steps.items) (links_in (expr_of l.node.value) l.initial.place) done
      ≡ to_place calls (root_of l.fn.root) (steps_in l.steps.items) (links_in (expr_of l.node.value) l.place) done;
}

abbrev pub decreases-fields : goal.decreases-fields
decreases-fields l = how_many (links_in (expr_of l.node.value) l.place)
