use Rattle.std.proofs.Common.{◌≡◌, List}
use Rattle.do_value.specs.Tree.{Tree}
use Rattle.do_tree.specs.Seen.{expr_of}
use Rattle.script_mean.specs.Calls.{Calls}
use Rattle.script_mean.specs.Meaning.{arguments}
use Rattle.script_mean.specs.Turn.{Run}
use Rattle.script_paths.proofs.Args.{how_many}
use Rattle.script_steps.specs.Parts.{args_in}
use Rattle.script_paths.proofs.call_arguments.arguments.Given as goal

abbrev pub invariant-callbacks : goal.invariant-callbacks
invariant-callbacks l = record {
  callee : l.callee ≡ l.fn.callee;
  same : (calls : Calls) (got : List Tree) (call : List Tree → Run)
      → arguments calls (args_in (expr_of l.node.value) l.link l.initial.place) got call ≡ arguments calls (args_in (expr_of l.node.value) l.link l.place) got call;
}

abbrev pub decreases-callbacks : goal.decreases-callbacks
decreases-callbacks l = how_many (args_in (expr_of l.node.value) l.link l.place)
