use Rattle.std.proofs.Common.{◌≡◌, List, Some, slice_get, subst}
use Rattle.do_tree.specs.Checked.{tree_of}
use Rattle.host_workers.specs.declared.joining.Halves.{Halves}
use Rattle.worker_pool.proofs.Behind.{has_run}
use Rattle.worker_pool.proofs.running.run_workers.Goals as goal

-- where memory was wanting
pub returns-in_default : goal.returns-in_default
returns-in_default g c = c.unmade.ensures (tree_of c.args.checked.now) c.requires.slots

pub returns-in_default-with_room : goal.returns-in_default-with_room
returns-in_default-with_room g c = c.unmade-in_default-with_room.ensures (tree_of c.args.checked.now) c.requires.slots

-- what stands behind pointers is what was given
pub run_prepared-requires-clause-slots : goal.run_prepared-requires-clause-slots
run_prepared-requires-clause-slots g c κs within = λ slot halves at. c.requires.slots slot halves
    (subst (λ (l : List (Halves g.row.D.Denot)). slice_get l slot ≡ Some halves) c.in-Ok-box_run.ensures.boxed.0 at)

-- and so is what is given back
pub returns-in-Err : goal.returns-in-Err
returns-in-Err g c =
    let back = c.in-Err.ensures.back in
    has_run back.0 back.1 g.D.Disk.moment_of g.D.Disk.left_since g.D.Disk.told g.D.Disk.image g.D.Disk.faults_of g.R.Source.left g.R.Source.faults_of
    g.W.Sink.taken g.W.Sink.faults_of (tree_of c.args.checked.now) c.unmade-in-Err.result back.2
    (c.unmade-in-Err.ensures (tree_of c.args.checked.now) (λ slot halves at. c.requires.slots slot halves
    (subst (λ (l : List (Halves g.row.D.Denot)). slice_get l slot ≡ Some halves) back.0 at)))
