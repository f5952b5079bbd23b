-- Paths while they run, as the definition of the meaning has them.
use Rattle.std.specs.Prelude.{Bool, false, true, Option}
use Rattle.do_value.specs.Seen.{tree_of, trees_in}
use Rattle.do_tree.specs.Seen.{expr_of, items_of, option_named_of}
use Rattle.do_tree.specs.Tree.{Named, Items}
use Rattle.do_tree.specs.declared.expr.Arg.TheBlock as node
use Rattle.do_tree.specs.declared.expr.Callback.{Callback}
use Rattle.script_mean.specs.Frames as frame
use Rattle.script_mean.specs.Frames.{Frame}
use Rattle.script_mean.specs.Paths as point
use Rattle.script_mean.specs.Places as place
use Rattle.script_places.specs.Steps.{steps_in}
use Rattle.script_steps.specs.Parts.{links_in, args_in}
use Rattle.script_steps.specs.declared.path.Await.{Await}
use Rattle.script_steps.specs.declared.path.Await.TheVariants as await
use Rattle.script_steps.specs.declared.path.Root.{Root}
use Rattle.script_steps.specs.declared.path.Root.TheVariants as root
use Rattle.script_steps.specs.declared.path.Point.{Point}
use Rattle.script_steps.specs.declared.path.Point.TheVariants as come
use Rattle.script_steps.specs.declared.path.Callee.{Callee}
use Rattle.script_steps.specs.declared.path.Callee.TheVariants as callee
use Rattle.script_steps.specs.declared.path.Writing.{Writing}
use Rattle.script_steps.specs.declared.path.Writing.TheVariants as writing
use Rattle.script_steps.specs.declared.path.PathFrame.{PathFrame}
use Rattle.script_steps.specs.declared.path.PathFrame.TheVariants as waiting

-- Whether an await stands before an expression, or before a call.
abbrev pub is_present : Await → Bool
is_present await.Present = true
is_present await.Absent = false

-- Where a place begins.
abbrev pub root_of : Root → place.Root
root_of (root.Variable name) = place.variable name
root_of (root.Own name) = place.own name

-- What a path has come to.
abbrev pub point_of : Point → point.Point
point_of come.Itself = point.itself
point_of come.Context = point.context
point_of come.Storage = point.storage
point_of come.Environment = point.environment
point_of (come.Class x) = point.of_class x
point_of come.Handle = point.handle
point_of (come.Word w) = point.word w
point_of (come.Holds v) = point.holds (tree_of v)

-- A callback: the name of its parameter, if it has one, and its body.
abbrev pub parameter_of : Callback → Option Named
parameter_of (node.struct-Callback at n _ _ _ body) = option_named_of n

abbrev pub body_of : Callback → Items
body_of (node.struct-Callback at n _ _ _ body) = items_of body

-- What is called.
abbrev pub callee_of : Callee → frame.Callee
callee_of (callee.Storage awaited name) = frame.of_storage (is_present awaited) name
callee_of (callee.Handle awaited name) = frame.of_handle (is_present awaited) name
callee_of (callee.Object awaited name) = frame.of_object (is_present awaited) name
callee_of (callee.Value name) = frame.of_value name
callee_of (callee.Word w) = frame.of_word w
callee_of (callee.Owner w name) = frame.of_owner w name
callee_of (callee.Place r ss) = frame.of_place (root_of r) (steps_in ss.items)
callee_of (callee.Transaction c) = frame.a_transaction (parameter_of c.value) (body_of c.value)
callee_of (callee.Block awaited c) = frame.a_block (is_present awaited) (body_of c.value)
callee_of (callee.Identifier awaited x e n next) = frame.an_identifier (is_present awaited) x (args_in (expr_of e.value) n 1) (links_in (expr_of e.value) next)
callee_of (callee.Instance awaited x name e n) = frame.an_object (is_present awaited) x (tree_of name) (links_in (expr_of e.value) n)
callee_of (callee.Method x method name) = frame.a_method x method (tree_of name)

-- What is done with a place.
abbrev pub writing_of : Writing → frame.Writing
writing_of (writing.Assigns e) = frame.assigns (expr_of e.value)
writing_of (writing.Updates o e) = frame.updates o (expr_of e.value)
writing_of (writing.Moves n) = frame.moves n

-- A part of a path or of a write that is still to run.
abbrev pub path_frame_of : PathFrame → Frame
path_frame_of (waiting.Walk awaited e n) = frame.to_walk (is_present awaited) (links_in (expr_of e.value) n)
path_frame_of (waiting.Index awaited v e n) = frame.to_index (is_present awaited) (tree_of v) (links_in (expr_of e.value) n)
path_frame_of (waiting.Call c got e n k) = frame.to_call (callee_of c) (trees_in got.items) (args_in (expr_of e.value) n k)
path_frame_of (waiting.PushIndex r ss e n) = frame.to_push_index (root_of r) (steps_in ss.items) (links_in (expr_of e.value) n)
path_frame_of (waiting.PlaceIndex w r ss e n) = frame.to_place_index (writing_of w) (root_of r) (steps_in ss.items) (links_in (expr_of e.value) n)
path_frame_of (waiting.Assign r ss) = frame.to_assign (root_of r) (steps_in ss.items)
path_frame_of (waiting.Update r ss o old) = frame.to_update (root_of r) (steps_in ss.items) o (tree_of old)
