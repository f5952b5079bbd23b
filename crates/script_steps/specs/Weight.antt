-- How much is left to do until the next step is charged: each move leaves less, but for what its steps pay. So a turn, whose
-- steps are limited, comes to its end.
use Rattle.std.specs.Prelude.{ℕ, ◌+◌, ◌*◌, ◌<◌}
use Rattle.do_tree.specs.Seen.{expr_of}
use Rattle.do_tree.specs.Tree.{Links}
use Rattle.script_mean.specs.Paths as point
use Rattle.script_mean.specs.Paths.{parts, parts_behind_call, parts_from}
use Rattle.script_steps.specs.Parts.{links_in}
use Rattle.script_steps.specs.declared.path.Point.{Point}
use Rattle.script_steps.specs.declared.path.Point.TheVariants as come
use Rattle.script_steps.specs.declared.path.Callee.{Callee}
use Rattle.script_steps.specs.declared.path.Callee.TheVariants as callee
use Rattle.script_steps.specs.declared.path.PathFrame.{PathFrame}
use Rattle.script_steps.specs.declared.path.PathFrame.TheVariants as path
use Rattle.script_steps.specs.declared.frame.Frame.{Frame}
use Rattle.script_steps.specs.declared.frame.Frame.TheVariants as frame
use Rattle.script_steps.specs.declared.focus.Focus.{Focus}
use Rattle.script_steps.specs.declared.focus.Focus.TheVariants as focus
use Rattle.script_steps.specs.declared.focus.Move.{Move}
use Rattle.script_steps.specs.declared.focus.Move.TheVariants as move

-- What a step pays.
abbrev pub step_pays : ℕ
step_pays = 40

-- A part that has ended.
abbrev pub ended_weight : ℕ
ended_weight = 8

-- A path from a value on, by how many expressions its links are.
abbrev pub path_weight : ℕ → ℕ
path_weight n = 4 + 10 * n

-- A call, besides what is so of every call.
abbrev pub callee_weight : Callee → ℕ
callee_weight (callee.Identifier awaited x e n next) = 8 + 10 * parts_behind_call (links_in (expr_of e.value) next)
callee_weight (callee.Instance awaited x name e n) = 6 + 10 * parts_behind_call (links_in (expr_of e.value) n)
callee_weight _ = 0

abbrev pub path_frame_weight : PathFrame → ℕ
path_frame_weight (path.Walk awaited e n) = path_weight (parts (links_in (expr_of e.value) n))
path_frame_weight (path.Index awaited v e n) = path_weight (parts (links_in (expr_of e.value) n))
path_frame_weight (path.Call c got e n k) = 10 + callee_weight c
path_frame_weight (path.PushIndex r ss e n) = 16 + 10 * parts_behind_call (links_in (expr_of e.value) n)
path_frame_weight (path.PlaceIndex w r ss e n) = 5
path_frame_weight (path.Assign r ss) = 3
path_frame_weight (path.Update r ss o old) = 3

abbrev pub frame_weight : Frame → ℕ
frame_weight (frame.Declare b n next) = 4
frame_weight (frame.GoOn b next) = 2
frame_weight frame.Leave = 2
frame_weight (frame.Catch s) = 5
frame_weight (frame.Path f) = path_frame_weight f.value
frame_weight frame.Commit = 2
frame_weight (frame.Unblock awaited) = 2
frame_weight _ = 1

-- A path from a point on.
abbrev pub walk_weight : Point → Links → ℕ
walk_weight come.Itself ls = 20 + 10 * parts_from point.itself ls
walk_weight come.Context ls = 11 + 10 * parts_from point.context ls
walk_weight come.Storage ls = 10 + 10 * parts_from point.storage ls
walk_weight come.Environment ls = 15 + 10 * parts_from point.environment ls
walk_weight (come.Class x) ls = 14 + 10 * parts_from (point.of_class x) ls
walk_weight come.Handle ls = 10 + 10 * parts_from point.handle ls
walk_weight (come.Word w) ls = 10 + 10 * parts_from (point.word w) ls
walk_weight (come.Holds v) ls = 10 + 10 * parts ls

abbrev pub focus_weight : Focus → ℕ
focus_weight (focus.Ended o) = ended_weight
focus_weight (focus.Value awaited e) = 2
focus_weight (focus.Variable e) = 9
focus_weight (focus.Named name) = 1
focus_weight (focus.Run s) = 2
focus_weight (focus.Body b n) = 9
focus_weight (focus.Block b) = 12
focus_weight (focus.Declare b n v) = 9
focus_weight (focus.Loop e s b) = 4
focus_weight (focus.Count s v) = 7
focus_weight (focus.Visit s v) = 5
focus_weight (focus.Handle s v) = 12
focus_weight (focus.Simple p) = 1
focus_weight (focus.Write p) = 12
focus_weight (focus.Leave o) = 9
focus_weight (focus.Handed f v) = 7 + path_frame_weight f.value
focus_weight (focus.Walk awaited p e n) = walk_weight p (links_in (expr_of e.value) n)
focus_weight (focus.Arguments c got e n k) = 15 + callee_weight c
focus_weight (focus.Call c got) = 14 + callee_weight c
focus_weight (focus.Push r ss e n) = 20 + 10 * parts_behind_call (links_in (expr_of e.value) n)
focus_weight (focus.Place w r ss e n) = 11
focus_weight (focus.Written w r ss) = 10
focus_weight (focus.Assign r ss v) = 9
focus_weight (focus.Return awaited vars o) = 9
focus_weight (focus.Commit o) = 9
focus_weight (focus.Unblock awaited o) = 9

-- What a move leaves, and the steps that it charges.
abbrev pub move_weight : Move → ℕ
move_weight (move.Then n f) = focus_weight f
move_weight (move.Inside n w f) = frame_weight w + focus_weight f

abbrev pub move_cost : Move → ℕ
move_cost (move.Then n f) = n
move_cost (move.Inside n w f) = n

-- The move leaves less than there was before, but for what its steps pay.
abbrev pub LeavesLess : ℕ → Move → Type 0
LeavesLess before m = move_weight m < before + step_pays * move_cost m
