-- Frames, foci and moves as the definition of the meaning has them.
use Rattle.std.specs.Prelude.{ℕ, zero, suc, Bool, false, pos, negsuc, List, [], ◌∷◌, drop, Option, Some, None}
use Rattle.do_value.specs.Seen.{tree_of, trees_in, pairs_in}
use Rattle.do_value.specs.Tree.{Tree}
use Rattle.do_value.specs.declared.operator.BinOp.{BinOp}
use Rattle.do_value.specs.declared.operator.BinOp.TheVariants.{Add, Sub}
use Rattle.do_tree.specs.Nodes.{block_in, option_stmt_in, simple_of}
use Rattle.do_tree.specs.Seen.{expr_of, stmt_of}
use Rattle.do_tree.specs.Tree as tree
use Rattle.do_tree.specs.Tree.{Expr, OptionExpr, OptionStmt, Operands, Stmt, Simple}
use Rattle.script_ops.specs.Binary.{binary}
use Rattle.script_ops.specs.Truth.{is_true}
use Rattle.script_mean.specs.Answers.{Outcome, gave, threw, returned, broke, continued}
use Rattle.script_mean.specs.Calls.{Calls, on_transaction, on_block}
use Rattle.script_mean.specs.Frames as frame
use Rattle.script_mean.specs.Frames.{Frame, frame_next, called, written}
use Rattle.script_mean.specs.Meaning.{value, value_or_undefined, strict, arguments, links, to_push, to_place, place, body, run, run_or_pass, simple, caught_as, to_caller}
use Rattle.script_mean.specs.Places.{variable_value, put, write}
use Rattle.script_mean.specs.Task as task
use Rattle.script_mean.specs.Task.{Env}
use Rattle.script_mean.specs.Turn.{Run, either, ends, nowhere, of, step, steps, within, leaving, declare, ◌>>=◌, ◌>>◌}
use Rattle.script_places.specs.Steps.{steps_in}
use Rattle.script_vars.specs.Seen.{env_of}
use Rattle.script_steps.specs.Paths.{is_present, root_of, point_of, callee_of, writing_of, path_frame_of}
use Rattle.script_steps.specs.Parts.{links_in, args_in, exprs_of, chain_of, operands_of, pairs_of, name_of, exprs_from, operands_from, pairs_from, name_in, body_in, test_in, step_in, caught_in, handler_in, items_from, declared_in}
use Rattle.script_steps.specs.declared.frame.Between.{Between as Standing}
use Rattle.script_steps.specs.declared.frame.Between.TheVariants as standing
use Rattle.script_steps.specs.declared.frame.Frame.{Frame as Waiting}
use Rattle.script_steps.specs.declared.frame.Frame.TheVariants as waiting
use Rattle.script_steps.specs.declared.focus.Focus.{Focus}
use Rattle.script_steps.specs.declared.focus.Focus.TheVariants as focus
use Rattle.script_steps.specs.declared.focus.Move.{Move}
use Rattle.script_steps.specs.declared.focus.Move.TheVariants as move
use Rattle.script_steps.specs.declared.focus.Outcome.{Outcome as Ending}
use Rattle.script_steps.specs.declared.focus.Outcome.TheVariants as ending

-- What stands between two turns of a loop.
abbrev pub between_of : Standing → frame.Between
between_of standing.AtOnce = frame.at_once
between_of (standing.Stepped p) = frame.stepped (simple_of p.value)

-- The frame as the definition has it, with the parts that are still to come in place of where they stand.
abbrev pub frame_of : Waiting → Frame
frame_of (waiting.Choose a b) = frame.to_choose (expr_of a.value) (expr_of b.value)
frame_of (waiting.Chain e n) = frame.to_chain (chain_of (expr_of e.value)) (exprs_from n (exprs_of (expr_of e.value)))
frame_of (waiting.Operate e n) = frame.to_operate (operands_from n (operands_of (expr_of e.value)))
frame_of (waiting.Apply v o e n) = frame.to_apply (tree_of v) o (operands_from n (operands_of (expr_of e.value)))
frame_of (waiting.Prefix o) = frame.to_prefix o
frame_of (waiting.List got e n) = frame.to_list (trees_in got.items) (exprs_from n (exprs_of (expr_of e.value)))
frame_of (waiting.Record got name e n) = frame.to_record (pairs_in got.items) name (pairs_from n (pairs_of (expr_of e.value)))
frame_of waiting.Error = frame.to_error
frame_of (waiting.Declare b n next) = frame.to_declare (declared_in (items_from n (block_in b.value))) (items_from next (block_in b.value))
frame_of (waiting.GoOn b next) = frame.to_go_on (items_from next (block_in b.value))
frame_of (waiting.Branch s o) = frame.to_branch (stmt_of s.value) (option_stmt_in o)
frame_of (waiting.Test e s b) = frame.to_test (expr_of e.value) (stmt_of s.value) (between_of b)
frame_of (waiting.Turn e s b) = frame.to_turn (expr_of e.value) (stmt_of s.value) (between_of b)
frame_of (waiting.Loop e s b) = frame.to_loop (expr_of e.value) (stmt_of s.value) (between_of b)
frame_of (waiting.Count s) = frame.to_count (name_in (stmt_of s.value)) (test_in (stmt_of s.value)) (body_in (stmt_of s.value)) (step_in (stmt_of s.value))
frame_of (waiting.Visit s) = frame.to_visit (name_in (stmt_of s.value)) (body_in (stmt_of s.value))
frame_of (waiting.Next s ts next) = frame.to_next (name_in (stmt_of s.value)) (body_in (stmt_of s.value)) (drop next ts)
frame_of waiting.Throw = frame.to_throw
frame_of waiting.Return = frame.to_return
frame_of waiting.Pass = frame.to_pass
frame_of waiting.Leave = frame.to_leave
frame_of (waiting.Catch s) = frame.to_catch (caught_in (stmt_of s.value)) (handler_in (stmt_of s.value))
frame_of (waiting.Path f) = path_frame_of f.value
frame_of waiting.Commit = frame.to_commit
frame_of (waiting.Unblock awaited) = frame.to_unblock (is_present awaited)

-- The variable of this name, if there is a name.
abbrev pub variable_of : Option (List ℕ) → Run
variable_of None = nowhere
variable_of (Some name) = variable_value name

-- How a part ended, as the definition has it.
abbrev pub outcome_of : Ending → Outcome
outcome_of (ending.Gave v) = gave (tree_of v)
outcome_of (ending.Threw v) = threw (tree_of v)
outcome_of (ending.Returned v) = returned (tree_of v)
outcome_of ending.Broke = broke
outcome_of ending.Continued = continued

-- A counting loop from its test on, with its first value.
abbrev pub counting : Calls → Stmt → Tree → Run
counting calls s v = within ((name_in s, task.value v) ∷ []) (frame.again calls (test_in s) (body_in s) (frame.stepped (step_in s)))

-- The body of a loop over a list, with one of its items.
abbrev pub visiting : Calls → Stmt → Tree → Run
visiting calls s v = within ((name_in s, task.value v) ∷ []) (run calls (body_in s))

-- A handler, with what was thrown.
abbrev pub handling : Calls → Stmt → Tree → Run
handling calls s v = within (caught_as (caught_in s) v) (body calls (handler_in s))

-- A return's value, and the exit.
abbrev pub returning : Calls → OptionExpr → Run
returning calls o = value_or_undefined calls o >>= (λ v. ends (returned v))

-- A block is left.
abbrev pub left : Outcome → Run
left o env next st = leaving next o env st

-- What is written to a place: the place is found, and then its write is made. A statement that writes none has no place.
abbrev pub writing : Calls → Simple → Run
writing calls (tree.run at e) = nowhere
writing calls (tree.assign at p e) = place calls p (frame.written calls (frame.assigns e))
writing calls (tree.add_assign at p e) = place calls p (frame.written calls (frame.updates Add e))
writing calls (tree.sub_assign at p e) = place calls p (frame.written calls (frame.updates Sub e))
writing calls (tree.increment at p) = place calls p (frame.written calls (frame.moves (pos 1)))
writing calls (tree.decrement at p) = place calls p (frame.written calls (frame.moves (negsuc 0)))

-- A loop after its body.
abbrev pub over : Calls → Expr → Stmt → frame.Between → Run
over calls test s b = frame.between calls b >> frame.again calls test s b

-- The branch of an `if`, and that of a choice, whose test had this value.
abbrev pub branch_run : Calls → Tree → Stmt → OptionStmt → Run
branch_run calls test s other = either (is_true test) (run calls s) (run_or_pass calls other)

abbrev pub choice_run : Calls → Tree → Expr → Expr → Run
choice_run calls test e other = either (is_true test) (value false calls e) (value false calls other)

-- What a frame does where the part inside it ended so.
abbrev pub handed : Calls → Frame → Outcome → Run
handed calls f o env next st = frame_next calls f next o env st

-- A helper, the body of a transaction and that of a block ended so.
abbrev pub returned_to : Bool → Env → Outcome → Run
returned_to awaited caller o env next st = to_caller awaited caller next o env st

abbrev pub committing : Outcome → Run
committing o env next st = on_transaction next o env st

abbrev pub unblocking : Bool → Outcome → Run
unblocking awaited o env next st = on_block awaited next o env st

-- What a focus does, by the definition's own words.
abbrev pub focus_run : Calls → Focus → Run
focus_run calls (focus.Ended o) = ends (outcome_of o)
focus_run calls (focus.Value awaited e) = value (is_present awaited) calls (expr_of e.value)
focus_run calls (focus.Variable e) = variable_of (name_of (expr_of e.value))
focus_run calls (focus.Named name) = step >> variable_value name
focus_run calls (focus.Run s) = run calls (stmt_of s.value)
focus_run calls (focus.Body b n) = body calls (items_from n (block_in b.value))
focus_run calls (focus.Block b) = within [] (body calls (block_in b.value))
focus_run calls (focus.Declare b n v) = declare (declared_in (items_from n (block_in b.value))) (tree_of v)
focus_run calls (focus.Loop e s b) = frame.again calls (expr_of e.value) (stmt_of s.value) (between_of b)
focus_run calls (focus.Count s v) = counting calls (stmt_of s.value) (tree_of v)
focus_run calls (focus.Visit s v) = visiting calls (stmt_of s.value) (tree_of v)
focus_run calls (focus.Handle s v) = handling calls (stmt_of s.value) (tree_of v)
focus_run calls (focus.Simple p) = simple calls (simple_of p.value)
focus_run calls (focus.Write p) = writing calls (simple_of p.value)
focus_run calls (focus.Leave o) = left (outcome_of o)
focus_run calls (focus.Handed f v) = handed calls (path_frame_of f.value) (gave (tree_of v))
focus_run calls (focus.Walk awaited p e n) = links (is_present awaited) calls (point_of p) (links_in (expr_of e.value) n)
focus_run calls (focus.Arguments c got e n k) = arguments calls (args_in (expr_of e.value) n k) (trees_in got.items) (called calls (callee_of c))
focus_run calls (focus.Call c got) = called calls (callee_of c) (trees_in got.items)
focus_run calls (focus.Push r ss e n) = to_push calls (root_of r) (steps_in ss.items) (links_in (expr_of e.value) n)
focus_run calls (focus.Place w r ss e n) = to_place calls (root_of r) (steps_in ss.items) (links_in (expr_of e.value) n)
    (written calls (writing_of w) (root_of r))
focus_run calls (focus.Written w r ss) = written calls (writing_of w) (root_of r) (steps_in ss.items)
focus_run calls (focus.Assign r ss v) = write (root_of r) (steps_in ss.items) (put (tree_of v))
focus_run calls (focus.Return awaited vars o) = returned_to (is_present awaited) (env_of vars) (outcome_of o)
focus_run calls (focus.Commit o) = committing (outcome_of o)
focus_run calls (focus.Unblock awaited o) = unblocking (is_present awaited) (outcome_of o)

-- So many steps are charged first.
abbrev pub charged : ℕ → Run → Run
charged zero part = part
charged (suc n) part = steps (suc n) >> part

-- A part inside a frame.
abbrev pub framed : Calls → Frame → Run → Run
framed calls f part env next st = part env (frame_next calls f next) st

-- What a move does.
abbrev pub move_run : Calls → Move → Run
move_run calls (move.Then n f) = charged n (focus_run calls f)
move_run calls (move.Inside n w f) = charged n (framed calls (frame_of w) (focus_run calls f))

-- An operator of a chain between two values, and the rest of the chain.
abbrev pub applied : Calls → BinOp → Tree → Tree → Operands → Run
applied calls o v u os = of (binary o v u) >>= (λ w. strict calls w os)
