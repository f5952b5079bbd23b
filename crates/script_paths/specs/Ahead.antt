-- What a path goes on with.
use Rattle.std.specs.Prelude.{ℕ, List, Option, Some, None}
use Rattle.do_tree.specs.Seen.{expr_of}
use Rattle.do_tree.specs.Tree as tree
use Rattle.do_tree.specs.Tree.{Named, Expr, Links, Args, Items}
use Rattle.do_tree.specs.declared.expr.Callback.{Callback}
use Rattle.script_steps.specs.Paths.{parameter_of, body_of}
use Rattle.script_paths.specs.declared.link.Ahead.{Ahead}
use Rattle.script_paths.specs.declared.link.Ahead.TheVariants as ahead

-- Nothing, a field that isn't called, the call of a field, an index, or a call of what the path has come to.
pub data Front : Type 0 where
  ended : Front
  a_field : List ℕ → Front
  a_method : List ℕ → Front
  an_index : Expr → Front
  a_call : Front

-- What the links begin with.
abbrev pub front : Links → Front
front tree.no_links = ended
front (tree.field n (tree.call at args ls)) = a_method n.text
front (tree.field n ls) = a_field n.text
front (tree.index at e ls) = an_index e
front (tree.call at args ls) = a_call

-- The same as the code has it.
abbrev pub front_of : Ahead → Front
front_of ahead.End = ended
front_of (ahead.Field name) = a_field name
front_of (ahead.Method name) = a_method name
front_of (ahead.Index e) = an_index (expr_of e.value)
front_of ahead.Call = a_call

-- How many links those are that were looked at.
abbrev pub links_seen : Ahead → ℕ
links_seen ahead.End = 0
links_seen (ahead.Field name) = 1
links_seen (ahead.Method name) = 2
links_seen (ahead.Index e) = 1
links_seen ahead.Call = 1

-- The callback that is the first of the arguments, by its parameter and its body.
abbrev pub first_callback : Args → Option (Option Named × Items)
first_callback (tree.callback at n is rest) = Some (n, is)
first_callback _ = None

abbrev pub callback_of : Callback → Option Named × Items
callback_of c = (parameter_of c, body_of c)

-- The value that is the first of the arguments.
abbrev pub first_value : Args → Option Expr
first_value (tree.value_arg e rest) = Some e
first_value _ = None
