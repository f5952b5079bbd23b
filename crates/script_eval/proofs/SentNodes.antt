-- Nodes of a script and values may go to another thread.
use denote.RattleType.{RattleType}
use denote.Hole.{as_row}
use denote.Param.Send.{IsSend, IsSync, sendable}
use denote.Param.SendFields.{as_row_send}
use Rattle.std.proofs.Crossing.{crosses, Arc-send, Vec-send}
use Rattle.std.specs.contracts.sync.Arc as Arc
use Rattle.std.specs.contracts.vec.Vec as Vec
use Rattle.std.specs.contracts.alloc.Global as Global
use Rattle.std.specs.contracts.impls.GlobalAllocator.TheImpl.{ghosts}
use Rattle.do_value.specs.contracts.value.Value as Value
use Rattle.do_value.specs.contracts.value.Items as Items
use Rattle.do_value.specs.contracts.text.Text as Text
use Rattle.do_value.proofs.operator.BinOp.TheSendSync as binop
use Rattle.do_value.proofs.operator.UnOp.TheSendSync as unop
use Rattle.do_value.proofs.num.Num.TheSendSync as num
use Rattle.do_value.proofs.text.Text.TheSendSync as text
use Rattle.do_value.proofs.value.Fields.TheLaws.TheKnot as values
use Rattle.do_tree.specs.contracts.expr.Expr as Expr
use Rattle.do_tree.specs.contracts.expr.Callback as Callback
use Rattle.do_tree.specs.contracts.stmt.Stmt as Stmt
use Rattle.do_tree.specs.contracts.stmt.Block as Block
use Rattle.do_tree.specs.contracts.stmt.Simple as Simple
use Rattle.do_tree.proofs.expr.Arg.TheLaws.TheKnot as tree
use Rattle.do_tree.proofs.expr.Chain.TheSendSync as chain
use Rattle.do_tree.proofs.script.Name.TheSendSync as name
use Rattle.do_tree.proofs.stmt.Binding.TheSendSync as binding

-- ---- a field that counts its owners, and one that is a list
abbrev pub shared : RattleType → RattleType
shared T = as_row (Arc.the_field T Global.the_row ghosts)

abbrev pub list : RattleType → RattleType
list T = as_row (Vec.the_field T Global.the_row ghosts)

-- What counts its owners goes to another thread where what it owns does and is shared among threads.
pub shared_send : (T : RattleType) → IsSend T → IsSync T → IsSend (shared T)
shared_send T s y = as_row_send (Arc.the_field T Global.the_row ghosts) (Arc-send T s y)

-- A list goes to another thread where its items do.
pub list_send : (T : RattleType) → IsSend T → IsSend (list T)
list_send T s = as_row_send (Vec.the_field T Global.the_row ghosts) (Vec-send T s)

-- ---- nodes
ruleset of_trees = (
  sendable,
  crosses,
  tree.crosses,
  tree.crosses_both,
  chain.the_field_send,
  chain.the_field_sync,
  name.the_field_send,
  name.the_field_sync,
  binding.the_field_send,
  binding.the_field_sync,
  binop.the_field_send,
  binop.the_field_sync,
  unop.the_field_send,
  unop.the_field_sync,
  num.the_send,
  num.the_sync,
  text.the_send,
  text.the_sync,
)

pub shared_expr : IsSend (shared Expr.the_row)
shared_expr = shared_send Expr.the_row (search of_trees depth 12 fits 4000) (search of_trees depth 12 fits 4000)

pub shared_callback : IsSend (shared Callback.the_row)
shared_callback = shared_send Callback.the_row (search of_trees depth 12 fits 4000) (search of_trees depth 12 fits 4000)

pub shared_stmt : IsSend (shared Stmt.the_row)
shared_stmt = shared_send Stmt.the_row (search of_trees depth 12 fits 4000) (search of_trees depth 12 fits 4000)

pub shared_block : IsSend (shared Block.the_row)
shared_block = shared_send Block.the_row (search of_trees depth 12 fits 4000) (search of_trees depth 12 fits 4000)

pub shared_simple : IsSend (shared Simple.the_row)
shared_simple = shared_send Simple.the_row (search of_trees depth 12 fits 4000) (search of_trees depth 12 fits 4000)

-- ---- values
ruleset of_values = (sendable, crosses, values.crosses, num.the_send, num.the_sync, text.the_send, text.the_sync)

pub value_send : IsSend Value.the_row
value_send = search of_values depth 12 fits 4000

pub value_field : IsSend (Value.the_field).row
value_field = search of_values depth 30 fits 4000

pub some_items : IsSend (as_row Items.the_field)
some_items = as_row_send Items.the_field (search of_values depth 12 fits 4000)

pub a_text : IsSend (as_row Text.the_field)
a_text = as_row_send Text.the_field text.the_send

pub some_values : IsSend (list Value.the_row)
some_values = list_send Value.the_row value_send
