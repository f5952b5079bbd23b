-- A script may be looked at from several threads.
use denote.Param.Send.{IsSend, IsSync, plain_sync, sendable}
use denote.Param.SendFields.{as_row_sync, declared_sync}
use Rattle.std.proofs.Crossing.{crosses}
use Rattle.do_value.proofs.operator.BinOp.TheSendSync as binop
use Rattle.do_value.proofs.operator.UnOp.TheSendSync as unop
use Rattle.do_value.proofs.num.Num.TheSendSync as num
use Rattle.do_value.proofs.text.Text.TheSendSync as text
use Rattle.do_tree.specs.contracts.stmt.Block as Block
use Rattle.do_tree.specs.contracts.script.Method as Method
use Rattle.do_tree.specs.contracts.script.Class as Class
use Rattle.do_tree.specs.contracts.script.Script as Script
use Rattle.do_tree.specs.contracts.checked.Checked as Checked
use Rattle.do_tree.proofs.expr.Arg.TheLaws.TheKnot as tree
use Rattle.do_tree.proofs.expr.Chain.TheSendSync as chain
use Rattle.do_tree.proofs.script.Name.TheSendSync as name
use Rattle.do_tree.proofs.script.MethodKind.TheSendSync as kind
use Rattle.do_tree.proofs.stmt.Binding.TheSendSync as binding

-- ---- nodes
ruleset of_trees = (
  sendable,
  crosses,
  tree.crosses,
  tree.crosses_both,
  chain.the_field_send,
  chain.the_field_sync,
  name.the_field_send,
  name.the_field_sync,
  binding.the_field_send,
  binding.the_field_sync,
  binop.the_field_send,
  binop.the_field_sync,
  unop.the_field_send,
  unop.the_field_sync,
  num.the_send,
  num.the_sync,
  text.the_send,
  text.the_sync,
)

block_send : IsSend Block.the_row
block_send = search of_trees depth 12 fits 4000

block_sync : IsSync Block.the_row
block_sync = search of_trees depth 12 fits 4000

-- ---- the script
ruleset parts = (tt, sendable, crosses, as_row_sync, plain_sync)

method_sync : IsSync Method.the_row
method_sync = declared_sync Method.the_type (search (parts, kind.the_sync, name.the_sync, block_send, block_sync) depth 20 fits 4000)

class_sync : IsSync Class.the_row
class_sync = declared_sync Class.the_type (search (parts, name.the_sync, method_sync) depth 20 fits 4000)

script_sync : IsSync Script.the_row
script_sync = declared_sync Script.the_type (search (parts, class_sync) depth 20 fits 4000)

pub checked_sync : IsSync Checked.the_row
checked_sync = declared_sync Checked.the_type (search (parts, script_sync) depth 20 fits 4000)
