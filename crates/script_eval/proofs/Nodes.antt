-- The parts of statements that blocks are entered for.
use Rattle.std.proofs.Common.{◌≡◌, ℕ, Option, sym, ap, ◌∙◌}
use Rattle.std.specs.declared.sync.Arc.{Arc}
use Rattle.std.specs.declared.alloc.Global.{Global}
use Rattle.do_tree.proofs.Rows.{hidden_items}
use Rattle.do_tree.specs.Nodes.{block_in}
use Rattle.do_tree.specs.Seen.{stmt_of}
use Rattle.do_tree.specs.declared.script.Name.{Name}
use Rattle.do_tree.specs.declared.stmt.Block.{Block}
use Rattle.do_tree.specs.declared.stmt.Stmt.{Stmt}
use Rattle.do_tree.specs.declared.stmt.Stmt.TheVariants as node
use Rattle.script_steps.specs.Parts.{handler_in}

-- The handler of a `try`.
pub try_handler : (at : ℕ) (b : Arc Block Global) (n : Option Name) (h t : Arc Block Global) (x : Stmt) → x ≡ node.Try at b n h → t.value ≡ h.value
    → block_in t.value ≡ handler_in (stmt_of x)
try_handler at b n h t x e et = ap block_in et ∙ sym (hidden_items h.value.items) ∙ ap (λ y. handler_in (stmt_of y)) (sym e)
