-- The links of paths and the arguments of calls, from a place on.
use Rattle.std.proofs.Common.{◌≡◌, ℕ, zero, suc, ◌<◌, ◌≤◌, List, [], ◌∷◌, length, get_or, refl, sym, ap, ◌∙◌, arith}
use Rattle.std.specs.declared.vec.Vec.{Vec}
use Rattle.std.specs.declared.sync.Arc.{Arc}
use Rattle.std.specs.declared.alloc.Global.{Global}
use Rattle.do_tree.proofs.Rows.{hidden_args, hidden_links}
use Rattle.do_tree.specs.Nodes.{args_in, links_in, with_arg, with_link}
use Rattle.do_tree.specs.Seen.{expr_of}
use Rattle.do_tree.specs.Tree as tree
use Rattle.do_tree.specs.declared.expr.Arg.{Arg}
use Rattle.do_tree.specs.declared.expr.Arg.TheBlock as block
use Rattle.do_tree.specs.declared.expr.Expr.{Expr}
use Rattle.do_tree.specs.declared.expr.Expr.TheVariants as node
use Rattle.do_tree.specs.declared.expr.Link.{Link}
use Rattle.do_tree.specs.declared.expr.Link.TheVariants as link
use Rattle.script_steps.specs.Parts as part
use Rattle.script_steps.specs.Parts.{args_from, args_of, links_from, links_of}

-- The links of a path.
pub path_links : (at : ℕ) (base : Arc Expr Global) (ls : Vec Link Global) (x : Expr) (n : ℕ) → x ≡ node.Path at base ls
    → part.links_in (expr_of x) n ≡ links_from n (links_in ls.items)
path_links at base ls x n e = ap (λ y. links_from n (links_of (expr_of y))) e ∙ ap (links_from n) (hidden_links ls)

-- None of none.
pub links_from_none : (n : ℕ) → links_from n tree.no_links ≡ tree.no_links
links_from_none zero = refl
links_from_none (suc n) = refl

-- None past the last.
pub links_past : (xs : List Link) (n : ℕ) → length xs ≤ n → links_from n (links_in xs) ≡ tree.no_links
links_past [] n h = links_from_none n
links_past (x ∷ xs) zero h = absurd (omega arith)
links_past (block.Field m ∷ xs) (suc n) h = links_past xs n (omega arith)
links_past (block.Index' at p e ∷ xs) (suc n) h = links_past xs n (omega arith)
links_past (block.Call' at s args ∷ xs) (suc n) h = links_past xs n (omega arith)

-- The link at a place, and those behind it.
pub links_at : (xs : List Link) (n : ℕ) (x : Link) → n < length xs → x ≡ get_or xs n x
    → links_from n (links_in xs) ≡ with_link x (links_from (suc n) (links_in xs))
links_at [] n x h e = absurd (omega arith)
links_at (block.Field m ∷ xs) zero x h e = ap (λ z. with_link z (links_in xs)) (sym e)
links_at (block.Index' at p i ∷ xs) zero x h e = ap (λ z. with_link z (links_in xs)) (sym e)
links_at (block.Call' at s args ∷ xs) zero x h e = ap (λ z. with_link z (links_in xs)) (sym e)
links_at (block.Field m ∷ xs) (suc n) x h e = links_at xs n x (omega arith) e
links_at (block.Index' at p i ∷ xs) (suc n) x h e = links_at xs n x (omega arith) e
links_at (block.Call' at s args ∷ xs) (suc n) x h e = links_at xs n x (omega arith) e

-- The arguments of a call.
pub call_args : (at : ℕ) (args : Vec Arg Global) (x : Link) (ls rest : tree.Links) (n : ℕ) → ls ≡ with_link x rest → x ≡ link.Call at args
    → args_from n (args_of ls) ≡ args_from n (args_in args.items)
call_args at args x ls rest n e is =
    ap (λ z. args_from n (args_of z)) (e ∙ ap (λ z. with_link z rest) is) ∙ ap (args_from n) (hidden_args args)

-- None of none.
pub args_from_none : (n : ℕ) → args_from n tree.no_args ≡ tree.no_args
args_from_none zero = refl
args_from_none (suc n) = refl

-- Where there is no link, there are no arguments.
pub no_link : (ls : tree.Links) (n : ℕ) → ls ≡ tree.no_links → args_from n (args_of ls) ≡ tree.no_args
no_link ls n e = ap (λ z. args_from n (args_of z)) e ∙ args_from_none n

-- None past the last.
pub args_past : (xs : List Arg) (n : ℕ) → length xs ≤ n → args_from n (args_in xs) ≡ tree.no_args
args_past [] n h = args_from_none n
args_past (x ∷ xs) zero h = absurd (omega arith)
args_past (block.Arg::Value' p e ∷ xs) (suc n) h = args_past xs n (omega arith)
args_past (block.Callback' p (block.struct-Callback at m q b s body) ∷ xs) (suc n) h = args_past xs n (omega arith)

-- The argument at a place, and those behind it.
pub args_at : (xs : List Arg) (n : ℕ) (x : Arg) → n < length xs → x ≡ get_or xs n x
    → args_from n (args_in xs) ≡ with_arg x (args_from (suc n) (args_in xs))
args_at [] n x h e = absurd (omega arith)
args_at (block.Arg::Value' p v ∷ xs) zero x h e = ap (λ z. with_arg z (args_in xs)) (sym e)
args_at (block.Callback' p (block.struct-Callback at m q b s body) ∷ xs) zero x h e = ap (λ z. with_arg z (args_in xs)) (sym e)
args_at (block.Arg::Value' p v ∷ xs) (suc n) x h e = args_at xs n x (omega arith) e
args_at (block.Callback' p (block.struct-Callback at m q b s body) ∷ xs) (suc n) x h e = args_at xs n x (omega arith) e
