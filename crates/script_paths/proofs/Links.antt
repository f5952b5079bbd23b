-- The links and the arguments of a path, by the lists that the nodes keep.
use Rattle.std.proofs.Common.{◌≡◌, ℕ, zero, suc, ◌≤◌, List, [], ◌∷◌, drop, take, ◌-◌, length, refl, sym, ap, ◌∙◌, arith}
use Rattle.std.specs.declared.sync.Arc.{Arc}
use Rattle.std.specs.declared.vec.Vec.{Vec}
use Rattle.std.specs.declared.alloc.Global.{Global}
use Rattle.do_tree.proofs.Rows.{hidden_args, hidden_links}
use Rattle.do_tree.specs.Nodes.{args_in, links_in, with_link}
use Rattle.do_tree.specs.Seen.{expr_of}
use Rattle.do_tree.specs.Tree as tree
use Rattle.do_tree.specs.Tree.{Links}
use Rattle.do_tree.specs.declared.expr.Arg.{Arg}
use Rattle.do_tree.specs.declared.expr.Arg.TheBlock as kept
use Rattle.do_tree.specs.declared.expr.Expr.{Expr}
use Rattle.do_tree.specs.declared.expr.Expr.TheVariants as node
use Rattle.do_tree.specs.declared.expr.Link.{Link}
use Rattle.do_tree.specs.declared.expr.Link.TheVariants as a_link
use Rattle.script_steps.specs.Parts.{args_of, links_from, links_of}

-- The links behind so many of them.
pub links_dropped : (xs : List Link) (n : ℕ) → links_from n (links_in xs) ≡ links_in (drop n xs)
links_dropped xs zero = refl
links_dropped [] (suc n) = refl
links_dropped (kept.Field m ∷ xs) (suc n) = links_dropped xs n
links_dropped (kept.Index' at p e ∷ xs) (suc n) = links_dropped xs n
links_dropped (kept.Call' at p args ∷ xs) (suc n) = links_dropped xs n

-- None behind the last.
pub links_over : (xs : List Link) (n : ℕ) → length xs ≤ n → links_from n (links_in xs) ≡ tree.no_links
links_over [] zero h = refl
links_over [] (suc n) h = refl
links_over (x ∷ xs) zero h = absurd (omega arith)
links_over (kept.Field m ∷ xs) (suc n) h = links_over xs n (omega arith)
links_over (kept.Index' at p e ∷ xs) (suc n) h = links_over xs n (omega arith)
links_over (kept.Call' at p args ∷ xs) (suc n) h = links_over xs n (omega arith)

-- The links of a path.
pub path_links : (at : ℕ) (base : Arc Expr Global) (ls : Vec Link Global) (x : Expr) → x ≡ node.Path at base ls → links_of (expr_of x) ≡ links_in ls.items
path_links at base ls x e = ap (λ y. links_of (expr_of y)) e ∙ hidden_links ls

-- The arguments of a call.
pub call_args : (at : ℕ) (args : Vec Arg Global) (l : Link) (rest : Links) → l ≡ a_link.Call at args → args_of (with_link l rest) ≡ args_in args.items
call_args at args l rest e = ap (λ x. args_of (with_link x rest)) e ∙ hidden_args args

-- All of a list.
all_taken : (k : ℕ) (xs : List Link) → length xs ≤ k → take k xs ≡ xs
all_taken zero [] h = refl
all_taken zero (x ∷ xs) h = absurd (omega arith)
all_taken (suc k) [] h = refl
all_taken (suc k) (x ∷ xs) h = ap (λ ys. x ∷ ys) (all_taken k xs (omega arith))

dropped_length : (xs : List Link) (n : ℕ) → length (drop n xs) ≤ length xs - n
dropped_length xs zero = omega arith
dropped_length [] (suc n) = omega arith
dropped_length (x ∷ xs) (suc n) = let h = dropped_length xs n in omega arith

-- The same as the slice behind them.
pub links_kept : (xs : List Link) (n : ℕ) → links_from n (links_in xs) ≡ links_in (take (length xs - n) (drop n xs))
links_kept xs n = links_dropped xs n ∙ ap links_in (sym (all_taken (length xs - n) (drop n xs) (dropped_length xs n)))
