-- What is printed of a list of nodes, node by node.
use Rattle.std.proofs.Common.{if◌then◌else◌, Bool, true, false, ◌≡◌, ℕ, List, [], ◌∷◌, ◌++◌, Result, Ok, Err, refl, sym, ap, ◌∙◌, append_assoc}
use Rattle.std.specs.Prelude.{OnOk}
use Rattle.std.proofs.lemmas.List.{append-nil}
use Rattle.do_lex.specs.declared.kind.Mark.TheVariants as mark
use Rattle.std.specs.declared.sync.Arc.{Arc}
use Rattle.std.specs.declared.alloc.Global.{Global}
use Rattle.do_tree.specs.Nodes.{args_in, exprs_in, option_expr_in, pairs_in, with_arg, with_link}
use Rattle.do_tree.specs.Print.{Piece, a_mark, before_args, before_exprs, before_pairs, gap, quoted_in, text_behind, tokens_of_args, tokens_of_elements, tokens_of_expr, tokens_of_items, tokens_of_links, tokens_of_pair, tokens_of_pairs, tokens_of_stmt}
use Rattle.do_tree.specs.Seen.{expr_of, named_of, stmt_of, with_item}
use Rattle.do_tree.specs.Written.{Written, comma_if, write, write_all}
use Rattle.do_tree.specs.Tree as tree
use Rattle.do_tree.specs.Tree.{Args, Items, Links}
use Rattle.do_tree.specs.declared.expr.Arg.TheBlock as node
use Rattle.do_tree.specs.declared.expr.Arg.{Arg}
use Rattle.do_tree.specs.declared.expr.Expr.{Expr}
use Rattle.do_tree.specs.declared.expr.Link.{Link}
use Rattle.do_tree.specs.declared.expr.Pair.{Pair}
use Rattle.do_tree.specs.declared.print_word.Edge.{Edge}
use Rattle.do_tree.specs.declared.print_word.Edge.TheVariants as edge
use Rattle.do_tree.specs.declared.stmt.Item.{Item}

-- Some tokens, and then some more.
pub write_all_append : (w : Written) (xs ys : List Piece) → write_all w (xs ++ ys) ≡ write_all (write_all w xs) ys
write_all_append w [] ys = refl
write_all_append w (x ∷ xs) ys = write_all_append (write w x) xs ys

-- A node's tokens come before those of the nodes behind it.
pub items_more : (item : Item) (rest : Items) → tokens_of_items (with_item item rest) ≡ tokens_of_items (with_item item tree.no_items) ++ tokens_of_items rest
items_more (node.Declare' at b n v) rest = simp append_assoc
items_more (node.Stmt' p s) rest = ap (λ ps. ps ++ tokens_of_items rest) (sym (append-nil (tokens_of_stmt (stmt_of s))))

pub links_more : (link : Link) (rest : Links) → tokens_of_links (with_link link rest) ≡ tokens_of_links (with_link link tree.no_links) ++ tokens_of_links rest
links_more (node.Field n) rest = refl
links_more (node.Index' at p e) rest = simp append_assoc
links_more (node.Call' at s args) rest = simp append_assoc

-- What is left to print of a list, once something has begun or not, and its first element.
abbrev pub rest_exprs : Bool → List (Arc Expr Global) → List Piece
rest_exprs true es = before_exprs (exprs_in es) (tokens_of_elements (exprs_in es))
rest_exprs false es = tokens_of_elements (exprs_in es)

pub next_expr : (b : Bool) (e : Arc Expr Global) (es : List (Arc Expr Global)) → rest_exprs b (e ∷ es) ≡ comma_if b ++ (tokens_of_expr (expr_of e.value) ++ rest_exprs true es)
next_expr true e es = refl
next_expr false e es = refl

abbrev pub rest_pairs : Bool → List Pair → List Piece
rest_pairs true ps = before_pairs (pairs_in ps) (tokens_of_pairs (pairs_in ps))
rest_pairs false ps = tokens_of_pairs (pairs_in ps)

pub next_pair : (b : Bool) (p : Pair) (ps : List Pair) → rest_pairs b (p ∷ ps) ≡ comma_if b ++ (tokens_of_pair (named_of p.key) (option_expr_in p.value) ++ rest_pairs true ps)
next_pair true p ps = refl
next_pair false p ps = refl

abbrev pub rest_args : Bool → List Arg → List Piece
rest_args true as₀ = before_args (args_in as₀) (tokens_of_args (args_in as₀))
rest_args false as₀ = tokens_of_args (args_in as₀)

args_more : (arg : Arg) (rest : Args) → tokens_of_args (with_arg arg rest) ≡ tokens_of_args (with_arg arg tree.no_args) ++ before_args rest (tokens_of_args rest)
args_more (node.Arg::Value' p e) rest = ap (λ ps. ps ++ before_args rest (tokens_of_args rest)) (sym (append-nil (tokens_of_expr (expr_of e))))
args_more (node.Callback' p (node.struct-Callback at n q b s body)) rest = simp append_assoc

args_before : (arg : Arg) (rest : Args) (ps : List Piece) → before_args (with_arg arg rest) ps ≡ a_mark mark.Comma ∷ ps
args_before (node.Arg::Value' p e) rest ps = refl
args_before (node.Callback' p (node.struct-Callback at n q b s body)) rest ps = refl

pub next_arg : (b : Bool) (a : Arg) (as₀ : List Arg) → rest_args b (a ∷ as₀) ≡ comma_if b ++ (tokens_of_args (with_arg a tree.no_args) ++ rest_args true as₀)
next_arg true a as₀ = args_before a (args_in as₀) (tokens_of_args (with_arg a (args_in as₀))) ∙ ap (λ ps. a_mark mark.Comma ∷ ps) (args_more a (args_in as₀))
next_arg false a as₀ = args_more a (args_in as₀)

-- No text needs a space before it.
pub no_gap : (before : Edge) (b : Bool) (bytes : List ℕ) → gap before (quoted_in (if b then 34 else 39) bytes) ≡ []
no_gap edge.Word true bytes = refl
no_gap edge.Word false bytes = refl
no_gap edge.Number true bytes = refl
no_gap edge.Number false bytes = refl
no_gap edge.Minus true bytes = refl
no_gap edge.Minus false bytes = refl
no_gap edge.Other b bytes = refl

-- One token more, by a call that may fail.
pub one_more : {E : Type 0} (r : Result (Unit {0}) E) (new mid old : Written) (p : Piece) → OnOk r (new ≡ write mid p) → mid ≡ old → OnOk r (new ≡ write old p)
one_more (Ok x) new mid old p h e = h ∙ ap (λ w. write w p) e
one_more (Err x) new mid old p h e = tt

-- The same token, in two words.
pub same_piece : {E : Type 0} (r : Result (Unit {0}) E) (new old : Written) (p q : Piece) → OnOk r (new ≡ write old p) → p ≡ q → OnOk r (new ≡ write old q)
same_piece (Ok x) new old p q h e = h ∙ ap (λ z. write old z) e
same_piece (Err x) new old p q h e = tt

-- The text, once the tokens are printed.
pub written_text : (w : Written) (ps : List Piece) → (write_all w ps).text ≡ w.text ++ text_behind w.edge ps
unfolding write
written_text w [] = sym (append-nil w.text)
written_text w (p ∷ ps) =
    let before = gap w.edge p.text in
    let rest = text_behind p.edge ps in
    written_text (write w p) ps ∙ append_assoc w.text (before ++ p.text) rest ∙ ap (λ xs. w.text ++ xs) (append_assoc before p.text rest)
