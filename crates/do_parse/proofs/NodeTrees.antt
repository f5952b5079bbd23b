-- What the nodes of statements are, and what a function makes of an answer.
use Rattle.std.proofs.Common.{◌≡◌, ℕ, List, [], ◌∷◌, Option, Some, None, Result, Ok, Err, refl, sym, ◌∙◌, ap, subst}
use Rattle.std.specs.declared.alloc.Global.{Global}
use Rattle.std.specs.declared.sync.Arc.{Arc}
use Rattle.do_lex.specs.declared.kind.Keyword.{Keyword}
use Rattle.do_lex.specs.declared.tokens.Token.{Token}
use Rattle.do_tree.specs.Grammar.{TakesKey}
use Rattle.do_tree.specs.Lexeme.{Lexeme}
use Rattle.do_tree.specs.Seen.{named_of, option_named_of, expr_of, stmt_of, items_of, items_in, with_item, write_of}
use Rattle.do_tree.specs.Tree as tree
use Rattle.do_tree.specs.declared.expr.Arg.TheBlock as node
use Rattle.do_tree.specs.declared.expr.Expr.{Expr}
use Rattle.do_tree.specs.declared.stmt.Block.{Block}
use Rattle.do_tree.specs.declared.script.Name.{Name}
use Rattle.do_tree.specs.declared.stmt.Binding.{Binding}
use Rattle.do_tree.specs.declared.stmt.Item.{Item}
use Rattle.do_tree.specs.declared.stmt.Item.TheVariants as item
use Rattle.do_tree.specs.declared.stmt.Simple.{Simple}
use Rattle.do_tree.specs.declared.stmt.Stmt.{Stmt}
use Rattle.do_tree.specs.declared.stmt.Write.{Write}
use Rattle.do_tree.specs.declared.stmt.Stmt.TheVariants as stmt
use Rattle.do_parse.specs.Lists as lists
use Rattle.do_parse.specs.Lists.{with_one, items_from}
use Rattle.do_parse.specs.Parsed.{Phrase, Follow, Parses}
use Rattle.do_parse.specs.Pieces.{simple_from}
use Rattle.do_parse.specs.Then.{At, with_tree, IsMade}
use Rattle.do_parse.specs.Trees.{block_at, expr_at, simple_at, written_of, item_of, items_at, option_expr_at, option_stmt_at, stmt_at}
use Rattle.do_parse.specs.declared.stop.Stop.{Stop}
use Rattle.do_parse.proofs.Lists.{with_same}
use Rattle.do_parse.proofs.Rows.{hidden_items}
use Rattle.do_parse.proofs.Sequence.{made_on}

-- an if, a return, a declaration
pub if_seen : (at : ℕ) (test : Arc Expr Global) (s : Arc Stmt Global) (other : Option (Arc Stmt Global)) → stmt_of (stmt.If at test s other) ≡ tree.choose at (expr_at test) (stmt_at s) (option_stmt_at other)
if_seen at test s None = refl
if_seen at test s (Some o) = refl

pub return_seen : (at : ℕ) (value : Option (Arc Expr Global)) → stmt_of (stmt.Return at value) ≡ tree.return at (option_expr_at value)
return_seen at None = refl
return_seen at (Some e) = refl

pub declare_seen : (at : ℕ) (b : Binding) (n : Name) (value : Option (Arc Expr Global)) → item_of (item.Declare at b n value) ≡ lists.declare at b (named_of n) (option_expr_at value)
declare_seen at b n None = refl
declare_seen at b n (Some e) = refl

pub try_seen : (at : ℕ) (body : Arc Block Global) (n : Option Name) (handler : Arc Block Global) → stmt_of (stmt.Try at body n handler) ≡ tree.try at (block_at body).items (option_named_of n) (block_at handler).items
try_seen at body n handler =
    ap (λ is. tree.try at is (option_named_of n) (items_of (node.hidden-the_row-Item-5 handler.value.items))) (hidden_items body.value.items)
    ∙ ap (λ is. tree.try at (block_at body).items (option_named_of n) is) (hidden_items handler.value.items)

-- what is written to a place
pub write_seen : (w : Write) (at : ℕ) (p : tree.Expr) → write_of w at p ≡ simple_from (written_of w) at p
write_seen node.Nothing at p = refl
write_seen (node.Write::Value' q e) at p = refl
write_seen (node.Sum' q e) at p = refl
write_seen (node.Difference' q e) at p = refl
write_seen node.OneMore at p = refl
write_seen node.OneLess at p = refl

pub for_seen : (at : ℕ) (n : Name) (first test : Arc Expr Global) (step : Arc Simple Global) (body : Arc Stmt Global) → stmt_of (stmt.For at n first test step body) ≡ tree.for at (named_of n) (expr_at first) (expr_at test) (simple_at step) (stmt_at body)
for_seen at n first test step body = ap (λ x. tree.for at (named_of n) (expr_at first) (expr_at test) x (stmt_at body)) (write_seen step.value.write step.value.at (expr_at step.value.place))

pub simple_seen : (s : Arc Simple Global) → stmt_of (stmt.Simple s) ≡ tree.simple (simple_at s)
simple_seen s = ap (λ x. tree.simple x) (write_seen s.value.write s.value.at (expr_at s.value.place))

pub block_seen : (b : Arc Block Global) → stmt_of (stmt.Block b) ≡ tree.block (block_at b).at (block_at b).items
block_seen b = ap (λ is. tree.block (block_at b).at is) (hidden_items b.value.items)

-- items, as the tree has them
with_seen : (x : Item) (r : tree.Items) → with_item x r ≡ with_one (item_of x) r
with_seen (node.Declare' at b n v) r = refl
with_seen (node.Stmt' q s) r = refl

pub items_seen : (xs : List Item) → items_in xs ≡ items_from (items_at xs)
items_seen [] = refl
items_seen (x ∷ xs) = ap (with_item x) (items_seen xs) ∙ with_seen x (items_from (items_at xs))

-- a node is made of the same tree
pub made_tree : {A N : Type 0} {t u : A} (seen : N → A) → t ≡ u → (r : Result N Stop) → IsMade seen t r → IsMade seen u r
made_tree seen p (Ok node) h = h ∙ p
made_tree seen p (Err s) h = h

-- the node that was made of a tree that is this one, or no memory
pub made_seen : {A N : Type 0} {Is : Phrase A} {Ends : Follow} {old new : List Token} {t u : A} (seen : N → A) (r : Result N Stop) → IsMade seen t r → t ≡ u → Parses Is Ends old new (Ok u) → Parses Is Ends old new (with_tree seen r)
made_seen {A} {N} {Is} {Ends} {old} {new} {t} {u} seen r is p h = made_on seen r is (subst (λ x. Parses Is Ends old new (Ok x)) (sym p) h)

-- an answer has the same tree
pub ok_as : {A : Type 0} {Is : Phrase A} {Ends : Follow} {old new : List Token} {t u : A} → t ≡ u → Parses Is Ends old new (Ok u) → Parses Is Ends old new (Ok t)
ok_as {A} {Is} {Ends} {old} {new} {t} {u} p h = subst (λ x. Parses Is Ends old new (Ok x)) (sym p) h

-- a keyword that is known to be another name's
pub key_as : {j k : Keyword} {d : ℕ} {Ends : Follow} {old new : List Token} {r : Result ℕ Stop} → j ≡ k → Parses (At (TakesKey j d)) Ends old new r → Parses (At (TakesKey k d)) Ends old new r
key_as {j} {k} {d} {Ends} {old} {new} {r} p h = subst (λ x. Parses (At (TakesKey x d)) Ends old new r) p h

-- an answer that is read as it is
pub plain : {A : Type 0} {Is : Phrase A} {Ends : Follow} {old new : List Token} {r : Result A Stop} → Parses Is Ends old new (with_tree (λ x. x) r) → Parses Is Ends old new r
plain {A} {Is} {Ends} {old} {new} {r} h = subst (λ x. Parses Is Ends old new x) (with_same (λ x. x) (λ x. refl) r) h

-- the tree of the last part is that of the whole
last_tree : {A N : Type 0} {X : Type 0} (tree' : N → A) (x : X) (r : Result N Stop) → with_tree (λ (b : X × A). b.1) (with_tree (λ (a : A). (x, a)) (with_tree tree' r)) ≡ with_tree tree' r
last_tree tree' x (Ok n) = refl
last_tree tree' x (Err s) = refl

pub with_last : {A N X : Type 0} {Is : Phrase A} {Ends : Follow} {old new : List Token} (tree' : N → A) (x : X) (r : Result N Stop) → Parses Is Ends old new (with_tree (λ (b : X × A). b.1) (with_tree (λ (a : A). (x, a)) (with_tree tree' r))) → Parses Is Ends old new (with_tree tree' r)
with_last {A} {N} {X} {Is} {Ends} {old} {new} tree' x r h = subst (λ y. Parses Is Ends old new y) (last_tree tree' x r) h
