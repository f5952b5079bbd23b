-- The rules of blocks and their items, and an `if` with what stands behind its statement.
use Rattle.std.proofs.Common.{◌≡◌, ◌≢◌, ℕ, zero, suc, ◌+◌, Bool, true, false, List, [], ◌∷◌, ◌++◌, ◌⊎◌, inl, inr, Option, Some, None, Result, Ok, Err, refl, sym, ◌∙◌, ap, subst, append_assoc, map}
use Rattle.std.proofs.lemmas.Bool.{false≢true}
use Rattle.std.proofs.lemmas.List.{append-nil}
use Rattle.std.proofs.lemmas.Option.{none-some}
use Rattle.do_lex.specs.declared.kind.Kind.{Kind}
use Rattle.do_lex.specs.declared.kind.Kind.TheVariants as kind
use Rattle.do_lex.specs.declared.kind.Keyword.{Keyword}
use Rattle.do_lex.specs.declared.kind.Keyword.TheVariants as key
use Rattle.do_lex.specs.declared.kind.Mark.{Mark}
use Rattle.do_lex.specs.declared.kind.Mark.TheVariants as mark
use Rattle.do_lex.specs.declared.tokens.Token.{Token}
use Rattle.do_tree.specs.Grammar as g
use Rattle.do_tree.specs.Grammar.{Takes, TakesMark, TakesKey, TakesName, IsExpr, IsStmt, IsElse, IsBlock, IsItems, BeginsWithNo, binding_key}
use Rattle.do_tree.specs.Lexeme.{Lexeme, place}
use Rattle.do_tree.specs.Tree as tree
use Rattle.do_tree.specs.declared.stmt.Binding.{Binding}
use Rattle.do_tree.specs.declared.stmt.Binding.TheVariants as bind
use Rattle.do_parse.specs.Follow.{behind_expr}
use Rattle.do_parse.specs.Lists.{BeginsWith, Starting, Repeat, IsItem, Item, with_one, items_from, declare, statement}
use Rattle.do_parse.specs.Lists.Repeat.{stop as rep_stop, again}
use Rattle.do_parse.specs.Parsed.{BeginAlike, AreLexemesOf, HasRead, Agree, Phrase, Follow, Anything, ends_by, CanBegin, ElseIsNext, ElseAsNext, HasPhrase, Says, Parses}
use Rattle.do_parse.specs.Pieces.{InParens, IsExprThen, IsInitial, IsBlockAt, Blocked, no_initial, initial}
use Rattle.do_parse.specs.Starts.{kind_next, binding_start}
use Rattle.do_parse.specs.Taken.{IsName}
use Rattle.do_parse.specs.Then.{Then, At, with_tree}
use Rattle.do_parse.specs.declared.stop.Stop.{Stop}
use Rattle.do_parse.specs.declared.stop.Stop.TheVariants.{Unexpected, TooNested, NoMemory}
use Rattle.do_parse.proofs.Facts.{BeginsBy, anything_begins, mark_begins, mark_stands, key_stands, last, before, stands_then, takes_begins}
use Rattle.do_parse.proofs.FactsExpr.{expr_stands}
use Rattle.do_parse.proofs.First.{kind_first, first_is_next, first_with, takes_with, takes_first, stmt_first, can_stmt}
use Rattle.do_parse.proofs.ForRules.{one_kind}
use Rattle.do_parse.proofs.Lists.{not_behind, begins_with, nothing_there, NoneBegins}
use Rattle.do_parse.proofs.Sequence.{Same, Stands, Behind}
use Rattle.do_parse.proofs.Statements.{expr_up, expr_down, stmt_up, stmt_down, at_is}

-- ( EXPR ), EXPR and a mark
pub in_parens_same : (d : ℕ) (now : List Token) → Same (InParens d) (Then (At (TakesMark mark.OpenParen d)) (IsExprThen mark.CloseParen d)) (λ b. b.1) Anything now
in_parens_same d now = record {
  to = λ ts us b t. record { vs = t.between; ws = t.second.vs; open_paren = t.first.takes; inside = t.second.expr; close_paren = t.second.mark_is };
  from = λ ts us e b i _. ((place ts, e), refl, record { between = i.vs; first = at_is refl i.open_paren; second = record { vs = i.ws; expr = i.inside; mark_is = i.close_paren } });
}

pub expr_then_same : (m : Mark) (d : ℕ) (now : List Token) → Same (IsExprThen m d) (Then (IsExpr (d + 1)) (At (TakesMark m d))) (λ b. b.0) Anything now
expr_then_same m d now = record {
  to = λ ts us b t. record { vs = t.between; expr = t.first; mark_is = t.second.takes };
  from = λ ts us e b i _. ((e, place i.vs), refl, record { between = i.vs; first = i.expr; second = at_is refl i.mark_is });
}

-- one item, as its three forms
pub data OneItem (d : ℕ) : List Lexeme → List Lexeme → Item → Type 0 where
  one_alone : {at : ℕ} {ts us vs ws : List Lexeme} {n : tree.Named} → at ≡ place ts → TakesKey key.Let d ts us → TakesName n d us vs → TakesMark mark.Semicolon d vs ws → OneItem d ts ws (declare at bind.Let n tree.no_expr)
  one_declared : {at : ℕ} {ts us vs ws xs ys : List Lexeme} {b : Binding} {n : tree.Named} {e : tree.Expr} → at ≡ place ts → TakesKey (binding_key b) d ts us → TakesName n d us vs → TakesMark mark.Assign d vs ws
      → IsExpr (suc d) ws xs e → TakesMark mark.Semicolon d xs ys → OneItem d ts ys (declare at b n (tree.some_expr e))
  one_statement : {ts us : List Lexeme} {s : tree.Stmt} → IsStmt (suc d) ts us s → OneItem d ts us (statement s)

-- the first item of some
pub first_item : tree.Items → Item
first_item tree.no_items = statement (tree.block 0 tree.no_items)
first_item (tree.declare at b n v is) = declare at b n v
first_item (tree.statement s is) = statement s

pub rest_items : tree.Items → tree.Items
rest_items tree.no_items = tree.no_items
rest_items (tree.declare at b n v is) = is
rest_items (tree.statement s is) = is

abbrev has_item : tree.Items → Bool
has_item tree.no_items = false
has_item _ = true

with_has : (i : Item) (is : tree.Items) → has_item (with_one i is) ≡ true
with_has (declare at b n v) is = refl
with_has (statement s) is = refl

with_first_item : (i : Item) (is : tree.Items) → first_item (with_one i is) ≡ i
unfolding first_item
with_first_item (declare at b n v) is = refl
with_first_item (statement s) is = refl

with_rest_items : (i : Item) (is : tree.Items) → rest_items (with_one i is) ≡ is
unfolding rest_items
with_rest_items (declare at b n v) is = refl
with_rest_items (statement s) is = refl

-- items that are none
none_left : (d : ℕ) (ts us : List Lexeme) (is : tree.Items) → has_item is ≡ false → IsItems d ts us is → ts ≡ us
none_left d ts us tree.no_items h g.items_none = refl
none_left d ts us is h i = absurd (false≢true (sym h))

-- items are none, or one and the rest
pub record FirstOf (d : ℕ) (ts us : List Lexeme) (is : tree.Items) : Type 0 where
  pub middle : List Lexeme
  pub item : OneItem d ts middle (first_item is)
  pub rest : IsItems d middle us (rest_items is)

first_of : (d : ℕ) (ts us : List Lexeme) (is : tree.Items) → has_item is ≡ true → IsItems d ts us is → FirstOf d ts us is
unfolding first_item rest_items
first_of d ts us tree.no_items h g.items_none = absurd (false≢true h)
first_of d ts us (tree.declare at b n v is) h (g.items_let_alone p t n' m r) = record { middle = _; item = one_alone p t n' m; rest = r }
first_of d ts us (tree.declare at b n v is) h (g.items_declared p t n' a e m r) = record { middle = _; item = one_declared p t n' a e m; rest = r }
first_of d ts us (tree.statement s is) h (g.items_statement i r) = record { middle = _; item = one_statement i; rest = r }

one_item : (d : ℕ) (ts us : List Lexeme) (i : Item) → IsItem d ts us i → OneItem d ts us i
one_item d ts us i p =
    let f = first_of d ts us (with_one i tree.no_items) (with_has i tree.no_items) p in
    let same = none_left d f.middle us (rest_items (with_one i tree.no_items)) (ap has_item (with_rest_items i tree.no_items)) f.rest in
    subst (λ xs. OneItem d ts xs i) same (subst (λ x. OneItem d ts f.middle x) (with_first_item i tree.no_items) f.item)

-- an item and more items
pub with_more : (d : ℕ) (ts ms us : List Lexeme) (i : Item) (is : tree.Items) → OneItem d ts ms i → IsItems d ms us is → IsItems d ts us (with_one i is)
with_more d ts ms us (declare at b n v) is (one_alone p t n' m) r = g.items_let_alone p t n' m r
with_more d ts ms us (declare at b n v) is (one_declared p t n' a e m) r = g.items_declared p t n' a e m r
with_more d ts ms us (statement s) is (one_statement i) r = g.items_statement i r

item_alone : (d : ℕ) (ts us : List Lexeme) (i : Item) → OneItem d ts us i → IsItem d ts us i
item_alone d ts us i p = with_more d ts us us i tree.no_items p g.items_none

-- items are a repetition of items
pub items_of_list : (d : ℕ) (ts us : List Lexeme) (xs : List Item) → Repeat (IsItem d) ts us xs → IsItems d ts us (items_from xs)
items_of_list d ts us [] rep_stop = g.items_none
items_of_list d ts us (x ∷ xs) (again {us = ms} p r) = with_more d ts ms us x (items_from xs) (one_item d ts ms x p) (items_of_list d ms us xs r)

pub list_of_items : (d : ℕ) (ts us : List Lexeme) (is : tree.Items) → IsItems d ts us is → (xs : List Item) × (is ≡ items_from xs) × Repeat (IsItem d) ts us xs
list_of_items d ts us tree.no_items g.items_none = ([], refl, rep_stop)
list_of_items d ts us (tree.declare at b n v is) (g.items_let_alone {ws = ms} p t n' m r) =
    let l = list_of_items d ms us is r in
    (declare at b n v ∷ l.0, ap (λ x. tree.declare at b n v x) l.1, again (item_alone d ts ms (declare at b n v) (one_alone p t n' m)) l.2)
list_of_items d ts us (tree.declare at b n v is) (g.items_declared {ys = ms} p t n' a e m r) =
    let l = list_of_items d ms us is r in
    (declare at b n v ∷ l.0, ap (λ x. tree.declare at b n v x) l.1, again (item_alone d ts ms (declare at b n v) (one_declared p t n' a e m)) l.2)
list_of_items d ts us (tree.statement s is) (g.items_statement {us = ms} i r) =
    let l = list_of_items d ms us is r in
    (statement s ∷ l.0, ap (λ x. tree.statement s x) l.1, again (item_alone d ts ms (statement s) (one_statement i)) l.2)

-- { ITEMS }
abbrev pub Braced : ℕ → Phrase (ℕ × (List Item × ℕ))
Braced d = Then (At (TakesMark mark.OpenBrace d)) (Then (Repeat (IsItem d)) (At (TakesMark mark.CloseBrace d)))

abbrev pub braced_tree : (ℕ × (List Item × ℕ)) → Blocked
braced_tree b = record { at = b.0; items = items_from b.1.0 }

braced_from : (d : ℕ) (ts us : List Lexeme) (is : tree.Items) → IsBlock d ts us is → (l : List Item × ℕ) × (is ≡ items_from l.0) × Braced d ts us (place ts, l)
braced_from d ts us is (g.in_block {us = vs} {vs = ws} t i c) =
    let l = list_of_items d vs ws is i in
    ((l.0, place ws), l.1, record { between = vs; first = at_is refl t; second = record { between = ws; first = l.2; second = at_is refl c } })

pub block_braced : (d : ℕ) (now : List Token) → Same (IsBlockAt d) (Braced d) braced_tree Anything now
block_braced d now = record {
  to = λ ts us b t. record { at_is = t.first.at_is; block_is = g.in_block t.first.takes (items_of_list d t.between t.second.between b.1.0 t.second.first) t.second.second.takes };
  from = λ ts us b a i e.
      let x = braced_from d ts us b.items i.block_is in
      ((place ts, x.0), ap (λ at. record { at = at; items = b.items }) i.at_is ∙ ap (λ is. record { at = place ts; items = is }) x.1, x.2);
}

-- with which tokens an item begins
item_can : (d : ℕ) (ts us : List Lexeme) (i : Item) → OneItem d ts us i → (kind_first ts ≡ Some (kind.Keyword key.Let)) ⊎ ((kind_first ts ≡ Some (kind.Keyword key.Const)) ⊎ (can_stmt (kind_first ts) ≡ true))
item_can d ts us (declare at b n v) (one_alone p t n' m) = inl (takes_first t)
item_can d ts us (declare at bind.Let n v) (one_declared p t n' a e m) = inl (takes_first t)
item_can d ts us (declare at bind.Const n v) (one_declared p t n' a e m) = inr (inl (takes_first t))
item_can d ts us (statement s) (one_statement i) = inr (inr (stmt_first i))

-- an item begins with no closing brace
abbrev can_item : Option Kind → Bool
can_item (Some (kind.Keyword key.Let)) = true
can_item (Some (kind.Keyword key.Const)) = true
can_item k = can_stmt k

can_item_stmt : (k : Option Kind) → can_stmt k ≡ true → can_item k ≡ true
can_item_stmt None h = h
can_item_stmt (Some kind.Word) h = h
can_item_stmt (Some kind.Number) h = h
can_item_stmt (Some kind.Text) h = h
can_item_stmt (Some (kind.Mark m)) h = h
can_item_stmt (Some (kind.Keyword key.Let)) h = refl
can_item_stmt (Some (kind.Keyword key.Const)) h = refl
can_item_stmt (Some (kind.Keyword k)) h = h

item_first : (d : ℕ) (ts us : List Lexeme) (i : Item) → IsItem d ts us i → can_item (kind_first ts) ≡ true
item_first d ts us i p =
    elim (item_can d ts us i (one_item d ts us i p)) [ inl h ↦ ap can_item h | inr (inl h) ↦ ap can_item h | inr (inr h) ↦ can_item_stmt (kind_first ts) h ]

pub no_item : (d : ℕ) (now : List Token) → kind_next now ≡ Some (kind.Mark mark.CloseBrace) → NoneBegins (IsItem d) now
no_item d now h = record { refuses = λ ts us i b p. false≢true (sym (ap can_item (first_is_next now ts b ∙ h)) ∙ item_first d ts us i p) }

abbrev is_let_binding : Option Binding → Bool
is_let_binding (Some bind.Let) = true
is_let_binding _ = false

abbrev is_let_kind : Kind → Bool
is_let_kind (kind.Keyword key.Let) = true
is_let_kind _ = false

-- a statement as an item, where no word of a declaration is next
abbrev is_some_binding : Option Binding → Bool
is_some_binding None = false
is_some_binding (Some b) = true

no_binding : (b : Binding) (ts : List Lexeme) → binding_start (kind_first ts) ≡ None → kind_first ts ≡ Some (kind.Keyword (binding_key b)) → ⊥
no_binding bind.Let ts h k = false≢true (ap is_some_binding (sym h ∙ ap binding_start k))
no_binding bind.Const ts h k = false≢true (ap is_some_binding (sym h ∙ ap binding_start k))

statement_from : (d : ℕ) (ts us : List Lexeme) (i : Item) → binding_start (kind_first ts) ≡ None → OneItem d ts us i → (s : tree.Stmt) × (i ≡ statement s) × IsStmt (d + 1) ts us s
statement_from d ts us (declare at b n v) h (one_alone p t n' m) = absurd (no_binding bind.Let ts h (takes_first t))
statement_from d ts us (declare at b n v) h (one_declared p t n' a e m) = absurd (no_binding b ts h (takes_first t))
statement_from d ts us (statement s) h (one_statement i) = (s, refl, stmt_up i)

pub statement_same : (d : ℕ) (now : List Token) → binding_start (kind_next now) ≡ None → Same (IsItem d) (IsStmt (d + 1)) (λ s. statement s) Anything now
statement_same d now h = record {
  to = λ ts us s i. item_alone d ts us (statement s) (one_statement (stmt_down i));
  from = λ ts us i b p e. statement_from d ts us i (ap binding_start (first_is_next now ts b) ∙ h) (one_item d ts us i p);
}

pub binding_next : (k : Option Kind) (b : Binding) → binding_start k ≡ Some b → k ≡ Some (kind.Keyword (binding_key b))
binding_next (Some (kind.Keyword key.Let)) bind.Let h = refl
binding_next (Some (kind.Keyword key.Const)) bind.Const h = refl
binding_next (Some (kind.Keyword key.Let)) bind.Const h = absurd (false≢true (sym (ap is_let_binding h)))
binding_next (Some (kind.Keyword key.Const)) bind.Let h = absurd (false≢true (ap is_let_binding h))
binding_next k b h = absurd (false≢true (ap is_some_binding h))

-- a declaration
abbrev pub Declaration : Binding → ℕ → Phrase (ℕ × (tree.Named × (tree.OptionExpr × ℕ)))
Declaration b d = Then (At (TakesKey (binding_key b) d)) (Then (IsName d) (Then (IsInitial b d) (At (TakesMark mark.Semicolon d))))

abbrev pub declaration_tree : Binding → (ℕ × (tree.Named × (tree.OptionExpr × ℕ))) → Item
declaration_tree b t = declare t.0 b t.1.0 t.1.1.0

one_binding : (b c : Binding) → kind.Keyword (binding_key b) ≡ kind.Keyword (binding_key c) → b ≡ c
one_binding bind.Let bind.Let h = refl
one_binding bind.Const bind.Const h = refl
one_binding bind.Let bind.Const h = absurd (false≢true (sym (ap is_let_kind h)))
one_binding bind.Const bind.Let h = absurd (false≢true (ap is_let_kind h))

key_no_stmt : (b : Binding) → can_stmt (Some (kind.Keyword (binding_key b))) ≡ false
key_no_stmt bind.Let = refl
key_no_stmt bind.Const = refl

declaration_from : (b : Binding) (d : ℕ) (ts us : List Lexeme) (i : Item) → BeginsWith (kind.Keyword (binding_key b)) ts → OneItem d ts us i → (t : ℕ × (tree.Named × (tree.OptionExpr × ℕ))) × (i ≡ declaration_tree b t) × Declaration b d ts us t
declaration_from b d ts us (declare at c n v) h (one_alone {us = us'} {vs = vs'} p t n' m) =
    let same : bind.Let ≡ b = one_binding bind.Let b (one_kind (kind.Keyword key.Let) (kind.Keyword (binding_key b)) ts (takes_with t) h) in (
      (at, (n, (tree.no_expr, place vs'))),
      ap (λ x. declare at x n tree.no_expr) same,
      record { between = _; first = at_is p (subst (λ x. TakesKey (binding_key x) d ts us') same t); second = record { between = _; first = n'; second = record { between = _; first = no_initial (sym same); second = at_is refl m } } },
    )
declaration_from b d ts us (declare at c n (tree.some_expr e)) h (one_declared {us = us'} {xs = xs'} p t n' a i m) =
    let same : c ≡ b = one_binding c b (one_kind (kind.Keyword (binding_key c)) (kind.Keyword (binding_key b)) ts (takes_with t) h) in (
      (at, (n, (tree.some_expr e, place xs'))),
      ap (λ x. declare at x n (tree.some_expr e)) same,
      record { between = _; first = at_is p (subst (λ x. TakesKey (binding_key x) d ts us') same t); second = record { between = _; first = n'; second = record { between = _; first = initial a (expr_up i); second = at_is refl m } } },
    )
declaration_from b d ts us (statement s) h (one_statement i) = absurd (false≢true (sym (key_no_stmt b) ∙ ap can_stmt (sym (first_with (kind.Keyword (binding_key b)) ts h)) ∙ stmt_first i))

initial_to : (b : Binding) (d : ℕ) (ts vs ws xs us : List Lexeme) (at : ℕ) (n : tree.Named) (v : tree.OptionExpr) → at ≡ place ts → TakesKey (binding_key b) d ts vs → TakesName n d vs ws → IsInitial b d ws xs v → TakesMark mark.Semicolon d xs us → OneItem d ts us (declare at b n v)
initial_to b d ts vs ws xs us at n tree.no_expr p t n' (no_initial h) m =
    subst (λ x. OneItem d ts us (declare at x n tree.no_expr)) (sym h) (one_alone p (subst (λ x. TakesKey (binding_key x) d ts vs) h t) n' m)
initial_to b d ts vs ws xs us at n (tree.some_expr e) p t n' (initial a i) m = one_declared p t n' a (expr_down i) m

declaration_to : (b : Binding) (d : ℕ) (ts us : List Lexeme) (t : ℕ × (tree.Named × (tree.OptionExpr × ℕ))) → Declaration b d ts us t → OneItem d ts us (declaration_tree b t)
declaration_to b d ts us t p =
    initial_to b d ts p.between p.second.between p.second.second.between us t.0 t.1.0 t.1.1.0 p.first.at_is p.first.takes p.second.first p.second.second.first p.second.second.second.takes

pub declaration_same : (b : Binding) (d : ℕ) (now : List Token) → Same (Starting (kind.Keyword (binding_key b)) (IsItem d)) (Declaration b d) (declaration_tree b) Anything now
declaration_same b d now = record {
  to = λ ts us t p. (takes_with p.first.takes, item_alone d ts us (declaration_tree b t) (declaration_to b d ts us t p));
  from = λ ts us i h p e. declaration_from b d ts us i p.0 (one_item d ts us i p.1);
}

-- what a name is bound to, and nothing
abbrev pub Initial : ℕ → Phrase (ℕ × tree.Expr)
Initial d = Then (At (TakesMark mark.Assign d)) (IsExpr (d + 1))

abbrev is_assign_kind : Kind → Bool
is_assign_kind (kind.Mark mark.Assign) = true
is_assign_kind _ = false

initial_from : (b : Binding) (d : ℕ) (ts us : List Lexeme) (v : tree.OptionExpr) → (b ≡ bind.Let → BeginsWith (kind.Mark mark.Assign) ts) → IsInitial b d ts us v → BeginsWith (kind.Mark mark.Semicolon) us → (t : ℕ × tree.Expr) × (v ≡ tree.some_expr t.1) × Initial d ts us t
initial_from b d ts us tree.no_expr h (no_initial l) e = absurd (false≢true (ap is_assign_kind (one_kind (kind.Mark mark.Semicolon) (kind.Mark mark.Assign) ts e (h l))))
initial_from b d ts us (tree.some_expr x) h (initial a i) e = ((place ts, x), refl, record { between = _; first = at_is refl a; second = i })

pub initial_same : (b : Binding) (d : ℕ) (now : List Token) → (b ≡ bind.Let → kind_next now ≡ Some (kind.Mark mark.Assign)) → Same (IsInitial b d) (Initial d) (λ t. tree.some_expr t.1) (BeginsWith (kind.Mark mark.Semicolon)) now
initial_same b d now h = record {
  to = λ ts us t p. initial p.first.takes p.second;
  from = λ ts us v a i e. initial_from b d ts us v (λ l. begins_with now (kind.Mark mark.Assign) ts (h l) a) i e;
}

no_initial_from : (b : Binding) (d : ℕ) (ts us : List Lexeme) (v : tree.OptionExpr) → (BeginsWith (kind.Mark mark.Assign) ts → ⊥) → IsInitial b d ts us v → (ts ≡ us) × (v ≡ tree.no_expr)
no_initial_from b d ts us tree.no_expr h (no_initial l) = (refl, refl)
no_initial_from b d ts us (tree.some_expr x) h (initial a i) = absurd (h (takes_with a))

pub nothing_initial : (b : Binding) (d : ℕ) (now : List Token) → b ≡ bind.Let → ¬ (kind_next now ≡ Some (kind.Mark mark.Assign)) → Parses (IsInitial b d) (BeginsWith (kind.Mark mark.Semicolon)) now now (Ok tree.no_expr)
nothing_initial b d now l h = nothing_there tree.no_expr (λ us e n. no_initial l) (λ ts us v a i e. no_initial_from b d ts us v ((not_behind now (kind.Mark mark.Assign) h).refuses ts a) i)

-- an item has a token
pub item_some : (d : ℕ) (i : Item) → IsItem d [] [] i → ⊥
item_some d i p = false≢true (item_first d [] [] i p)
