-- The rules of `for`, of expressions that are run or written to, of `else` and of what `catch` binds.
use Rattle.std.proofs.Common.{◌≡◌, ◌≢◌, ℕ, zero, suc, ◌+◌, Bool, true, false, List, [], ◌∷◌, ◌++◌, ◌⊎◌, inl, inr, Option, Some, None, refl, sym, ◌∙◌, ap, subst, codes}
use Rattle.std.proofs.lemmas.Bool.{false≢true}
use Rattle.std.proofs.lemmas.Option.{none-some}
use Rattle.do_lex.specs.declared.kind.Kind.{Kind}
use Rattle.do_lex.specs.declared.kind.Kind.TheVariants as kind
use Rattle.do_lex.specs.declared.kind.Keyword.{Keyword}
use Rattle.do_lex.specs.declared.kind.Keyword.TheVariants as key
use Rattle.do_lex.specs.declared.kind.Mark.{Mark}
use Rattle.do_lex.specs.declared.kind.Mark.TheVariants as mark
use Rattle.do_lex.specs.declared.tokens.Token.{Token}
use Rattle.do_tree.specs.Grammar as g
use Rattle.do_tree.specs.Grammar.{Takes, TakesMark, TakesKey, TakesName, TakesWord, IsExpr, IsStmt, IsElse, IsSimple, IsCaught, BeginsWithNo, binding_key}
use Rattle.do_tree.specs.Lexeme.{Lexeme, place}
use Rattle.do_tree.specs.Tree as tree
use Rattle.do_tree.specs.declared.stmt.Binding.{Binding}
use Rattle.do_tree.specs.declared.stmt.Binding.TheVariants as bind
use Rattle.do_parse.specs.Follow.{behind_expr}
use Rattle.do_parse.specs.Lists.{BeginsWith, Starting}
use Rattle.do_parse.specs.Parsed.{BeginAlike, Phrase, Follow, Anything, ends_by, CanBegin, ElseIsNext, ElseAsNext}
use Rattle.do_parse.specs.Pieces.{Bound, IsForHead, IsForRest, IsForOfRest, InParens, IsExprThen, IsSimpleStmt, IsMarkExpr, IsWrite, Written, simple_from}
use Rattle.do_parse.specs.Pieces.{is_nothing, is_value, is_sum, is_difference, is_one_more, is_one_less}
use Rattle.do_parse.specs.Starts.{kind_next, place_next, begins_expr, stmt_start, write_start}
use Rattle.do_parse.specs.Taken.{IsName}
use Rattle.do_parse.specs.Then.{Then, At}
use Rattle.do_parse.specs.declared.starts.StmtStart.{StmtStart}
use Rattle.do_parse.specs.declared.starts.StmtStart.TheVariants as start
use Rattle.do_parse.proofs.Deep.{mark_token, null_token, null_expr, lexeme, lexeme_takes, word_takes, block_stmt_is}
use Rattle.do_parse.proofs.Dependent.{Dep}
use Rattle.do_parse.proofs.Facts.{BeginsBy, anything_begins, mark_stands, key_stands, last, before, stands_then, takes_begins}
use Rattle.do_parse.proofs.FactsExpr.{expr_stands}
use Rattle.do_parse.proofs.First.{kind_first, first_is_next, place_is_next, first_with, with_first, takes_with, takes_first, expr_first, simple_first, start_of, start_is}
use Rattle.do_parse.proofs.Lists.{not_behind, begins_with}
use Rattle.do_parse.proofs.Sequence.{Same, SameHere, Stands, Behind}
use Rattle.do_parse.proofs.Standing.{stands_as, expr_then_stands, stmt_stands, name_stands, word_stands}
use Rattle.do_parse.proofs.Statements.{expr_up, expr_down, stmt_up, stmt_down, at_is, start_with, is_for, is_simple}

abbrev is_word_kind : Kind → Bool
is_word_kind kind.Word = true
is_word_kind _ = false

-- two kinds in one place
pub one_kind : (j k : Kind) (ts : List Lexeme) → BeginsWith j ts → BeginsWith k ts → j ≡ k
one_kind j k [] a b = absurd a
one_kind j k (t ∷ ts) a b = sym a ∙ b

-- for ( let NAME, or with const, and what stands behind it
pub data IsForTail (d : ℕ) (b : Bound) : List Lexeme → List Lexeme → tree.Stmt → Type 0 where
  steps : {ts us : List Lexeme} {s : tree.Stmt} → b.binding ≡ bind.Let → IsForRest d b.at b.name ts us s → IsForTail d b ts us s
  listed : {ts us : List Lexeme} {s : tree.Stmt} → IsForOfRest d b.at b.binding b.name ts us s → IsForTail d b ts us s

abbrev pub For : ℕ → Phrase tree.Stmt
For d = Dep (IsForHead d) (IsForTail d)

for_to : (d : ℕ) (ts us : List Lexeme) (s : tree.Stmt) → For d ts us s → IsStmt d ts us s
for_to d ts us s t = by_tail t.second
  where
    by_tail : IsForTail d t.value t.between us s → IsStmt d ts us s
    by_tail (steps l r) =
        subst (λ x. IsStmt d ts us x) (sym r.tree_is)
        (g.for t.first.at_is t.first.for_is t.first.open_paren (subst (λ b. TakesKey (binding_key b) d t.first.ws t.first.xs) l t.first.binding_is) t.first.name_is r.assign
        (expr_down r.first_is.expr) r.first_is.mark_is (expr_down r.test_is.expr) r.test_is.mark_is r.step_is r.close_paren (stmt_down r.body_is))
    by_tail (listed r) =
        subst (λ x. IsStmt d ts us x) (sym r.tree_is)
        (g.for_of t.first.at_is t.first.for_is t.first.open_paren t.first.binding_is t.first.name_is r.of_is (expr_down r.list_is.expr) r.list_is.mark_is (stmt_down r.body_is))

for_from : (d : ℕ) (ts us : List Lexeme) (s : tree.Stmt) → BeginsWith (kind.Keyword key.For) ts → IsStmt d ts us s → For d ts us s
for_from d ts us s b (g.for {n = n'} {first = f'} {test = t'} {step = s'} {s = b'} p k o l n a e m f m' i c body) = record {
  value = record { at = place ts; binding = bind.Let; name = n' };
  between = _;
  first = record { vs = _; ws = _; xs = _; at_is = refl; for_is = k; open_paren = o; binding_is = l; name_is = n };
  second = steps refl (record {
    vs = _;
    ws = _;
    xs = _;
    ys = _;
    zs = _;
    first = f';
    test = t';
    step = s';
    body = b';
    assign = a;
    first_is = record { vs = _; expr = expr_up e; mark_is = m };
    test_is = record { vs = _; expr = expr_up f; mark_is = m' };
    step_is = i;
    close_paren = c;
    body_is = stmt_up body;
    tree_is = ap (λ at. tree.for at n' f' t' s' b') p;
  });
}
for_from d ts us s b (g.for_of {b = b'} {n = n'} {l = l'} {s = s'} p k o l n w e c body) = record {
  value = record { at = place ts; binding = b'; name = n' };
  between = _;
  first = record { vs = _; ws = _; xs = _; at_is = refl; for_is = k; open_paren = o; binding_is = l; name_is = n };
  second = listed (record {
    vs = _;
    ws = _;
    listed = l';
    body = s';
    of_is = w;
    list_is = record { vs = _; expr = expr_up e; mark_is = c };
    body_is = stmt_up body;
    tree_is = ap (λ at. tree.for_of at b' n' l' s') p;
  });
}
for_from d ts us s b i = absurd (false≢true (sym (ap is_for (start_with (kind.Keyword key.For) d ts us s b i))))

pub for_same : (d : ℕ) (now : List Token) → Same (Starting (kind.Keyword key.For) (IsStmt d)) (For d) (λ s. s) Anything now
for_same d now = record {
  to = λ ts us s t. (takes_with t.first.for_is, for_to d ts us s t);
  from = λ ts us s b i e. (s, refl, for_from d ts us s i.0 i.1);
}

-- the two ways to go on
pub steps_same : (d : ℕ) (b : Bound) (now : List Token) → b.binding ≡ bind.Let → kind_next now ≡ Some (kind.Mark mark.Assign) → Same (IsForTail d b) (IsForRest d b.at b.name) (λ s. s) Anything now
steps_same d b now h k = record {
  to = λ ts us s t. steps h t;
  from = from;
}
  where
    from : (ts us : List Lexeme) (s : tree.Stmt) → BeginAlike now ts → IsForTail d b ts us s → Anything us → (x : tree.Stmt) × (s ≡ x) × IsForRest d b.at b.name ts us x
    from ts us s a (steps l r) e = (s, refl, r)
    from ts us s a (listed r) e = absurd (false≢true (ap is_word_kind (one_kind (kind.Mark mark.Assign) kind.Word ts (begins_with now (kind.Mark mark.Assign) ts k a) (takes_with r.of_is.takes))))

pub listed_same : (d : ℕ) (b : Bound) (now : List Token) → (b.binding ≡ bind.Let → ¬ (kind_next now ≡ Some (kind.Mark mark.Assign))) → Same (IsForTail d b) (IsForOfRest d b.at b.binding b.name) (λ s. s) Anything now
listed_same d b now h = record {
  to = λ ts us s t. listed t;
  from = from;
}
  where
    from : (ts us : List Lexeme) (s : tree.Stmt) → BeginAlike now ts → IsForTail d b ts us s → Anything us → (x : tree.Stmt) × (s ≡ x) × IsForOfRest d b.at b.binding b.name ts us x
    from ts us s a (steps l r) e = absurd ((not_behind now (kind.Mark mark.Assign) (h l)).refuses ts a (takes_with r.assign))
    from ts us s a (listed r) e = (s, refl, r)
