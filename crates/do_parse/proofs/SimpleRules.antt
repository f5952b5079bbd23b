-- The rules of expressions that are run or written to, of `else`, of what `catch` binds, and which statement is next.
use Rattle.std.proofs.Common.{◌≡◌, ◌≢◌, ℕ, zero, suc, ◌+◌, ◌≤◌, ◌<◌, arith, Bool, true, false, List, [], ◌∷◌, ◌++◌, ◌⊎◌, inl, inr, Option, Some, None, Result, Ok, Err, refl, sym, ◌∙◌, ap, subst, codes}
use Rattle.std.proofs.lemmas.Bool.{false≢true}
use Rattle.std.proofs.lemmas.Option.{none-some}
use Rattle.do_lex.specs.declared.kind.Kind.{Kind}
use Rattle.do_lex.specs.declared.kind.Kind.TheVariants as kind
use Rattle.do_lex.specs.declared.kind.Keyword.{Keyword}
use Rattle.do_lex.specs.declared.kind.Keyword.TheVariants as key
use Rattle.do_lex.specs.declared.kind.Mark.{Mark}
use Rattle.do_lex.specs.declared.kind.Mark.TheVariants as mark
use Rattle.do_lex.specs.declared.tokens.Token.{Token}
use Rattle.do_tree.specs.Accepts.{most_inside}
use Rattle.do_tree.specs.Grammar as g
use Rattle.do_tree.specs.Grammar.{Takes, TakesMark, TakesKey, TakesName, TakesWord, IsExpr, IsStmt, IsElse, IsSimple, IsCaught, BeginsWithNo, binding_key}
use Rattle.do_tree.specs.Lexeme.{Lexeme, place}
use Rattle.do_tree.specs.Tree as tree
use Rattle.do_parse.specs.Deep.{stmt_stop_at, stop_at}
use Rattle.do_parse.specs.Follow.{behind_expr, behind_simple}
use Rattle.do_parse.specs.Lists.{BeginsWith, Starting}
use Rattle.do_parse.specs.Parsed.{BeginAlike, Phrase, Follow, Anything, ends_by, CanBegin, ElseIsNext, ElseAsNext, Parses}
use Rattle.do_parse.specs.Pieces.{IsSimpleStmt, IsMarkExpr, IsWrite, Written, simple_from}
use Rattle.do_parse.specs.Pieces.{is_nothing, is_value, is_sum, is_difference, is_one_more, is_one_less, nothing, value, sum, difference, one_more, one_less}
use Rattle.do_parse.specs.Starts.{kind_next, place_next, begins_expr, stmt_start, write_start}
use Rattle.do_parse.specs.Taken.{IsName}
use Rattle.do_parse.specs.Then.{Then, At}
use Rattle.do_parse.specs.declared.starts.StmtStart.{StmtStart}
use Rattle.do_parse.specs.declared.starts.StmtStart.TheVariants as start
use Rattle.do_parse.specs.declared.starts.WriteStart.{WriteStart}
use Rattle.do_parse.specs.declared.starts.WriteStart.TheVariants as write
use Rattle.do_parse.specs.declared.stop.Stop.{Stop}
use Rattle.do_parse.specs.declared.stop.Stop.TheVariants.{Unexpected, TooNested, NoMemory}
use Rattle.do_parse.proofs.Deep.{lexeme, null_token, null_expr, stmt_begins}
use Rattle.do_parse.proofs.Facts.{BeginsBy, anything_begins, mark_begins, mark_stands, key_stands, last, before, stands_then, takes_begins}
use Rattle.do_parse.proofs.FactsExpr.{expr_stands}
use Rattle.do_parse.proofs.First.{kind_first, first_is_next, place_is_next, first_with, with_first, takes_with, takes_first, expr_first, simple_first, start_of, start_is, stmt_first, can_stmt}
use Rattle.do_parse.proofs.ForRules.{one_kind}
use Rattle.do_parse.proofs.Lists.{not_behind, begins_with, nothing_there}
use Rattle.do_parse.proofs.Held.{stmt_held, deep_first}
use Rattle.do_parse.proofs.Sequence.{Same, SameHere, Stands, Behind, wrong_here, deep_here}
use Rattle.do_parse.proofs.Standing.{stands_as, stmt_stands, name_stands}
use Rattle.do_parse.proofs.Tokens.{is_else}
use Rattle.do_parse.proofs.Statements.{expr_up, expr_down, stmt_up, stmt_down, at_is, is_simple}

-- a statement that begins as no other is simple
abbrev is_block_start : StmtStart → Bool
is_block_start start.Block = true
is_block_start _ = false

no_brace : (ts : List Lexeme) → stmt_start (kind_first ts) ≡ start.Simple → BeginsWithNo (kind.Mark mark.OpenBrace) ts
no_brace [] h = tt
no_brace (t ∷ ts) h = λ e. false≢true (sym (ap is_block_start h) ∙ ap (λ k. is_block_start (stmt_start (Some k))) e)

simple_from' : (d : ℕ) (ts us : List Lexeme) (s : tree.Stmt) → start.Simple ≡ start_of s → IsStmt d ts us s → IsSimpleStmt d ts us s
simple_from' d ts us s h (g.simple b i m) = record { vs = _; simple = _; simple_is = i; semicolon = m; stmt_is = refl }
simple_from' d ts us s h i = absurd (false≢true (sym (ap is_simple h)))

pub simple_stmt_here : (d : ℕ) (now : List Token) → stmt_start (kind_next now) ≡ start.Simple → SameHere (IsStmt d) (IsSimpleStmt d) (λ s. s) Anything now
simple_stmt_here d now h = record {
  to = λ ts us s b t. subst (λ x. IsStmt d ts us x) (sym t.stmt_is) (g.simple (no_brace ts (ap stmt_start (first_is_next now ts b) ∙ h)) t.simple_is t.semicolon);
  from = λ ts us s b i e. (s, refl, simple_from' d ts us s (sym (ap stmt_start (first_is_next now ts b) ∙ h) ∙ start_is i) i);
  can = (stmt_stands d {Ends = Anything}).begun;
  end_may = tt;
  some = λ s t. false≢true (simple_first t.simple_is);
}

-- an expression that is run, or a write, and its semicolon
pub simple_stmt_same : (d : ℕ) (now : List Token) → Same (IsSimpleStmt d) (Then (IsSimple d) (At (TakesMark mark.Semicolon d))) (λ b. tree.simple b.0) Anything now
simple_stmt_same d now = record {
  to = λ ts us b t. record { vs = t.between; simple = b.0; simple_is = t.first; semicolon = t.second.takes; stmt_is = refl };
  from = λ ts us s b i e. ((i.simple, place i.vs), i.stmt_is, record { between = i.vs; first = i.simple_is; second = at_is refl i.semicolon });
}

pub simple_stands : (d : ℕ) {Ends : Follow} → Stands (IsSimple d) Ends
simple_stands d = record {
  begun = record { rest = null_token (suc (suc d)) ∷ []; tree = tree.run 0 (tree.null 0); is = λ us e. g.simple_run refl (null_expr (suc d) us) };
  no_else = λ us e h. false≢true (ap is_else h);
}

-- an expression, and what is written to it
pub simple_here : (d : ℕ) (now : List Token) → SameHere (IsSimple d) (Then (IsExpr (d + 1)) (IsWrite d)) (λ b. simple_from b.1 (place_next now) b.0) (ends_by behind_simple) now
simple_here d now = record {
  to = to;
  from = from;
  can = (simple_stands d {Ends = ends_by behind_simple}).begun;
  end_may = tt;
  some = λ s t. false≢true (expr_first t.first);
}
  where
    by_write : (ts ms us : List Lexeme) (e : tree.Expr) (w : Written) → place_next now ≡ place ts → IsExpr (suc d) ts ms e → IsWrite d ms us w → IsSimple d ts us (simple_from w (place_next now) e)
    by_write ts ms us e nothing p i is_nothing = g.simple_run p i
    by_write ts ms us e (value v) p i (is_value m) = g.simple_assign p i m.mark_is (expr_down m.expr)
    by_write ts ms us e (sum v) p i (is_sum m) = g.simple_add_assign p i m.mark_is (expr_down m.expr)
    by_write ts ms us e (difference v) p i (is_difference m) = g.simple_sub_assign p i m.mark_is (expr_down m.expr)
    by_write ts ms us e one_more p i (is_one_more m) = g.simple_increment p i m
    by_write ts ms us e one_less p i (is_one_less m) = g.simple_decrement p i m

    to : (ts us : List Lexeme) (b : tree.Expr × Written) → BeginAlike now ts → Then (IsExpr (d + 1)) (IsWrite d) ts us b → IsSimple d ts us (simple_from b.1 (place_next now) b.0)
    to ts us b a t = by_write ts t.between us b.0 b.1 (sym (place_is_next now ts a)) (expr_down t.first) t.second

    from : (ts us : List Lexeme) (s : tree.Simple) → BeginAlike now ts → IsSimple d ts us s → ends_by behind_simple us → (b : tree.Expr × Written) × (s ≡ simple_from b.1 (place_next now) b.0) × Then (IsExpr (d + 1)) (IsWrite d) ts us b
    from ts us s a (g.simple_run {e = e'} p i) e =
        ((e', nothing), ap (λ at. tree.run at e') (p ∙ place_is_next now ts a), record { between = _; first = expr_up i; second = is_nothing })
    from ts us s a (g.simple_assign {p = p'} {e = e'} p i m v) e =
        ((p', value e'), ap (λ at. tree.assign at p' e') (p ∙ place_is_next now ts a), record { between = _; first = expr_up i; second = is_value (record { vs = _; mark_is = m; expr = expr_up v }) })
    from ts us s a (g.simple_add_assign {p = p'} {e = e'} p i m v) e =
        ((p', sum e'), ap (λ at. tree.add_assign at p' e') (p ∙ place_is_next now ts a), record { between = _; first = expr_up i; second = is_sum (record { vs = _; mark_is = m; expr = expr_up v }) })
    from ts us s a (g.simple_sub_assign {p = p'} {e = e'} p i m v) e =
        ((p', difference e'), ap (λ at. tree.sub_assign at p' e') (p ∙ place_is_next now ts a), record { between = _; first = expr_up i; second = is_difference (record { vs = _; mark_is = m; expr = expr_up v }) })
    from ts us s a (g.simple_increment {p = p'} p i m) e =
        ((p', one_more), ap (λ at. tree.increment at p') (p ∙ place_is_next now ts a), record { between = _; first = expr_up i; second = is_one_more m })
    from ts us s a (g.simple_decrement {p = p'} p i m) e =
        ((p', one_less), ap (λ at. tree.decrement at p') (p ∙ place_is_next now ts a), record { between = _; first = expr_up i; second = is_one_less m })

-- what is written, told by the next token
abbrev pub start_of_write : Written → WriteStart
start_of_write nothing = write.Nothing
start_of_write (value e) = write.Assign
start_of_write (sum e) = write.AddAssign
start_of_write (difference e) = write.SubAssign
start_of_write one_more = write.Increment
start_of_write one_less = write.Decrement

ends_simple : (k : Kind) → behind_simple k ≡ true → write_start (Some k) ≡ write.Nothing
ends_simple kind.Word e = absurd (false≢true e)
ends_simple kind.Number e = absurd (false≢true e)
ends_simple kind.Text e = absurd (false≢true e)
ends_simple (kind.Keyword k) e = absurd (false≢true e)
ends_simple (kind.Mark mark.Semicolon) e = refl
ends_simple (kind.Mark mark.CloseParen) e = refl
ends_simple (kind.Mark m) e = absurd (false≢true e)

ends_nothing : (us : List Lexeme) → ends_by behind_simple us → write_start (kind_first us) ≡ write.Nothing
ends_nothing [] e = refl
ends_nothing (t ∷ us) e = ends_simple t.kind e

write_is : (d : ℕ) (ts us : List Lexeme) (w : Written) → IsWrite d ts us w → ends_by behind_simple us → write_start (kind_first ts) ≡ start_of_write w
write_is d ts us nothing is_nothing e = ends_nothing us e
write_is d ts us (value v) (is_value m) e = ap write_start (takes_first m.mark_is)
write_is d ts us (sum v) (is_sum m) e = ap write_start (takes_first m.mark_is)
write_is d ts us (difference v) (is_difference m) e = ap write_start (takes_first m.mark_is)
write_is d ts us one_more (is_one_more m) e = ap write_start (takes_first m)
write_is d ts us one_less (is_one_less m) e = ap write_start (takes_first m)

abbrev is_nothing_start : WriteStart → Bool
is_nothing_start write.Nothing = true
is_nothing_start _ = false

abbrev is_assign_start : WriteStart → Bool
is_assign_start write.Assign = true
is_assign_start _ = false

abbrev is_add_start : WriteStart → Bool
is_add_start write.AddAssign = true
is_add_start _ = false

abbrev is_sub_start : WriteStart → Bool
is_sub_start write.SubAssign = true
is_sub_start _ = false

abbrev is_increment_start : WriteStart → Bool
is_increment_start write.Increment = true
is_increment_start _ = false

abbrev is_decrement_start : WriteStart → Bool
is_decrement_start write.Decrement = true
is_decrement_start _ = false

value_from : (d : ℕ) (ts us : List Lexeme) (w : Written) → write.Assign ≡ start_of_write w → IsWrite d ts us w → (e : tree.Expr) × (w ≡ value e) × IsMarkExpr mark.Assign d ts us e
value_from d ts us (value v) h (is_value m) = (v, refl, m)
value_from d ts us w h i = absurd (false≢true (sym (ap is_assign_start h)))

sum_from : (d : ℕ) (ts us : List Lexeme) (w : Written) → write.AddAssign ≡ start_of_write w → IsWrite d ts us w → (e : tree.Expr) × (w ≡ sum e) × IsMarkExpr mark.AddAssign d ts us e
sum_from d ts us (sum v) h (is_sum m) = (v, refl, m)
sum_from d ts us w h i = absurd (false≢true (sym (ap is_add_start h)))

difference_from : (d : ℕ) (ts us : List Lexeme) (w : Written) → write.SubAssign ≡ start_of_write w → IsWrite d ts us w → (e : tree.Expr) × (w ≡ difference e) × IsMarkExpr mark.SubAssign d ts us e
difference_from d ts us (difference v) h (is_difference m) = (v, refl, m)
difference_from d ts us w h i = absurd (false≢true (sym (ap is_sub_start h)))

one_more_from : (d : ℕ) (ts us : List Lexeme) (w : Written) → write.Increment ≡ start_of_write w → IsWrite d ts us w → (at : ℕ) × (w ≡ one_more) × At (TakesMark mark.Increment d) ts us at
one_more_from d ts us one_more h (is_one_more m) = (place ts, refl, at_is refl m)
one_more_from d ts us w h i = absurd (false≢true (sym (ap is_increment_start h)))

one_less_from : (d : ℕ) (ts us : List Lexeme) (w : Written) → write.Decrement ≡ start_of_write w → IsWrite d ts us w → (at : ℕ) × (w ≡ one_less) × At (TakesMark mark.Decrement d) ts us at
one_less_from d ts us one_less h (is_one_less m) = (place ts, refl, at_is refl m)
one_less_from d ts us w h i = absurd (false≢true (sym (ap is_decrement_start h)))

nothing_from : (d : ℕ) (ts us : List Lexeme) (w : Written) → write.Nothing ≡ start_of_write w → IsWrite d ts us w → (ts ≡ us) × (w ≡ nothing)
nothing_from d ts us nothing h is_nothing = (refl, refl)
nothing_from d ts us w h i = absurd (false≢true (sym (ap is_nothing_start h)))

-- the start, by the next token
next_write : (d : ℕ) (now : List Token) (s : WriteStart) (ts us : List Lexeme) (w : Written) → write_start (kind_next now) ≡ s → BeginAlike now ts → IsWrite d ts us w → ends_by behind_simple us → s ≡ start_of_write w
next_write d now s ts us w h b i e = sym h ∙ ap write_start (sym (first_is_next now ts b)) ∙ write_is d ts us w i e

pub value_same : (d : ℕ) (now : List Token) → write_start (kind_next now) ≡ write.Assign → Same (IsWrite d) (IsMarkExpr mark.Assign d) (λ e. value e) (ends_by behind_simple) now
value_same d now h = record { to = λ ts us e m. is_value m; from = λ ts us w b i e. value_from d ts us w (next_write d now write.Assign ts us w h b i e) i }

pub sum_same : (d : ℕ) (now : List Token) → write_start (kind_next now) ≡ write.AddAssign → Same (IsWrite d) (IsMarkExpr mark.AddAssign d) (λ e. sum e) (ends_by behind_simple) now
sum_same d now h = record { to = λ ts us e m. is_sum m; from = λ ts us w b i e. sum_from d ts us w (next_write d now write.AddAssign ts us w h b i e) i }

pub difference_same : (d : ℕ) (now : List Token) → write_start (kind_next now) ≡ write.SubAssign → Same (IsWrite d) (IsMarkExpr mark.SubAssign d) (λ e. difference e) (ends_by behind_simple) now
difference_same d now h = record { to = λ ts us e m. is_difference m; from = λ ts us w b i e. difference_from d ts us w (next_write d now write.SubAssign ts us w h b i e) i }

pub one_more_same : (d : ℕ) (now : List Token) → write_start (kind_next now) ≡ write.Increment → Same (IsWrite d) (At (TakesMark mark.Increment d)) (λ at. one_more) (ends_by behind_simple) now
one_more_same d now h = record { to = λ ts us e m. is_one_more m.takes; from = λ ts us w b i e. one_more_from d ts us w (next_write d now write.Increment ts us w h b i e) i }

pub one_less_same : (d : ℕ) (now : List Token) → write_start (kind_next now) ≡ write.Decrement → Same (IsWrite d) (At (TakesMark mark.Decrement d)) (λ at. one_less) (ends_by behind_simple) now
one_less_same d now h = record { to = λ ts us e m. is_one_less m.takes; from = λ ts us w b i e. one_less_from d ts us w (next_write d now write.Decrement ts us w h b i e) i }

pub no_write : (d : ℕ) (now : List Token) → write_start (kind_next now) ≡ write.Nothing → Parses (IsWrite d) (ends_by behind_simple) now now (Ok nothing)
no_write d now h = nothing_there nothing (λ us e l. is_nothing) (λ ts us w b i e. nothing_from d ts us w (next_write d now write.Nothing ts us w h b i e) i)

-- what may be written stands behind an expression
no_else_simple : (us : List Lexeme) → ends_by behind_simple us → BeginsWithNo (kind.Keyword key.Else) us
no_else_simple [] e = tt
no_else_simple (t ∷ us) e = λ h. false≢true (ap behind_simple (sym h) ∙ e)

simple_is_expr : (k : Kind) → behind_simple k ≡ true → behind_expr k ≡ true
simple_is_expr kind.Word e = e
simple_is_expr kind.Number e = e
simple_is_expr kind.Text e = e
simple_is_expr (kind.Keyword k) e = e
simple_is_expr (kind.Mark mark.Semicolon) e = refl
simple_is_expr (kind.Mark mark.CloseParen) e = refl
simple_is_expr (kind.Mark m) e = absurd (false≢true e)

pub simple_to_expr : (us : List Lexeme) → ends_by behind_simple us → ends_by behind_expr us
simple_to_expr [] e = tt
simple_to_expr (t ∷ us) e = simple_is_expr t.kind e

pub behind_write : (d : ℕ) → Behind (ends_by behind_expr) (IsWrite d) (ends_by behind_simple)
behind_write d = record {
  may = may;
  stands = record { begun = record { rest = []; tree = nothing; is = λ us e. is_nothing }; no_else = no_else_simple };
}
  where
    may : (ts us : List Lexeme) (w : Written) → IsWrite d ts us w → ends_by behind_simple us → ends_by behind_expr ts
    may ts us nothing is_nothing e = simple_to_expr us e
    may ts us (value v) (is_value m) e = takes_begins behind_expr refl m.mark_is
    may ts us (sum v) (is_sum m) e = takes_begins behind_expr refl m.mark_is
    may ts us (difference v) (is_difference m) e = takes_begins behind_expr refl m.mark_is
    may ts us one_more (is_one_more m) e = takes_begins behind_expr refl m
    may ts us one_less (is_one_less m) e = takes_begins behind_expr refl m

pub mark_expr_same : (m : Mark) (d : ℕ) (E : Follow) (now : List Token) → Same (IsMarkExpr m d) (Then (At (TakesMark m d)) (IsExpr (d + 1))) (λ b. b.1) E now
mark_expr_same m d E now = record {
  to = λ ts us b t. record { vs = t.between; mark_is = t.first.takes; expr = t.second };
  from = λ ts us e b i _. ((place ts, e), refl, record { between = i.vs; first = at_is refl i.mark_is; second = i.expr });
}

-- else
else_from : (d : ℕ) (ts us : List Lexeme) (o : tree.OptionStmt) → BeginsWith (kind.Keyword key.Else) ts → IsElse d ts us o → (b : ℕ × tree.Stmt) × (o ≡ tree.some_stmt b.1) × Then (At (TakesKey key.Else d)) (IsStmt (d + 1)) ts us b
else_from d (t ∷ ts) us tree.no_stmt b (g.else_none h) = absurd (h b)
else_from d [] us tree.no_stmt b (g.else_none h) = absurd b
else_from d ts us (tree.some_stmt s) b (g.else_other t i) = ((place ts, s), refl, record { between = _; first = at_is refl t; second = stmt_up i })

pub else_same : (d : ℕ) (now : List Token) → kind_next now ≡ Some (kind.Keyword key.Else) → Same (IsElse d) (Then (At (TakesKey key.Else d)) (IsStmt (d + 1))) (λ b. tree.some_stmt b.1) Anything now
else_same d now h = record {
  to = λ ts us b t. g.else_other t.first.takes (stmt_down t.second);
  from = λ ts us o b i e. else_from d ts us o (begins_with now (kind.Keyword key.Else) ts h b) i;
}

no_else_from : (d : ℕ) (ts us : List Lexeme) (o : tree.OptionStmt) → (BeginsWith (kind.Keyword key.Else) ts → ⊥) → IsElse d ts us o → (ts ≡ us) × (o ≡ tree.no_stmt)
no_else_from d ts us tree.no_stmt h (g.else_none i) = (refl, refl)
no_else_from d ts us (tree.some_stmt s) h (g.else_other t i) = absurd (h (takes_with t))

not_else : (now : List Token) → ¬ (kind_next now ≡ Some (kind.Keyword key.Else)) → ElseIsNext now → ⊥
not_else [] h e = e
not_else (t ∷ now) h e = h (ap (λ k. Some k) e)

pub no_else_there : (d : ℕ) (now : List Token) → ¬ (kind_next now ≡ Some (kind.Keyword key.Else)) → Parses (IsElse d) Anything now now (Ok tree.no_stmt)
no_else_there d now h =
    nothing_there tree.no_stmt (λ us e l. elim l [ inl x ↦ absurd (not_else now h x) | inr x ↦ g.else_none x ])
    (λ ts us o b i e. no_else_from d ts us o ((not_behind now (kind.Keyword key.Else) h).refuses ts b) i)

-- ( NAME ) behind catch
abbrev pub Caught : ℕ → Phrase (ℕ × (tree.Named × ℕ))
Caught d = Then (At (TakesMark mark.OpenParen d)) (Then (IsName d) (At (TakesMark mark.CloseParen d)))

caught_from : (d : ℕ) (ts us : List Lexeme) (o : Option tree.Named) → (BeginsWith (kind.Mark mark.OpenBrace) ts → ⊥) → IsCaught d ts us o → BeginsWith (kind.Mark mark.OpenBrace) us → (b : ℕ × (tree.Named × ℕ)) × (o ≡ Some b.1.0) × Caught d ts us b
caught_from d ts us None h g.caught_none e = absurd (h e)
caught_from d ts us (Some n) h (g.caught_name {vs = vs'} t i c) e = ((place ts, (n, place vs')), refl, record { between = _; first = at_is refl t; second = record { between = _; first = i; second = at_is refl c } })

pub caught_same : (d : ℕ) (now : List Token) → ¬ (kind_next now ≡ Some (kind.Mark mark.OpenBrace)) → Same (IsCaught d) (Caught d) (λ b. Some b.1.0) (BeginsWith (kind.Mark mark.OpenBrace)) now
caught_same d now h = record {
  to = λ ts us b t. g.caught_name t.first.takes t.second.first t.second.second.takes;
  from = λ ts us o b i e. caught_from d ts us o ((not_behind now (kind.Mark mark.OpenBrace) h).refuses ts b) i e;
}

abbrev is_paren : Kind → Bool
is_paren (kind.Mark mark.OpenParen) = true
is_paren _ = false

no_caught_from : (d : ℕ) (ts us : List Lexeme) (o : Option tree.Named) → BeginsWith (kind.Mark mark.OpenBrace) ts → IsCaught d ts us o → (ts ≡ us) × (o ≡ None)
no_caught_from d ts us None b g.caught_none = (refl, refl)
no_caught_from d ts us (Some n) b (g.caught_name t i c) = absurd (false≢true (ap is_paren (one_kind (kind.Mark mark.OpenBrace) (kind.Mark mark.OpenParen) ts b (takes_with t))))

pub no_caught : (d : ℕ) (now : List Token) → kind_next now ≡ Some (kind.Mark mark.OpenBrace) → Parses (IsCaught d) (BeginsWith (kind.Mark mark.OpenBrace)) now now (Ok None)
no_caught d now h = nothing_there None (λ us e l. g.caught_none) (λ ts us o b i e. no_caught_from d ts us o (begins_with now (kind.Mark mark.OpenBrace) ts h b) i)

-- which statement is next
abbrev pub kind_of_start : StmtStart → Kind
kind_of_start start.Block = kind.Mark mark.OpenBrace
kind_of_start start.If = kind.Keyword key.If
kind_of_start start.While = kind.Keyword key.While
kind_of_start start.For = kind.Keyword key.For
kind_of_start start.Try = kind.Keyword key.Try
kind_of_start start.Throw = kind.Keyword key.Throw
kind_of_start start.Return = kind.Keyword key.Return
kind_of_start start.Break = kind.Keyword key.Break
kind_of_start start.Continue = kind.Keyword key.Continue
kind_of_start start.Simple = kind.Word

pub stmt_kind : (k : Option Kind) (s : StmtStart) → stmt_start k ≡ s → is_simple s ≡ false → k ≡ Some (kind_of_start s)
stmt_kind (Some (kind.Mark mark.OpenBrace)) s h n = ap (λ x. Some (kind_of_start x)) h
stmt_kind (Some (kind.Keyword key.If)) s h n = ap (λ x. Some (kind_of_start x)) h
stmt_kind (Some (kind.Keyword key.While)) s h n = ap (λ x. Some (kind_of_start x)) h
stmt_kind (Some (kind.Keyword key.For)) s h n = ap (λ x. Some (kind_of_start x)) h
stmt_kind (Some (kind.Keyword key.Try)) s h n = ap (λ x. Some (kind_of_start x)) h
stmt_kind (Some (kind.Keyword key.Throw)) s h n = ap (λ x. Some (kind_of_start x)) h
stmt_kind (Some (kind.Keyword key.Return)) s h n = ap (λ x. Some (kind_of_start x)) h
stmt_kind (Some (kind.Keyword key.Break)) s h n = ap (λ x. Some (kind_of_start x)) h
stmt_kind (Some (kind.Keyword key.Continue)) s h n = ap (λ x. Some (kind_of_start x)) h
stmt_kind k s h n = absurd (false≢true (sym n ∙ ap is_simple (sym h)))

-- no statement is read where too many phrases would hold it
abbrev DeepKind : Kind → Type 0
DeepKind k = ((can_stmt (Some k) ≡ true) × (stmt_stop_at (Some k) ≡ TooNested)) ⊎ ((can_stmt (Some k) ≡ false) × (stmt_stop_at (Some k) ≡ Unexpected))

deep_kind : (k : Kind) → DeepKind k
deep_kind kind.Word = inl (refl, refl)
deep_kind kind.Number = inl (refl, refl)
deep_kind kind.Text = inl (refl, refl)
deep_kind (kind.Mark mark.Minus) = inl (refl, refl)
deep_kind (kind.Mark mark.Not) = inl (refl, refl)
deep_kind (kind.Mark mark.OpenParen) = inl (refl, refl)
deep_kind (kind.Mark mark.OpenBracket) = inl (refl, refl)
deep_kind (kind.Mark mark.OpenBrace) = inl (refl, refl)
deep_kind (kind.Mark m) = inr (refl, refl)
deep_kind (kind.Keyword key.Await) = inl (refl, refl)
deep_kind (kind.Keyword key.True) = inl (refl, refl)
deep_kind (kind.Keyword key.False) = inl (refl, refl)
deep_kind (kind.Keyword key.Null) = inl (refl, refl)
deep_kind (kind.Keyword key.Undefined) = inl (refl, refl)
deep_kind (kind.Keyword key.This) = inl (refl, refl)
deep_kind (kind.Keyword key.New) = inl (refl, refl)
deep_kind (kind.Keyword key.If) = inl (refl, refl)
deep_kind (kind.Keyword key.While) = inl (refl, refl)
deep_kind (kind.Keyword key.For) = inl (refl, refl)
deep_kind (kind.Keyword key.Try) = inl (refl, refl)
deep_kind (kind.Keyword key.Throw) = inl (refl, refl)
deep_kind (kind.Keyword key.Return) = inl (refl, refl)
deep_kind (kind.Keyword key.Break) = inl (refl, refl)
deep_kind (kind.Keyword key.Continue) = inl (refl, refl)
deep_kind (kind.Keyword k) = inr (refl, refl)

stmt_deep_at : (d : ℕ) → most_inside < d → (t : Token) (now : List Token) → DeepKind t.kind → Parses (IsStmt d) Anything (t ∷ now) (t ∷ now) (Err (stmt_stop_at (Some t.kind)))
stmt_deep_at d m t now (inl c) =
    let b = stmt_begins d t.kind t.text.now t.at {Ends = Anything} c.0 in
    subst (λ s. Parses (IsStmt d) Anything (t ∷ now) (t ∷ now) (Err s)) (sym c.1)
    (deep_here t now (lexeme t.kind t.text.now t.at b.inside) (record { kind = refl; text = refl; at = refl }) (omega (arith, m, b.enough)) b.begun (λ ts us s i. deep_first d ts m (stmt_held i)))
stmt_deep_at d m t now (inr c) =
    subst (λ s. Parses (IsStmt d) Anything (t ∷ now) (t ∷ now) (Err s)) (sym c.1)
    (wrong_here (stmt_stands d {Ends = Anything}).begun (λ ts us s b i e. false≢true (sym c.0 ∙ ap can_stmt (sym (first_is_next (t ∷ now) ts b)) ∙ stmt_first i)))

pub stmt_deep : (d : ℕ) → most_inside < d → (now : List Token) → Parses (IsStmt d) Anything now now (Err (stmt_stop_at (kind_next now)))
stmt_deep d m [] = wrong_here (stmt_stands d {Ends = Anything}).begun (λ ts us s b i e. false≢true (ap can_stmt (sym (first_is_next [] ts b)) ∙ stmt_first i))
stmt_deep d m (t ∷ now) = stmt_deep_at d m t now (deep_kind t.kind)
