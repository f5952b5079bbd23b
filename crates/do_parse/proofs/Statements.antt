-- The rules of statements, as the parser's functions read them.
use Rattle.std.proofs.Common.{◌≡◌, ◌≢◌, ℕ, zero, suc, ◌+◌, Bool, true, false, List, [], ◌∷◌, ◌⊎◌, inl, inr, Option, Some, None, refl, sym, ◌∙◌, ap, subst, add-one, codes}
use Rattle.std.proofs.lemmas.Bool.{false≢true}
use Rattle.std.proofs.lemmas.Option.{none-some}
use Rattle.do_lex.specs.declared.kind.Kind.{Kind}
use Rattle.do_lex.specs.declared.kind.Kind.TheVariants as kind
use Rattle.do_lex.specs.declared.kind.Keyword.{Keyword}
use Rattle.do_lex.specs.declared.kind.Keyword.TheVariants as key
use Rattle.do_lex.specs.declared.kind.Mark.{Mark}
use Rattle.do_lex.specs.declared.kind.Mark.TheVariants as mark
use Rattle.do_lex.specs.declared.tokens.Token.{Token}
use Rattle.do_tree.specs.Grammar as g
use Rattle.do_tree.specs.Grammar.{Takes, TakesMark, TakesKey, TakesName, TakesWord, IsExpr, IsOptionExpr, IsStmt, IsElse, IsSimple, IsBlock, IsCaught, BeginsWithNo, binding_key}
use Rattle.do_tree.specs.Lexeme.{Lexeme, place}
use Rattle.do_tree.specs.Tree as tree
use Rattle.do_tree.specs.declared.stmt.Binding.{Binding}
use Rattle.do_tree.specs.declared.stmt.Binding.TheVariants as bind
use Rattle.do_parse.specs.Lists.{BeginsWith, Starting}
use Rattle.do_parse.specs.Parsed.{BeginAlike, Phrase, Follow, Anything, ends_by, ElseAsNext}
use Rattle.do_parse.specs.Pieces.{Bound, IsForHead, IsForRest, IsForOfRest, InParens, IsExprThen, IsBlockAt, Blocked, IsSimpleStmt}
use Rattle.do_parse.specs.Starts.{stmt_start}
use Rattle.do_parse.specs.Then.{Then, At}
use Rattle.do_parse.specs.declared.starts.StmtStart.{StmtStart}
use Rattle.do_parse.specs.declared.starts.StmtStart.TheVariants as start
use Rattle.do_parse.proofs.Dependent.{Dep}
use Rattle.do_parse.proofs.First.{kind_first, first_with, takes_with, start_of, start_is}
use Rattle.do_parse.proofs.Sequence.{Same}

-- one phrase deeper, as the grammar and as the calls write it
pub expr_up : {d : ℕ} {ts us : List Lexeme} {e : tree.Expr} → IsExpr (suc d) ts us e → IsExpr (d + 1) ts us e
expr_up {d} {ts} {us} {e} p = subst (λ n. IsExpr n ts us e) (sym (add-one d)) p

pub expr_down : {d : ℕ} {ts us : List Lexeme} {e : tree.Expr} → IsExpr (d + 1) ts us e → IsExpr (suc d) ts us e
expr_down {d} {ts} {us} {e} p = subst (λ n. IsExpr n ts us e) (add-one d) p

pub stmt_up : {d : ℕ} {ts us : List Lexeme} {s : tree.Stmt} → IsStmt (suc d) ts us s → IsStmt (d + 1) ts us s
stmt_up {d} {ts} {us} {s} p = subst (λ n. IsStmt n ts us s) (sym (add-one d)) p

pub stmt_down : {d : ℕ} {ts us : List Lexeme} {s : tree.Stmt} → IsStmt (d + 1) ts us s → IsStmt (suc d) ts us s
stmt_down {d} {ts} {us} {s} p = subst (λ n. IsStmt n ts us s) (add-one d) p

-- a key or mark with its place
pub at_is : {Takes' : List Lexeme → List Lexeme → Type 0} {ts us : List Lexeme} {at : ℕ} → at ≡ place ts → Takes' ts us → At Takes' ts us at
at_is p t = record { at_is = p; takes = t }

-- the start of the statement that the tokens are
pub start_with : (k : Kind) (d : ℕ) (ts us : List Lexeme) (s : tree.Stmt) → BeginsWith k ts → IsStmt d ts us s → stmt_start (Some k) ≡ start_of s
start_with k d ts us s b i = ap stmt_start (sym (first_with k ts b)) ∙ start_is i

abbrev is_block : StmtStart → Bool
is_block start.Block = true
is_block _ = false

abbrev is_if : StmtStart → Bool
is_if start.If = true
is_if _ = false

abbrev is_while : StmtStart → Bool
is_while start.While = true
is_while _ = false

abbrev pub is_for : StmtStart → Bool
is_for start.For = true
is_for _ = false

abbrev is_try : StmtStart → Bool
is_try start.Try = true
is_try _ = false

abbrev is_throw : StmtStart → Bool
is_throw start.Throw = true
is_throw _ = false

abbrev is_return : StmtStart → Bool
is_return start.Return = true
is_return _ = false

abbrev is_break : StmtStart → Bool
is_break start.Break = true
is_break _ = false

abbrev is_continue : StmtStart → Bool
is_continue start.Continue = true
is_continue _ = false

abbrev pub is_simple : StmtStart → Bool
is_simple start.Simple = true
is_simple _ = false

-- block
block_from : (d : ℕ) (ts us : List Lexeme) (s : tree.Stmt) → BeginsWith (kind.Mark mark.OpenBrace) ts → IsStmt d ts us s → (b : Blocked) × (s ≡ tree.block b.at b.items) × IsBlockAt d ts us b
block_from d ts us s b (g.block p i) = (record { at = _; items = _ }, refl, record { at_is = p; block_is = i })
block_from d ts us s b i = absurd (false≢true (sym (ap is_block (start_with (kind.Mark mark.OpenBrace) d ts us s b i))))

pub block_same : (d : ℕ) (now : List Token) → Same (Starting (kind.Mark mark.OpenBrace) (IsStmt d)) (IsBlockAt d) (λ b. tree.block b.at b.items) Anything now
block_same d now = record {
  to = λ ts us b t. (block_with t.block_is, g.block t.at_is t.block_is);
  from = λ ts us s b i e. block_from d ts us s i.0 i.1;
}
  where
    block_with : {d' : ℕ} {ts us : List Lexeme} {is : tree.Items} → IsBlock d' ts us is → BeginsWith (kind.Mark mark.OpenBrace) ts
    block_with (g.in_block t i c) = takes_with t

-- if
abbrev pub If : ℕ → Phrase (ℕ × (tree.Expr × (tree.Stmt × tree.OptionStmt)))
If d = Then (At (TakesKey key.If d)) (Then (InParens d) (Then (IsStmt (d + 1)) (IsElse d)))

abbrev pub if_tree : (ℕ × (tree.Expr × (tree.Stmt × tree.OptionStmt))) → tree.Stmt
if_tree b = tree.choose b.0 b.1.0 b.1.1.0 b.1.1.1

if_from : (d : ℕ) (ts us : List Lexeme) (s : tree.Stmt) → BeginsWith (kind.Keyword key.If) ts → IsStmt d ts us s → (b : ℕ × (tree.Expr × (tree.Stmt × tree.OptionStmt))) × (s ≡ if_tree b) × If d ts us b
if_from d ts us s b (g.choose p t o e c i f) =
    ((_, (_, (_, _))), refl, record { between = _; first = at_is p t; second = record { between = _; first = record { vs = _; ws = _; open_paren = o; inside = expr_up e; close_paren = c }; second = record { between = _; first = stmt_up i; second = f } } })
if_from d ts us s b i = absurd (false≢true (sym (ap is_if (start_with (kind.Keyword key.If) d ts us s b i))))

pub if_same : (d : ℕ) (now : List Token) → Same (Starting (kind.Keyword key.If) (IsStmt d)) (If d) if_tree Anything now
if_same d now = record {
  to = λ ts us b t. (
    takes_with t.first.takes,
    g.choose t.first.at_is t.first.takes t.second.first.open_paren (expr_down t.second.first.inside) t.second.first.close_paren (stmt_down t.second.second.first) t.second.second.second,
  );
  from = λ ts us s b i e. if_from d ts us s i.0 i.1;
}

-- while
abbrev pub While : ℕ → Phrase (ℕ × (tree.Expr × tree.Stmt))
While d = Then (At (TakesKey key.While d)) (Then (InParens d) (IsStmt (d + 1)))

abbrev pub while_tree : (ℕ × (tree.Expr × tree.Stmt)) → tree.Stmt
while_tree b = tree.while b.0 b.1.0 b.1.1

while_from : (d : ℕ) (ts us : List Lexeme) (s : tree.Stmt) → BeginsWith (kind.Keyword key.While) ts → IsStmt d ts us s → (b : ℕ × (tree.Expr × tree.Stmt)) × (s ≡ while_tree b) × While d ts us b
while_from d ts us s b (g.while p t o e c i) =
    ((_, (_, _)), refl, record { between = _; first = at_is p t; second = record { between = _; first = record { vs = _; ws = _; open_paren = o; inside = expr_up e; close_paren = c }; second = stmt_up i } })
while_from d ts us s b i = absurd (false≢true (sym (ap is_while (start_with (kind.Keyword key.While) d ts us s b i))))

pub while_same : (d : ℕ) (now : List Token) → Same (Starting (kind.Keyword key.While) (IsStmt d)) (While d) while_tree Anything now
while_same d now = record {
  to = λ ts us b t. (
    takes_with t.first.takes,
    g.while t.first.at_is t.first.takes t.second.first.open_paren (expr_down t.second.first.inside) t.second.first.close_paren (stmt_down t.second.second),
  );
  from = λ ts us s b i e. while_from d ts us s i.0 i.1;
}

-- try
abbrev pub Try : ℕ → Phrase (ℕ × (Blocked × (ℕ × (Option tree.Named × Blocked))))
Try d = Then (At (TakesKey key.Try d)) (Then (IsBlockAt d) (Then (At (TakesKey key.Catch d)) (Then (IsCaught d) (IsBlockAt d))))

abbrev pub try_tree : (ℕ × (Blocked × (ℕ × (Option tree.Named × Blocked)))) → tree.Stmt
try_tree b = tree.try b.0 b.1.0.items b.1.1.1.0 b.1.1.1.1.items

try_from : (d : ℕ) (ts us : List Lexeme) (s : tree.Stmt) → BeginsWith (kind.Keyword key.Try) ts → IsStmt d ts us s → (b : ℕ × (Blocked × (ℕ × (Option tree.Named × Blocked)))) × (s ≡ try_tree b) × Try d ts us b
try_from d ts us s b (g.try {us = us'} {vs = vs'} {xs = xs'} {body = body'} {handler = handler'} {n = n'} p t i c n h) = (
  (_, (record { at = place us'; items = body' }, (place vs', (n', record { at = place xs'; items = handler' })))),
  refl,
  record { between = _; first = at_is p t; second = record { between = _; first = record { at_is = refl; block_is = i }; second = record { between = _; first = at_is refl c; second = record { between = _; first = n; second = record { at_is = refl; block_is = h } } } } },
)
try_from d ts us s b i = absurd (false≢true (sym (ap is_try (start_with (kind.Keyword key.Try) d ts us s b i))))

pub try_same : (d : ℕ) (now : List Token) → Same (Starting (kind.Keyword key.Try) (IsStmt d)) (Try d) try_tree Anything now
try_same d now = record {
  to = λ ts us b t. (
    takes_with t.first.takes,
    g.try t.first.at_is t.first.takes t.second.first.block_is t.second.second.first.takes t.second.second.second.first t.second.second.second.second.block_is,
  );
  from = λ ts us s b i e. try_from d ts us s i.0 i.1;
}

-- throw
abbrev pub Throw : ℕ → Phrase (ℕ × tree.Expr)
Throw d = Then (At (TakesKey key.Throw d)) (IsExprThen mark.Semicolon d)

abbrev pub throw_tree : (ℕ × tree.Expr) → tree.Stmt
throw_tree b = tree.throw b.0 b.1

throw_from : (d : ℕ) (ts us : List Lexeme) (s : tree.Stmt) → BeginsWith (kind.Keyword key.Throw) ts → IsStmt d ts us s → (b : ℕ × tree.Expr) × (s ≡ throw_tree b) × Throw d ts us b
throw_from d ts us s b (g.throw p t e m) = ((_, _), refl, record { between = _; first = at_is p t; second = record { vs = _; expr = expr_up e; mark_is = m } })
throw_from d ts us s b i = absurd (false≢true (sym (ap is_throw (start_with (kind.Keyword key.Throw) d ts us s b i))))

pub throw_same : (d : ℕ) (now : List Token) → Same (Starting (kind.Keyword key.Throw) (IsStmt d)) (Throw d) throw_tree Anything now
throw_same d now = record {
  to = λ ts us b t. (takes_with t.first.takes, g.throw t.first.at_is t.first.takes (expr_down t.second.expr) t.second.mark_is);
  from = λ ts us s b i e. throw_from d ts us s i.0 i.1;
}

-- return
abbrev pub Return : ℕ → Phrase (ℕ × (tree.OptionExpr × ℕ))
Return d = Then (At (TakesKey key.Return d)) (Then (IsOptionExpr d) (At (TakesMark mark.Semicolon d)))

abbrev pub return_tree : (ℕ × (tree.OptionExpr × ℕ)) → tree.Stmt
return_tree b = tree.return b.0 b.1.0

return_from : (d : ℕ) (ts us : List Lexeme) (s : tree.Stmt) → BeginsWith (kind.Keyword key.Return) ts → IsStmt d ts us s → (b : ℕ × (tree.OptionExpr × ℕ)) × (s ≡ return_tree b) × Return d ts us b
return_from d ts us s b (g.return {vs = vs'} p t e m) = ((_, (_, place vs')), refl, record { between = _; first = at_is p t; second = record { between = _; first = e; second = at_is refl m } })
return_from d ts us s b i = absurd (false≢true (sym (ap is_return (start_with (kind.Keyword key.Return) d ts us s b i))))

pub return_same : (d : ℕ) (now : List Token) → Same (Starting (kind.Keyword key.Return) (IsStmt d)) (Return d) return_tree Anything now
return_same d now = record {
  to = λ ts us b t. (takes_with t.first.takes, g.return t.first.at_is t.first.takes t.second.first t.second.second.takes);
  from = λ ts us s b i e. return_from d ts us s i.0 i.1;
}

-- break, continue
abbrev pub Alone : Keyword → ℕ → Phrase (ℕ × ℕ)
Alone k d = Then (At (TakesKey k d)) (At (TakesMark mark.Semicolon d))

break_from : (d : ℕ) (ts us : List Lexeme) (s : tree.Stmt) → BeginsWith (kind.Keyword key.Break) ts → IsStmt d ts us s → (b : ℕ × ℕ) × (s ≡ tree.break b.0) × Alone key.Break d ts us b
break_from d ts us s b (g.break {us = us'} p t m) = ((_, place us'), refl, record { between = _; first = at_is p t; second = at_is refl m })
break_from d ts us s b i = absurd (false≢true (sym (ap is_break (start_with (kind.Keyword key.Break) d ts us s b i))))

pub break_same : (d : ℕ) (now : List Token) → Same (Starting (kind.Keyword key.Break) (IsStmt d)) (Alone key.Break d) (λ b. tree.break b.0) Anything now
break_same d now = record {
  to = λ ts us b t. (takes_with t.first.takes, g.break t.first.at_is t.first.takes t.second.takes);
  from = λ ts us s b i e. break_from d ts us s i.0 i.1;
}

continue_from : (d : ℕ) (ts us : List Lexeme) (s : tree.Stmt) → BeginsWith (kind.Keyword key.Continue) ts → IsStmt d ts us s → (b : ℕ × ℕ) × (s ≡ tree.continue b.0) × Alone key.Continue d ts us b
continue_from d ts us s b (g.continue {us = us'} p t m) = ((_, place us'), refl, record { between = _; first = at_is p t; second = at_is refl m })
continue_from d ts us s b i = absurd (false≢true (sym (ap is_continue (start_with (kind.Keyword key.Continue) d ts us s b i))))

pub continue_same : (d : ℕ) (now : List Token) → Same (Starting (kind.Keyword key.Continue) (IsStmt d)) (Alone key.Continue d) (λ b. tree.continue b.0) Anything now
continue_same d now = record {
  to = λ ts us b t. (takes_with t.first.takes, g.continue t.first.at_is t.first.takes t.second.takes);
  from = λ ts us s b i e. continue_from d ts us s i.0 i.1;
}
