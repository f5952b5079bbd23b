-- What stands behind the parts of each statement.
use Rattle.std.proofs.Common.{◌≡◌, ◌≢◌, ℕ, zero, suc, ◌+◌, Bool, true, false, List, [], ◌∷◌, ◌++◌, ◌⊎◌, inl, inr, Option, Some, None, Result, Ok, Err, refl, sym, ◌∙◌, ap, subst, codes}
use Rattle.std.proofs.lemmas.Bool.{false≢true}
use Rattle.std.proofs.lemmas.Option.{none-some}
use Rattle.do_lex.specs.declared.kind.Kind.{Kind}
use Rattle.do_lex.specs.declared.kind.Kind.TheVariants as kind
use Rattle.do_lex.specs.declared.kind.Keyword.{Keyword}
use Rattle.do_lex.specs.declared.kind.Keyword.TheVariants as key
use Rattle.do_lex.specs.declared.kind.Mark.{Mark}
use Rattle.do_lex.specs.declared.kind.Mark.TheVariants as mark
use Rattle.do_lex.specs.declared.tokens.Token.{Token}
use Rattle.do_tree.specs.Grammar as g
use Rattle.do_tree.specs.Grammar.{TakesMark, TakesKey, TakesWord, IsExpr, IsOptionExpr, IsStmt, IsElse, IsSimple, IsCaught, BeginsWithNo, binding_key}
use Rattle.do_tree.specs.Lexeme.{Lexeme, place}
use Rattle.do_tree.specs.Tree as tree
use Rattle.do_tree.specs.declared.stmt.Binding.{Binding}
use Rattle.do_tree.specs.declared.stmt.Binding.TheVariants as bind
use Rattle.do_parse.specs.Follow.{behind_expr, behind_simple, behind_option}
use Rattle.do_parse.specs.Lists.{BeginsWith, Repeat, IsItem}
use Rattle.do_parse.specs.Parsed.{BeginAlike, Phrase, Follow, Anything, ends_by, CanBegin, IsWrongNext, ElseIsNext, Parses}
use Rattle.do_parse.specs.Pieces.{InParens, IsExprThen, IsBlockAt, IsInitial, IsMarkExpr, IsForHead, IsForRest, IsForOfRest, Bound, initial}
use Rattle.do_parse.specs.Starts.{kind_next}
use Rattle.do_parse.specs.Taken.{IsName, IsBinding}
use Rattle.do_parse.specs.Then.{Then, At}
use Rattle.do_parse.specs.Deep.{stop_of}
use Rattle.do_parse.specs.declared.starts.StmtStart.{StmtStart}
use Rattle.do_parse.specs.declared.starts.StmtStart.TheVariants as start
use Rattle.do_parse.specs.declared.stop.Stop.{Stop}
use Rattle.do_parse.specs.declared.stop.Stop.TheVariants.{TooNested}
use Rattle.do_parse.proofs.Deep.{mark_token, mark_takes, null_token, null_expr, block_is, block_stmt_is, lexeme, lexeme_takes, word_takes}
use Rattle.do_parse.proofs.Facts.{BeginsBy, anything_begins, mark_begins, mark_stands, key_stands, last, before, stands_then, takes_begins}
use Rattle.do_parse.proofs.FactsExpr.{expr_stands}
use Rattle.do_parse.proofs.First.{takes_with}
use Rattle.do_parse.proofs.ForRules.{IsForTail, listed, one_kind}
use Rattle.do_parse.proofs.Lists.{not_behind, begins_with, behind_repeat, NotBehind}
use Rattle.do_parse.proofs.Sequence.{Same, Stands, Behind, read_as}
use Rattle.do_parse.proofs.SimpleRules.{simple_stands}
use Rattle.do_parse.proofs.Standing.{stands_as, mark_with, mark_no_else, list_stands, block_at_stands, stmt_stands, expr_then_stands, in_parens_stands, name_stands, word_stands}
use Rattle.do_parse.proofs.Statements.{at_is, stmt_up, expr_up, expr_down, stmt_down}
use Rattle.do_parse.proofs.Tokens.{is_else, else_or_not, agree_start}

-- a mark or a keyword at the end
pub mark_last : (m : Mark) (d : ℕ) → Behind Anything (At (TakesMark m d)) Anything
mark_last m d = last anything_begins (mark_stands m d)

pub mark_closes : (m : Mark) (d : ℕ) → Behind (BeginsWith (kind.Mark m)) (At (TakesMark m d)) Anything
mark_closes m d = last mark_with (mark_stands m d)

pub stmt_last : (d : ℕ) → Behind Anything (IsStmt (d + 1)) Anything
stmt_last d = last anything_begins (stmt_stands (d + 1))

-- { ITEMS }
pub items_behind : (d : ℕ) → Behind Anything (Then (Repeat (IsItem d)) (At (TakesMark mark.CloseBrace d))) Anything
items_behind d = before anything_begins (list_stands (IsItem d) mark.CloseBrace) (mark_closes mark.CloseBrace d)

pub item_behind : (d : ℕ) → Behind Anything (Repeat (IsItem d)) (BeginsWith (kind.Mark mark.CloseBrace))
item_behind d = behind_repeat anything_begins (λ us e. tt) (mark_no_else mark.CloseBrace)

-- if
abbrev pub else_can : (d : ℕ) → CanBegin (IsElse d) Anything []
else_can d = record {
  rest = lexeme (kind.Keyword key.Else) [] 0 d ∷ mark_token mark.OpenBrace (d + 1) ∷ mark_token mark.CloseBrace (d + 1) ∷ [];
  tree = tree.some_stmt (tree.block 0 tree.no_items);
  is = λ us e. g.else_other (lexeme_takes (kind.Keyword key.Else) [] 0 d (mark_token mark.OpenBrace (d + 1) ∷ mark_token mark.CloseBrace (d + 1) ∷ us)) (stmt_down (block_stmt_is (d + 1) us));
}

then_stands : (d : ℕ) → Stands (Then (IsStmt (d + 1)) (IsElse d)) Anything
then_stands d = record {
  begun = record {
    rest = mark_token mark.OpenBrace (d + 1) ∷ mark_token mark.CloseBrace (d + 1) ∷ (else_can d).rest;
    tree = (tree.block 0 tree.no_items, tree.some_stmt (tree.block 0 tree.no_items));
    is = is;
  };
  no_else = λ us e h. false≢true (ap is_else h);
}
  where
    is : (us : List Lexeme) → Anything us → Then (IsStmt (d + 1)) (IsElse d) ([] ++ (mark_token mark.OpenBrace (d + 1) ∷ mark_token mark.CloseBrace (d + 1) ∷ (else_can d).rest) ++ us) us (tree.block 0 tree.no_items, tree.some_stmt (tree.block 0 tree.no_items))
    is us e = record { between = (else_can d).rest ++ us; first = block_stmt_is (d + 1) ((else_can d).rest ++ us); second = (else_can d).is us e }

pub then_behind : (d : ℕ) → Behind Anything (Then (IsStmt (d + 1)) (IsElse d)) Anything
then_behind d = last anything_begins (then_stands d)

pub test_behind : (d : ℕ) → Behind Anything (Then (InParens d) (Then (IsStmt (d + 1)) (IsElse d))) Anything
test_behind d = before anything_begins (in_parens_stands d {Ends = Anything}) (then_behind d)

-- a wrong token in place of an else is one
pub wrong_else : (d : ℕ) (mid : List Token) → IsWrongNext (IsElse d) Anything mid mid → ElseIsNext mid
wrong_else d [] w = absurd (w.none [] [] tree.no_stmt (agree_start tt) (g.else_none tt) tt)
wrong_else d (t ∷ mid) w = elim (else_or_not t.kind) [
  | inl h ↦ h
  | inr h ↦ absurd (w.none ls ls tree.no_stmt (agree_start (record { kind = refl; text = refl; at = refl })) (g.else_none h) tt)
]
  where
    ls : List Lexeme
    ls = lexeme t.kind t.text.now t.at 0 ∷ []

-- while
pub while_behind : (d : ℕ) → Behind Anything (Then (InParens d) (IsStmt (d + 1))) Anything
while_behind d = before anything_begins (in_parens_stands d {Ends = Anything}) (stmt_last d)

-- try
caught_stands : (d : ℕ) → Stands (IsCaught d) (BeginsWith (kind.Mark mark.OpenBrace))
caught_stands d = record { begun = record { rest = []; tree = None; is = λ us e. g.caught_none }; no_else = mark_no_else mark.OpenBrace }

block_with : (d : ℕ) (ts us : List Lexeme) (is : tree.Items) → g.IsBlock d ts us is → BeginsWith (kind.Mark mark.OpenBrace) ts
block_with d ts us is (g.in_block t i c) = takes_with t

block_begins : (d : ℕ) → BeginsBy (IsBlockAt d) (BeginsWith (kind.Mark mark.OpenBrace))
block_begins d = record { may = λ ts us b t. block_with d ts us b.items t.block_is }

pub handler_behind : (d : ℕ) → Behind (BeginsWith (kind.Mark mark.OpenBrace)) (IsBlockAt d) Anything
handler_behind d = last (block_begins d) (block_at_stands d)

pub caught_behind : (d : ℕ) → Behind Anything (Then (IsCaught d) (IsBlockAt d)) Anything
caught_behind d = before anything_begins (caught_stands d) (handler_behind d)

pub catch_behind : (d : ℕ) → Behind Anything (Then (At (TakesKey key.Catch d)) (Then (IsCaught d) (IsBlockAt d))) Anything
catch_behind d = before anything_begins (key_stands key.Catch d {Ends = Anything} refl) (caught_behind d)

pub body_behind : (d : ℕ) → Behind Anything (Then (IsBlockAt d) (Then (At (TakesKey key.Catch d)) (Then (IsCaught d) (IsBlockAt d)))) Anything
body_behind d = before anything_begins (block_at_stands d {Ends = Anything}) (catch_behind d)

pub paren_last : (d : ℕ) → Behind Anything (At (TakesMark mark.CloseParen d)) (BeginsWith (kind.Mark mark.OpenBrace))
paren_last d = last anything_begins (mark_stands mark.CloseParen d)

pub caught_name_behind : (d : ℕ) → Behind Anything (Then (IsName d) (At (TakesMark mark.CloseParen d))) (BeginsWith (kind.Mark mark.OpenBrace))
caught_name_behind d = before anything_begins (name_stands d {Ends = Anything}) (paren_last d)

-- throw, return
pub thrown_behind : (d : ℕ) → Behind Anything (IsExprThen mark.Semicolon d) Anything
thrown_behind d = last anything_begins (expr_then_stands mark.Semicolon d refl)

option_no_else : (us : List Lexeme) → ends_by behind_option us → BeginsWithNo (kind.Keyword key.Else) us
option_no_else [] e = tt
option_no_else (t ∷ us) e = λ h. false≢true (ap behind_option (sym h) ∙ e)

pub option_stands : (d : ℕ) → Stands (IsOptionExpr d) (ends_by behind_option)
option_stands d = record { begun = record { rest = []; tree = tree.no_expr; is = λ us e. g.option_expr_none }; no_else = option_no_else }

pub returned_last : (d : ℕ) → Behind (ends_by behind_option) (At (TakesMark mark.Semicolon d)) Anything
returned_last d = last (mark_begins behind_option refl) (mark_stands mark.Semicolon d)

pub returned_behind : (d : ℕ) → Behind Anything (Then (IsOptionExpr d) (At (TakesMark mark.Semicolon d))) Anything
returned_behind d = before anything_begins (option_stands d) (returned_last d)

-- simple
pub simple_last : (d : ℕ) → Behind (ends_by behind_simple) (At (TakesMark mark.Semicolon d)) Anything
simple_last d = last (mark_begins behind_simple refl) (mark_stands mark.Semicolon d)

pub written_behind : (d : ℕ) → Behind Anything (IsExpr (d + 1)) (ends_by behind_simple)
written_behind d = last anything_begins (expr_stands (d + 1))

-- ( EXPR )
pub in_parens_behind : (d : ℕ) → Behind Anything (IsExprThen mark.CloseParen d) Anything
in_parens_behind d = last anything_begins (expr_then_stands mark.CloseParen d refl)

-- declarations
initial_stands : (b : Binding) (d : ℕ) → Stands (IsInitial b d) (BeginsWith (kind.Mark mark.Semicolon))
initial_stands b d = record {
  begun = record { rest = mark_token mark.Assign d ∷ null_token (suc (d + 1)) ∷ []; tree = tree.some_expr (tree.null 0); is = λ us e. initial (mark_takes mark.Assign d (null_token (suc (d + 1)) ∷ us)) (null_expr (d + 1) us) };
  no_else = λ us e h. false≢true (ap is_else h);
}

pub initial_behind : (b : Binding) (d : ℕ) → Behind Anything (Then (IsInitial b d) (At (TakesMark mark.Semicolon d))) Anything
initial_behind b d = before anything_begins (initial_stands b d) (mark_closes mark.Semicolon d)

pub declared_behind : (b : Binding) (d : ℕ) → Behind Anything (Then (IsName d) (Then (IsInitial b d) (At (TakesMark mark.Semicolon d)))) Anything
declared_behind b d = before anything_begins (name_stands d {Ends = Anything}) (initial_behind b d)

pub given_behind : (d : ℕ) → Behind Anything (IsExpr (d + 1)) (BeginsWith (kind.Mark mark.Semicolon))
given_behind d = last anything_begins (expr_stands (d + 1))

pub semicolon_to_expr : (us : List Lexeme) → BeginsWith (kind.Mark mark.Semicolon) us → ends_by behind_expr us
semicolon_to_expr [] e = tt
semicolon_to_expr (t ∷ us) e = ap behind_expr e

-- for
tail_stands : (d : ℕ) (b : Bound) → Stands (IsForTail d b) Anything
tail_stands d b = stands_as (λ t. tree.for_of b.at b.binding b.name t.1.0 t.1.1)
    (λ ts us t x. listed (record { vs = x.between; ws = x.second.between; listed = t.1.0; body = t.1.1; of_is = x.first.takes; list_is = x.second.first; body_is = x.second.second; tree_is = refl }))
    (stands_then (word_stands (codes "of") d {Ends = Anything}) (before anything_begins (expr_then_stands mark.CloseParen d refl {Ends = Anything}) (stmt_last d)))

pub tail_behind : (d : ℕ) (b : Bound) → Behind Anything (IsForTail d b) Anything
tail_behind d b = last anything_begins (tail_stands d b)

-- for ( let NAME
abbrev pub Head : ℕ → Phrase (ℕ × (ℕ × (Binding × tree.Named)))
Head d = Then (At (TakesKey key.For d)) (Then (At (TakesMark mark.OpenParen d)) (Then (IsBinding d) (IsName d)))

pub head_same : (d : ℕ) (now : List Token) → Same (IsForHead d) (Head d) (λ b. record { at = b.0; binding = b.1.1.0; name = b.1.1.1 }) Anything now
head_same d now = record {
  to = λ ts us b t. record { vs = t.between; ws = t.second.between; xs = t.second.second.between; at_is = t.first.at_is; for_is = t.first.takes; open_paren = t.second.first.takes; binding_is = t.second.second.first; name_is = t.second.second.second };
  from = λ ts us b i t e. (
    (b.at, (place t.vs, (b.binding, b.name))),
    refl,
    record { between = t.vs; first = at_is t.at_is t.for_is; second = record { between = t.ws; first = at_is refl t.open_paren; second = record { between = t.xs; first = t.binding_is; second = t.name_is } } },
  );
}

binding_stands : (d : ℕ) → Stands (IsBinding d) Anything
binding_stands d = record {
  begun = record { rest = lexeme (kind.Keyword key.Let) [] 0 d ∷ []; tree = bind.Let; is = λ us e. lexeme_takes (kind.Keyword key.Let) [] 0 d us };
  no_else = λ us e h. false≢true (ap is_else h);
}

pub name_last : (d : ℕ) → Behind Anything (IsName d) Anything
name_last d = last anything_begins (name_stands d)

pub binding_behind : (d : ℕ) → Behind Anything (Then (IsBinding d) (IsName d)) Anything
binding_behind d = before anything_begins (binding_stands d) (name_last d)

pub paren_behind : (d : ℕ) → Behind Anything (Then (At (TakesMark mark.OpenParen d)) (Then (IsBinding d) (IsName d))) Anything
paren_behind d = before anything_begins (mark_stands mark.OpenParen d {Ends = Anything}) (binding_behind d)

-- the word that binds
abbrev is_const_kind : Kind → Bool
is_const_kind (kind.Keyword key.Const) = true
is_const_kind _ = false

const_from : (d : ℕ) (ts us : List Lexeme) (b : Binding) → BeginsWith (kind.Keyword key.Const) ts → IsBinding d ts us b → (at : ℕ) × (b ≡ bind.Const) × At (TakesKey key.Const d) ts us at
const_from d ts us bind.Const h t = (place ts, refl, at_is refl t)
const_from d ts us bind.Let h t = absurd (false≢true (sym (ap is_const_kind (one_kind (kind.Keyword key.Const) (kind.Keyword key.Let) ts h (takes_with t)))))

pub const_same : (d : ℕ) (now : List Token) → kind_next now ≡ Some (kind.Keyword key.Const) → Same (IsBinding d) (At (TakesKey key.Const d)) (λ at. bind.Const) Anything now
const_same d now h = record { to = λ ts us at t. t.takes; from = λ ts us b i t e. const_from d ts us b (begins_with now (kind.Keyword key.Const) ts h i) t }

let_from : (d : ℕ) (ts us : List Lexeme) (b : Binding) → (BeginsWith (kind.Keyword key.Const) ts → ⊥) → IsBinding d ts us b → (at : ℕ) × (b ≡ bind.Let) × At (TakesKey key.Let d) ts us at
let_from d ts us bind.Let h t = (place ts, refl, at_is refl t)
let_from d ts us bind.Const h t = absurd (h (takes_with t))

pub let_same : (d : ℕ) (now : List Token) → ¬ (kind_next now ≡ Some (kind.Keyword key.Const)) → Same (IsBinding d) (At (TakesKey key.Let d)) (λ at. bind.Let) Anything now
let_same d now h = record { to = λ ts us at t. t.takes; from = λ ts us b i t e. let_from d ts us b ((not_behind now (kind.Keyword key.Const) h).refuses ts i) t }

-- = FIRST ; TEST ; STEP ) BODY
abbrev pub Steps : ℕ → Phrase (ℕ × (tree.Expr × (tree.Expr × (tree.Simple × (ℕ × tree.Stmt)))))
Steps d = Then (At (TakesMark mark.Assign d)) (Then (IsExprThen mark.Semicolon d) (Then (IsExprThen mark.Semicolon d) (Then (IsSimple d) (Then (At (TakesMark mark.CloseParen d)) (IsStmt (d + 1))))))

pub rest_same : (d at : ℕ) (n : tree.Named) (now : List Token) → Same (IsForRest d at n) (Steps d) (λ b. tree.for at n b.1.0 b.1.1.0 b.1.1.1.0 b.1.1.1.1.1) Anything now
rest_same d at n now = record {
  to = λ ts us b t. record {
    vs = t.between;
    ws = t.second.between;
    xs = t.second.second.between;
    ys = t.second.second.second.between;
    zs = t.second.second.second.second.between;
    first = b.1.0;
    test = b.1.1.0;
    step = b.1.1.1.0;
    body = b.1.1.1.1.1;
    assign = t.first.takes;
    first_is = t.second.first;
    test_is = t.second.second.first;
    step_is = t.second.second.second.first;
    close_paren = t.second.second.second.second.first.takes;
    body_is = t.second.second.second.second.second;
    tree_is = refl;
  };
  from = λ ts us s i t e. (
    (place ts, (t.first, (t.test, (t.step, (place t.ys, t.body))))),
    t.tree_is,
    record {
      between = t.vs;
      first = at_is refl t.assign;
      second = record {
        between = t.ws;
        first = t.first_is;
        second = record {
          between = t.xs;
          first = t.test_is;
          second = record {
            between = t.ys;
            first = t.step_is;
            second = record { between = t.zs; first = at_is refl t.close_paren; second = t.body_is };
          };
        };
      };
    },
  );
}

pub step_close_behind : (d : ℕ) → Behind (ends_by behind_simple) (Then (At (TakesMark mark.CloseParen d)) (IsStmt (d + 1))) Anything
step_close_behind d = before (mark_begins behind_simple refl) (mark_stands mark.CloseParen d {Ends = Anything}) (stmt_last d)

pub step_behind : (d : ℕ) → Behind Anything (Then (IsSimple d) (Then (At (TakesMark mark.CloseParen d)) (IsStmt (d + 1)))) Anything
step_behind d = before anything_begins (simple_stands d {Ends = ends_by behind_simple}) (step_close_behind d)

pub tested_behind : (d : ℕ) → Behind Anything (Then (IsExprThen mark.Semicolon d) (Then (IsSimple d) (Then (At (TakesMark mark.CloseParen d)) (IsStmt (d + 1))))) Anything
tested_behind d = before anything_begins (expr_then_stands mark.Semicolon d refl {Ends = Anything}) (step_behind d)

pub first_behind : (d : ℕ) → Behind Anything (Then (IsExprThen mark.Semicolon d) (Then (IsExprThen mark.Semicolon d) (Then (IsSimple d) (Then (At (TakesMark mark.CloseParen d)) (IsStmt (d + 1)))))) Anything
first_behind d = before anything_begins (expr_then_stands mark.Semicolon d refl {Ends = Anything}) (tested_behind d)

-- of LIST ) BODY
abbrev pub Listed : ℕ → Phrase (ℕ × (tree.Expr × tree.Stmt))
Listed d = Then (At (TakesWord (codes "of") d)) (Then (IsExprThen mark.CloseParen d) (IsStmt (d + 1)))

pub of_same : (d at : ℕ) (b : Binding) (n : tree.Named) (now : List Token) → Same (IsForOfRest d at b n) (Listed d) (λ t. tree.for_of at b n t.1.0 t.1.1) Anything now
of_same d at b n now = record {
  to = λ ts us t x. record { vs = x.between; ws = x.second.between; listed = t.1.0; body = t.1.1; of_is = x.first.takes; list_is = x.second.first; body_is = x.second.second; tree_is = refl };
  from = λ ts us s i x e. ((place ts, (x.listed, x.body)), x.tree_is, record { between = x.vs; first = at_is refl x.of_is; second = record { between = x.ws; first = x.list_is; second = x.body_is } });
}

pub listed_behind : (d : ℕ) → Behind Anything (Then (IsExprThen mark.CloseParen d) (IsStmt (d + 1))) Anything
listed_behind d = before anything_begins (expr_then_stands mark.CloseParen d refl {Ends = Anything}) (stmt_last d)

-- the word that a loop binds with, told by the next token
pub data BoundBy (now : List Token) : Binding → Type 0 where
  by_const : kind_next now ≡ Some (kind.Keyword key.Const) → BoundBy now bind.Const
  by_let : ¬ (kind_next now ≡ Some (kind.Keyword key.Const)) → BoundBy now bind.Let

pub bound_ok : (d : ℕ) {now new : List Token} {at : ℕ} (b : Binding) → BoundBy now b → Parses (At (TakesKey (binding_key b) d)) Anything now new (Ok at) → Parses (IsBinding d) Anything now new (Ok b)
bound_ok d {now} bind.Const (by_const h) p = read_as (const_same d now h) p
bound_ok d {now} bind.Let (by_let h) p = read_as (let_same d now h) p

pub bound_stop : (d : ℕ) {now new : List Token} {s : Stop} (b : Binding) → BoundBy now b → Parses (At (TakesKey (binding_key b) d)) Anything now new (Err s) → Parses (IsBinding d) Anything now new (Err s)
bound_stop d {now} bind.Const (by_const h) p = read_as (const_same d now h) p
bound_stop d {now} bind.Let (by_let h) p = read_as (let_same d now h) p

pub bound_const : {now : List Token} {b : Binding} → b ≡ bind.Const → kind_next now ≡ Some (kind.Keyword key.Const) → BoundBy now b
bound_const {now} {b} e h = subst (λ x. BoundBy now x) (sym e) (by_const h)

pub bound_let : {now : List Token} {b : Binding} → b ≡ bind.Let → ¬ (kind_next now ≡ Some (kind.Keyword key.Const)) → BoundBy now b
bound_let {now} {b} e h = subst (λ x. BoundBy now x) (sym e) (by_let h)

-- another statement than a simple one is held by too many phrases
pub stop_other : (s : StmtStart) (next : Option Kind) → (s ≡ start.Simple → ⊥) → TooNested ≡ stop_of s next
stop_other start.Simple next h = absurd (h refl)
stop_other _ next h = refl
