-- With each kind that may begin a phrase some phrase begins.
use Rattle.std.proofs.Common.{◌≡◌, ◌≢◌, arith, ℕ, zero, suc, pos, ◌+◌, ◌≤◌, Bool, true, false, List, [], ◌∷◌, ◌++◌, Option, Some, None, refl, sym, ◌∙◌, ap, subst, append_assoc, codes}
use Rattle.std.proofs.lemmas.Bool.{false≢true}
use Rattle.do_value.specs.declared.operator.UnOp.TheVariants as unary
use Rattle.do_lex.specs.declared.kind.Kind.{Kind}
use Rattle.do_lex.specs.declared.kind.Kind.TheVariants as kind
use Rattle.do_lex.specs.declared.kind.Keyword.{Keyword}
use Rattle.do_lex.specs.declared.kind.Keyword.TheVariants as key
use Rattle.do_lex.specs.declared.kind.Mark.{Mark}
use Rattle.do_lex.specs.declared.kind.Mark.TheVariants as mark
use Rattle.do_tree.specs.declared.stmt.Binding.TheVariants as bind
use Rattle.do_tree.specs.Grammar as g
use Rattle.do_tree.specs.Grammar.{Takes, TakesMark, TakesKey, TakesWord, IsExpr, IsUn, IsPost, IsPrim, IsStmt}
use Rattle.do_tree.specs.Lexeme.{Lexeme, place, text_of, number_of}
use Rattle.do_tree.specs.Tree as tree
use Rattle.do_parse.specs.Parsed.{Phrase, Follow, Anything, CanBegin}
use Rattle.do_parse.specs.Starts.{begins_expr}
use Rattle.do_parse.proofs.First.{can_stmt}
use Rattle.do_parse.proofs.FactsExpr.{un_expr}

-- a token of this kind, at a place
abbrev pub lexeme : Kind → List ℕ → ℕ → ℕ → Lexeme
lexeme k text at d = record { kind = k; text = text; at = at; inside = d }

abbrev pub lexeme_takes : (k : Kind) (text : List ℕ) (at d : ℕ) (us : List Lexeme) → Takes k d (lexeme k text at d ∷ us) us
lexeme_takes k text at d us = record { token = lexeme k text at d; first = refl; kind_is = refl; inside_is = refl }

-- a word that is given
abbrev pub word_takes : (word : List ℕ) (d : ℕ) (us : List Lexeme) → TakesWord word d (lexeme kind.Word word 0 d ∷ us) us
word_takes word d us = record { takes = lexeme_takes kind.Word word 0 d us; text_is = refl }

prim_un : {d : ℕ} {ts us : List Lexeme} {e : tree.Expr} → IsPrim d ts us e → IsUn d ts us e
prim_un p = g.post (g.prim p)

-- null
abbrev pub null_token : ℕ → Lexeme
null_token d = lexeme (kind.Keyword key.Null) [] 0 d

null_un : (d : ℕ) (us : List Lexeme) → IsUn d (null_token d ∷ us) us (tree.null 0)
null_un d us = prim_un (g.null refl (lexeme_takes (kind.Keyword key.Null) [] 0 d us))

pub null_expr : (d : ℕ) (us : List Lexeme) → IsExpr d (null_token (suc d) ∷ us) us (tree.null 0)
null_expr d us = un_expr (null_un (suc d) us)

-- the marks that close
abbrev pub mark_token : Mark → ℕ → Lexeme
mark_token m d = lexeme (kind.Mark m) [] 0 d

abbrev pub mark_takes : (m : Mark) (d : ℕ) (us : List Lexeme) → TakesMark m d (mark_token m d ∷ us) us
mark_takes m d us = lexeme_takes (kind.Mark m) [] 0 d us

-- with each kind that begins an expression one begins
pub un_begins : (d : ℕ) (k : Kind) (text : List ℕ) (at : ℕ) {Ends : Follow} → begins_expr (Some k) ≡ true → CanBegin (IsUn d) Ends (lexeme k text at d ∷ [])
un_begins d kind.Word text at b = record {
  rest = [];
  tree = tree.variable (record { at = at; text = text });
  is = λ us e. prim_un (g.variable (record { takes = lexeme_takes kind.Word text at d us; at_is = refl; text_is = refl }));
}
un_begins d kind.Number text at b = record {
  rest = [];
  tree = tree.number at (pos (number_of (lexeme kind.Number text at d)));
  is = λ us e. prim_un (g.number refl (lexeme_takes kind.Number text at d us) refl);
}
un_begins d kind.Text text at b = record {
  rest = [];
  tree = tree.text at (text_of (lexeme kind.Text text at d));
  is = λ us e. prim_un (g.text (record { takes = lexeme_takes kind.Text text at d us; at_is = refl; bytes_is = refl }));
}
un_begins d (kind.Mark mark.Minus) text at b = record {
  rest = null_token (suc d) ∷ [];
  tree = tree.unary at unary.Neg (tree.null 0);
  is = λ us e. g.negative refl (lexeme_takes (kind.Mark mark.Minus) text at d (null_token (suc d) ∷ us)) (null_un (suc d) us);
}
un_begins d (kind.Mark mark.Not) text at b = record {
  rest = null_token (suc d) ∷ [];
  tree = tree.unary at unary.Not (tree.null 0);
  is = λ us e. g.opposite refl (lexeme_takes (kind.Mark mark.Not) text at d (null_token (suc d) ∷ us)) (null_un (suc d) us);
}
un_begins d (kind.Mark mark.OpenParen) text at b = record {
  rest = null_token (suc (suc d)) ∷ mark_token mark.CloseParen d ∷ [];
  tree = tree.group at (tree.null 0);
  is = λ us e.
      prim_un (g.group refl (lexeme_takes (kind.Mark mark.OpenParen) text at d (null_token (suc (suc d)) ∷ mark_token mark.CloseParen d ∷ us))
      (null_expr (suc d) (mark_token mark.CloseParen d ∷ us)) (mark_takes mark.CloseParen d us));
}
un_begins d (kind.Mark mark.OpenBracket) text at b = record {
  rest = mark_token mark.CloseBracket d ∷ [];
  tree = tree.list at tree.no_exprs;
  is = λ us e. prim_un (g.list refl (lexeme_takes (kind.Mark mark.OpenBracket) text at d (mark_token mark.CloseBracket d ∷ us)) g.exprs_none (mark_takes mark.CloseBracket d us));
}
un_begins d (kind.Mark mark.OpenBrace) text at b = record {
  rest = mark_token mark.CloseBrace d ∷ [];
  tree = tree.rec at tree.no_pairs;
  is = λ us e. prim_un (g.rec refl (lexeme_takes (kind.Mark mark.OpenBrace) text at d (mark_token mark.CloseBrace d ∷ us)) g.pairs_none (mark_takes mark.CloseBrace d us));
}
un_begins d (kind.Mark m) text at b = absurd (false≢true b)
un_begins d (kind.Keyword key.Await) text at b = record {
  rest = null_token (suc d) ∷ [];
  tree = tree.await at (tree.null 0);
  is = λ us e. g.await refl (lexeme_takes (kind.Keyword key.Await) text at d (null_token (suc d) ∷ us)) (null_un (suc d) us);
}
un_begins d (kind.Keyword key.True) text at b = record { rest = []; tree = tree.boolean at true; is = λ us e. prim_un (g.yes refl (lexeme_takes (kind.Keyword key.True) text at d us)) }
un_begins d (kind.Keyword key.False) text at b = record { rest = []; tree = tree.boolean at false; is = λ us e. prim_un (g.no refl (lexeme_takes (kind.Keyword key.False) text at d us)) }
un_begins d (kind.Keyword key.Null) text at b = record { rest = []; tree = tree.null at; is = λ us e. prim_un (g.null refl (lexeme_takes (kind.Keyword key.Null) text at d us)) }
un_begins d (kind.Keyword key.Undefined) text at b = record { rest = []; tree = tree.undefined at; is = λ us e. prim_un (g.undefined refl (lexeme_takes (kind.Keyword key.Undefined) text at d us)) }
un_begins d (kind.Keyword key.This) text at b = record { rest = []; tree = tree.this at; is = λ us e. prim_un (g.this refl (lexeme_takes (kind.Keyword key.This) text at d us)) }
un_begins d (kind.Keyword key.New) text at b = record {
  rest = lexeme kind.Word (codes "Error") 0 d ∷ mark_token mark.OpenParen d ∷ mark_token mark.CloseParen d ∷ [];
  tree = tree.new_error at tree.no_expr;
  is = λ us e.
      prim_un (g.new_error refl (lexeme_takes (kind.Keyword key.New) text at d (lexeme kind.Word (codes "Error") 0 d ∷ mark_token mark.OpenParen d ∷ mark_token mark.CloseParen d ∷ us))
      (word_takes (codes "Error") d (mark_token mark.OpenParen d ∷ mark_token mark.CloseParen d ∷ us)) (mark_takes mark.OpenParen d (mark_token mark.CloseParen d ∷ us)) g.option_expr_none (mark_takes mark.CloseParen d us));
}
un_begins d (kind.Keyword k) text at b = absurd (false≢true b)

pub expr_begins : (d : ℕ) (k : Kind) (text : List ℕ) (at : ℕ) {Ends : Follow} → begins_expr (Some k) ≡ true → CanBegin (IsExpr d) Ends (lexeme k text at (suc d) ∷ [])
expr_begins d k text at b = let c = un_begins (suc d) k text at b in record { rest = c.rest; tree = c.tree; is = λ us e. un_expr (c.is us e) }

-- { }
abbrev pub block_is : (d : ℕ) (us : List Lexeme) → g.IsBlock d (mark_token mark.OpenBrace d ∷ mark_token mark.CloseBrace d ∷ us) us tree.no_items
block_is d us = g.in_block (mark_takes mark.OpenBrace d (mark_token mark.CloseBrace d ∷ us)) g.items_none (mark_takes mark.CloseBrace d us)

abbrev pub block_stmt_is : (d : ℕ) (us : List Lexeme) → IsStmt d (mark_token mark.OpenBrace d ∷ mark_token mark.CloseBrace d ∷ us) us (tree.block 0 tree.no_items)
block_stmt_is d us = g.block refl (block_is d us)

-- A statement begins with a lexeme of this kind, held by d phrases or more.
pub record StmtBegins (d : ℕ) (k : Kind) (text : List ℕ) (at : ℕ) (Ends : Follow) : Type 0 where
  pub inside : ℕ
  pub enough : d ≤ inside
  pub begun : CanBegin (IsStmt d) Ends (lexeme k text at inside ∷ [])

abbrev is_open_brace : Kind → Bool
is_open_brace (kind.Mark mark.OpenBrace) = true
is_open_brace _ = false

simple_begins : (d : ℕ) (k : Kind) (text : List ℕ) (at : ℕ) {Ends : Follow} → begins_expr (Some k) ≡ true → is_open_brace k ≡ false → StmtBegins d k text at Ends
simple_begins d k text at {Ends} b h =
    let anything = expr_begins (suc d) k text at {Ends = Anything} b in
    record {
      inside = suc (suc d);
      enough = omega arith;
      begun = record {
        rest = anything.rest ++ mark_token mark.Semicolon d ∷ [];
        tree = tree.simple (tree.run at anything.tree);
        is = λ us e.
            let ms : List Lexeme = mark_token mark.Semicolon d ∷ us in
            let i = anything.is ms tt in
            subst (λ xs. IsStmt d (lexeme k text at (suc (suc d)) ∷ xs) us (tree.simple (tree.run at anything.tree))) (sym (append_assoc anything.rest (mark_token mark.Semicolon d ∷ []) us))
            (g.simple (λ q. false≢true (sym h ∙ ap is_open_brace q)) (g.simple_run refl i) (mark_takes mark.Semicolon d us));
      };
    }

-- with each kind that may begin a statement one begins
pub stmt_begins : (d : ℕ) (k : Kind) (text : List ℕ) (at : ℕ) {Ends : Follow} → can_stmt (Some k) ≡ true → StmtBegins d k text at Ends
stmt_begins d kind.Word text at b = simple_begins d kind.Word text at b refl
stmt_begins d kind.Number text at b = simple_begins d kind.Number text at b refl
stmt_begins d kind.Text text at b = simple_begins d kind.Text text at b refl
stmt_begins d (kind.Mark mark.OpenBrace) text at b = record {
  inside = d;
  enough = omega arith;
  begun = record {
    rest = mark_token mark.CloseBrace d ∷ [];
    tree = tree.block at tree.no_items;
    is = λ us e. g.block refl (g.in_block (lexeme_takes (kind.Mark mark.OpenBrace) text at d (mark_token mark.CloseBrace d ∷ us)) g.items_none (mark_takes mark.CloseBrace d us));
  };
}
stmt_begins d (kind.Mark m) text at b = simple_begins d (kind.Mark m) text at b refl
stmt_begins d (kind.Keyword key.If) text at b = record {
  inside = d;
  enough = omega arith;
  begun = record {
    rest = mark_token mark.OpenParen d ∷ null_token (suc (suc d)) ∷ mark_token mark.CloseParen d ∷ mark_token mark.OpenBrace (suc d) ∷ mark_token mark.CloseBrace (suc d)
        ∷ lexeme (kind.Keyword key.Else) [] 0 d ∷ mark_token mark.OpenBrace (suc d) ∷ mark_token mark.CloseBrace (suc d) ∷ [];
    tree = tree.choose at (tree.null 0) (tree.block 0 tree.no_items) (tree.some_stmt (tree.block 0 tree.no_items));
    is = λ us e.
        g.choose refl (lexeme_takes (kind.Keyword key.If) text at d _) (mark_takes mark.OpenParen d _) (null_expr (suc d) _) (mark_takes mark.CloseParen d _) (block_stmt_is (suc d) _)
        (g.else_other (lexeme_takes (kind.Keyword key.Else) [] 0 d _) (block_stmt_is (suc d) us));
  };
}
stmt_begins d (kind.Keyword key.While) text at b = record {
  inside = d;
  enough = omega arith;
  begun = record {
    rest = mark_token mark.OpenParen d ∷ null_token (suc (suc d)) ∷ mark_token mark.CloseParen d ∷ mark_token mark.OpenBrace (suc d) ∷ mark_token mark.CloseBrace (suc d) ∷ [];
    tree = tree.while at (tree.null 0) (tree.block 0 tree.no_items);
    is = λ us e. g.while refl (lexeme_takes (kind.Keyword key.While) text at d _) (mark_takes mark.OpenParen d _) (null_expr (suc d) _) (mark_takes mark.CloseParen d _) (block_stmt_is (suc d) us);
  };
}
stmt_begins d (kind.Keyword key.For) text at b = record {
  inside = d;
  enough = omega arith;
  begun = record {
    rest = mark_token mark.OpenParen d ∷ lexeme (kind.Keyword key.Let) [] 0 d ∷ lexeme kind.Word [] 0 d ∷ lexeme kind.Word (codes "of") 0 d ∷ null_token (suc (suc d)) ∷ mark_token mark.CloseParen d
        ∷ mark_token mark.OpenBrace (suc d) ∷ mark_token mark.CloseBrace (suc d) ∷ [];
    tree = tree.for_of at bind.Let (record { at = 0; text = [] }) (tree.null 0) (tree.block 0 tree.no_items);
    is = λ us e.
        g.for_of refl (lexeme_takes (kind.Keyword key.For) text at d _) (mark_takes mark.OpenParen d _) (lexeme_takes (kind.Keyword key.Let) [] 0 d _)
        (record { takes = lexeme_takes kind.Word [] 0 d _; at_is = refl; text_is = refl }) (word_takes (codes "of") d _) (null_expr (suc d) _) (mark_takes mark.CloseParen d _) (block_stmt_is (suc d) us);
  };
}
stmt_begins d (kind.Keyword key.Try) text at b = record {
  inside = d;
  enough = omega arith;
  begun = record {
    rest = mark_token mark.OpenBrace d ∷ mark_token mark.CloseBrace d ∷ lexeme (kind.Keyword key.Catch) [] 0 d ∷ mark_token mark.OpenBrace d ∷ mark_token mark.CloseBrace d ∷ [];
    tree = tree.try at tree.no_items None tree.no_items;
    is = λ us e. g.try refl (lexeme_takes (kind.Keyword key.Try) text at d _) (block_is d _) (lexeme_takes (kind.Keyword key.Catch) [] 0 d _) g.caught_none (block_is d us);
  };
}
stmt_begins d (kind.Keyword key.Throw) text at b = record {
  inside = d;
  enough = omega arith;
  begun = record {
    rest = null_token (suc (suc d)) ∷ mark_token mark.Semicolon d ∷ [];
    tree = tree.throw at (tree.null 0);
    is = λ us e. g.throw refl (lexeme_takes (kind.Keyword key.Throw) text at d _) (null_expr (suc d) _) (mark_takes mark.Semicolon d us);
  };
}
stmt_begins d (kind.Keyword key.Return) text at b = record {
  inside = d;
  enough = omega arith;
  begun = record {
    rest = mark_token mark.Semicolon d ∷ [];
    tree = tree.return at tree.no_expr;
    is = λ us e. g.return refl (lexeme_takes (kind.Keyword key.Return) text at d _) g.option_expr_none (mark_takes mark.Semicolon d us);
  };
}
stmt_begins d (kind.Keyword key.Break) text at b = record {
  inside = d;
  enough = omega arith;
  begun = record {
    rest = mark_token mark.Semicolon d ∷ [];
    tree = tree.break at;
    is = λ us e. g.break refl (lexeme_takes (kind.Keyword key.Break) text at d _) (mark_takes mark.Semicolon d us);
  };
}
stmt_begins d (kind.Keyword key.Continue) text at b = record {
  inside = d;
  enough = omega arith;
  begun = record {
    rest = mark_token mark.Semicolon d ∷ [];
    tree = tree.continue at;
    is = λ us e. g.continue refl (lexeme_takes (kind.Keyword key.Continue) text at d _) (mark_takes mark.Semicolon d us);
  };
}
stmt_begins d (kind.Keyword k) text at b = simple_begins d (kind.Keyword k) text at b refl
