-- Expressions as phrases: that they can stand, and what they begin with.
use Rattle.std.proofs.Common.{◌≡◌, ◌≢◌, ℕ, zero, suc, Bool, true, false, List, [], ◌∷◌, ◌++◌, refl, sym, ◌∙◌, ap, subst}
use Rattle.do_lex.specs.declared.kind.Kind.{Kind}
use Rattle.do_lex.specs.declared.kind.Kind.TheVariants as kind
use Rattle.do_lex.specs.declared.kind.Keyword.TheVariants as key
use Rattle.do_lex.specs.declared.kind.Mark.TheVariants as mark
use Rattle.do_tree.specs.declared.expr.Chain.TheVariants as chain
use Rattle.do_tree.specs.Grammar as g
use Rattle.do_tree.specs.Grammar.{IsExpr, IsShort, IsOperandOf, IsStrict, IsTighter, IsUn, IsPost, IsPrim}
use Rattle.do_tree.specs.Lexeme.{Lexeme, place}
use Rattle.do_tree.specs.Tree as tree
use Rattle.do_parse.specs.Parsed.{Phrase, Follow, CanBegin}
use Rattle.do_parse.proofs.Sequence.{Stands}
use Rattle.do_parse.proofs.Facts.{token_of, token_takes, place_of_token, no_else}

-- an expression that has no operator between two values
pub un_expr : {d : ℕ} {ts us : List Lexeme} {e : tree.Expr} → IsUn (suc d) ts us e → IsExpr d ts us e
un_expr u = g.short (g.one (g.of_or (g.tighter (g.of_eq (g.tighter (g.of_rel (g.tighter (g.of_add (g.tighter (g.of_mul u))))))))))

-- an expression that is a value alone
pub expr_from_prim : {d : ℕ} {ts us : List Lexeme} {e : tree.Expr} → IsPrim (suc d) ts us e → IsExpr d ts us e
expr_from_prim p = un_expr (g.post (g.prim p))

-- null
null_is : (d : ℕ) (us : List Lexeme) → IsExpr d (token_of (kind.Keyword key.Null) [] (suc d) ∷ us) us (tree.null 0)
null_is d us = expr_from_prim (g.null (place_of_token (kind.Keyword key.Null) [] (suc d) us) (token_takes (kind.Keyword key.Null) [] (suc d) us))

pub expr_stands : (d : ℕ) {Ends : Follow} → Stands (IsExpr d) Ends
expr_stands d = record {
  begun = record { rest = token_of (kind.Keyword key.Null) [] (suc d) ∷ []; tree = tree.null 0; is = λ us e. null_is d us };
  no_else = λ us e. no_else (kind.Keyword key.Null) [] (suc d) us refl;
}
