-- Expressions that too many phrases would hold.
use Rattle.std.proofs.Common.{if◌then◌else◌, ◌≡◌, ◌<◌, ◌≤◌, ◌+◌, ℕ, suc, Bool, true, false, List, [], ◌∷◌, ◌⊎◌, inl, inr, Option, Some, None, Result, Ok, Err, refl, sym, ◌∙◌, ap, subst, arith}
use Rattle.std.proofs.lemmas.Bool.{false≢true}
use Rattle.do_lex.specs.declared.kind.Kind.{Kind}
use Rattle.do_lex.specs.declared.tokens.Token.{Token}
use Rattle.do_tree.specs.Accepts.{most_inside}
use Rattle.do_tree.specs.Grammar.{IsExpr, IsUn}
use Rattle.do_tree.specs.Lexeme.{Lexeme}
use Rattle.do_tree.specs.Tree as tree
use Rattle.do_parse.specs.Deep.{stop_at}
use Rattle.do_parse.specs.Follow.{behind_expr, behind_un}
use Rattle.do_parse.specs.Parsed.{Follow, ends_by, BeginAlike, Parses}
use Rattle.do_parse.specs.Starts.{kind_next, begins_expr}
use Rattle.do_parse.specs.declared.stop.Stop.{Stop}
use Rattle.do_parse.specs.declared.stop.Stop.TheVariants.{Unexpected, TooNested}
use Rattle.do_parse.proofs.Deep.{lexeme, un_begins, expr_begins}
use Rattle.do_parse.proofs.Exprs.{un_stands}
use Rattle.do_parse.proofs.FactsExpr.{expr_stands}
use Rattle.do_parse.proofs.First.{kind_first, first_is_next, expr_first, un_first}
use Rattle.do_parse.proofs.Held.{expr_held, un_held, deep_first}
use Rattle.do_parse.proofs.Sequence.{wrong_here, deep_here}

-- a kind begins an expression or not
begins_or : (k : Option Kind) → ((begins_expr k ≡ true) × (stop_at k ≡ TooNested)) ⊎ ((begins_expr k ≡ false) × (stop_at k ≡ Unexpected))
begins_or k = by_test (begins_expr k) refl
  where
    by_test : (b : Bool) → begins_expr k ≡ b → ((begins_expr k ≡ true) × (stop_at k ≡ TooNested)) ⊎ ((begins_expr k ≡ false) × (stop_at k ≡ Unexpected))
    by_test true h = inl (h, ap (λ x. if x then TooNested else Unexpected) h)
    by_test false h = inr (h, ap (λ x. if x then TooNested else Unexpected) h)

expr_at_once : (d : ℕ) → most_inside < d → (t : Token) (now : List Token) → ((begins_expr (Some t.kind) ≡ true) × (stop_at (Some t.kind) ≡ TooNested)) ⊎ ((begins_expr (Some t.kind) ≡ false) × (stop_at (Some t.kind) ≡ Unexpected))
    → Parses (IsExpr d) (ends_by behind_expr) (t ∷ now) (t ∷ now) (Err (stop_at (Some t.kind)))
expr_at_once d m t now (inl c) =
    subst (λ s. Parses (IsExpr d) (ends_by behind_expr) (t ∷ now) (t ∷ now) (Err s)) (sym c.1)
    (deep_here t now (lexeme t.kind t.text.now t.at (suc d)) (record { kind = refl; text = refl; at = refl }) (omega (arith, m)) (expr_begins d t.kind t.text.now t.at c.0) (λ ts us e i. deep_first d ts m (expr_held i)))
expr_at_once d m t now (inr c) =
    subst (λ s. Parses (IsExpr d) (ends_by behind_expr) (t ∷ now) (t ∷ now) (Err s)) (sym c.1)
    (wrong_here (expr_stands d).begun (λ ts us e b i f. false≢true (sym c.0 ∙ ap begins_expr (sym (first_is_next (t ∷ now) ts b)) ∙ expr_first i)))

pub expr_deep : (d : ℕ) → most_inside < d → (now : List Token) → Parses (IsExpr d) (ends_by behind_expr) now now (Err (stop_at (kind_next now)))
expr_deep d m [] = wrong_here (expr_stands d).begun (λ ts us e b i f. false≢true (ap begins_expr (sym (first_is_next [] ts b)) ∙ expr_first i))
expr_deep d m (t ∷ now) = expr_at_once d m t now (begins_or (Some t.kind))

un_at_once : (d : ℕ) → most_inside < d → (t : Token) (now : List Token) → ((begins_expr (Some t.kind) ≡ true) × (stop_at (Some t.kind) ≡ TooNested)) ⊎ ((begins_expr (Some t.kind) ≡ false) × (stop_at (Some t.kind) ≡ Unexpected))
    → Parses (IsUn d) (ends_by behind_un) (t ∷ now) (t ∷ now) (Err (stop_at (Some t.kind)))
un_at_once d m t now (inl c) =
    subst (λ s. Parses (IsUn d) (ends_by behind_un) (t ∷ now) (t ∷ now) (Err s)) (sym c.1)
    (deep_here t now (lexeme t.kind t.text.now t.at d) (record { kind = refl; text = refl; at = refl }) m (un_begins d t.kind t.text.now t.at c.0) (λ ts us e i. deep_first d ts m (un_held i)))
un_at_once d m t now (inr c) =
    subst (λ s. Parses (IsUn d) (ends_by behind_un) (t ∷ now) (t ∷ now) (Err s)) (sym c.1)
    (wrong_here (un_stands d).begun (λ ts us e b i f. false≢true (sym c.0 ∙ ap begins_expr (sym (first_is_next (t ∷ now) ts b)) ∙ un_first i)))

pub un_deep : (d : ℕ) → most_inside < d → (now : List Token) → Parses (IsUn d) (ends_by behind_un) now now (Err (stop_at (kind_next now)))
un_deep d m [] = wrong_here (un_stands d).begun (λ ts us e b i f. false≢true (ap begins_expr (sym (first_is_next [] ts b)) ∙ un_first i))
un_deep d m (t ∷ now) = un_at_once d m t now (begins_or (Some t.kind))
