-- What it means that a phrase is read again from its printed tokens, and what the phrases need for it.
use Rattle.std.proofs.Common.{if◌then◌else◌, ◌≡◌, ◌≢◌, ℕ, suc, Bool, true, false, List, ◌∷◌, ◌++◌, refl, sym, ◌∙◌, ap, subst}
use Rattle.do_value.specs.declared.operator.BinOp.{BinOp}
use Rattle.do_lex.specs.Kind.{word_kind}
use Rattle.do_lex.specs.declared.kind.Kind.TheVariants as kind
use Rattle.do_lex.specs.declared.kind.Keyword.TheVariants as key
use Rattle.do_lex.specs.declared.kind.Mark.{Mark}
use Rattle.do_lex.specs.declared.kind.Mark.TheVariants as mark
use Rattle.do_tree.specs.Grammar as g
use Rattle.do_tree.specs.Grammar.{TakesMark, TakesAnyWord, TakesText, Level, IsOperator, IsExpr, IsArg, IsPair, IsElse, BeginsWithNo}
use Rattle.do_tree.specs.Lexeme.{Lexeme}
use Rattle.do_tree.specs.Print.{Piece, a_key, a_mark, before_args, before_exprs, before_pairs, is_word, operator_mark, quoted, tokens_of_args, tokens_of_other, tokens_of_pair, word}
use Rattle.do_tree.specs.Tree as tree
use Rattle.do_tree.specs.Tree.{Named, Expr, OptionExpr, Exprs, Links, Args, Pairs, OptionStmt}
use Rattle.do_tree.specs.Unplaced.{unplaced_args, unplaced_exprs, unplaced_links, unplaced_name, unplaced_option, unplaced_other, unplaced_pairs}
use Rattle.do_tree.proofs.Respelled.{Bare, Front, any_front, named_at, no_word_front, pieces, placed, takes_any, text_front, word_key_front, word_kind_is}
use Rattle.do_tree.proofs.Spelled.{takes_text}

-- A phrase that is read again, before the printed tokens bs.
pub record Again {X : Type 0} (spot : List Bare → ℕ) (P : List Lexeme → List Lexeme → X → Type 0) (plain : X → X) (tokens : X → List Piece) (ts : List Lexeme) (bs : List Bare) (x : X) : Type 0 where
  pub front : Front ts
  pub again : X
  pub is : P (placed spot front.bares) (placed spot bs) again
  pub same : plain again ≡ plain x
  pub are : pieces front.bares ≡ tokens x ++ pieces bs

-- The same of a phrase that holds no more than another.
pub up : {X : Type 0} {spot : List Bare → ℕ} {P Q : List Lexeme → List Lexeme → X → Type 0} {plain : X → X} {tokens : X → List Piece} {ts : List Lexeme} {bs : List Bare} {x : X}
    → ((us vs : List Lexeme) (y : X) → P us vs y → Q us vs y) → Again spot P plain tokens ts bs x → Again spot Q plain tokens ts bs x
up {spot = spot} {bs = bs} h a = record { front = a.front; again = a.again; is = h (placed spot a.front.bares) (placed spot bs) a.again a.is; same = a.same; are = a.are }

-- An argument, before others and before the tokens at the end.
pub record AgainArg (spot : List Bare → ℕ) (d : ℕ) (ts : List Lexeme) (bs : List Bare) (more x : Args) (end : List Piece) : Type 0 where
  pub front : Front ts
  pub again : Args
  pub is : IsArg d (placed spot front.bares) (placed spot bs) more again
  pub same : unplaced_args again ≡ unplaced_args x
  pub are : pieces front.bares ≡ tokens_of_args x ++ end

-- A pair.
pub record AgainPair (spot : List Bare → ℕ) (d : ℕ) (ts : List Lexeme) (bs : List Bare) (n : Named) (v : OptionExpr) : Type 0 where
  pub front : Front ts
  pub name : Named
  pub value : OptionExpr
  pub is : IsPair d (placed spot front.bares) (placed spot bs) name value
  pub same_name : unplaced_name name ≡ unplaced_name n
  pub same : unplaced_option value ≡ unplaced_option v
  pub are : pieces front.bares ≡ tokens_of_pair n v ++ pieces bs

-- A key.
pub record AgainKey (spot : List Bare → ℕ) (d : ℕ) (ts : List Lexeme) (bs : List Bare) (n : Named) : Type 0 where
  pub front : Front ts
  pub name : Named
  pub pair : {vs ws : List Lexeme} {e : Expr} → TakesMark mark.Colon d (placed spot bs) vs → IsExpr (suc d) vs ws e → IsPair d (placed spot front.bares) ws name (tree.some_expr e)
  pub same : unplaced_name name ≡ unplaced_name n
  pub are : pieces front.bares ≡ a_key n.text ∷ pieces bs

key_piece : (text : List ℕ) (b : Bool) → is_word text ≡ b → (ps : List Piece) → a_key text ∷ ps ≡ (if b then word text else quoted text) ∷ ps
key_piece text b h ps = ap (λ c. (if c then word text else quoted text) ∷ ps) h

pub word_key : (spot : List Bare → ℕ) {d : ℕ} {ts us : List Lexeme} {n : Named} (b : Bool) → is_word n.text ≡ b → TakesAnyWord n d ts us → (f : Front us) → AgainKey spot d ts f.bares n
word_key spot {d} {n = n} true h p f =
    let f1 = any_front p f in
    record {
      front = f1;
      name = named_at spot f1.bares n.text;
      pair = λ c x. g.pair_word (takes_any spot p.token.kind n.text d f.bares p.kind_is) c x;
      same = refl;
      are = sym (key_piece n.text true h (pieces f.bares));
    }
word_key spot {d} {n = n} false h p f =
    let f1 = no_word_front p h f in
    record {
      front = f1;
      name = named_at spot f1.bares n.text;
      pair = λ c x. g.pair_text (takes_text spot n.text d f.bares) c x;
      same = refl;
      are = sym (key_piece n.text false h (pieces f.bares));
    }

pub text_key : (spot : List Bare → ℕ) {d : ℕ} {ts us : List Lexeme} {n : Named} (b : Bool) → is_word n.text ≡ b → TakesText n.at n.text d ts us → (f : Front us) → AgainKey spot d ts f.bares n
text_key spot {d} {n = n} true h p f =
    let f1 = word_key_front p h f in
    record {
      front = f1;
      name = named_at spot f1.bares n.text;
      pair = λ c x. g.pair_word (takes_any spot (word_kind n.text) n.text d f.bares (word_kind_is n.text)) c x;
      same = refl;
      are = sym (key_piece n.text true h (pieces f.bares));
    }
text_key spot {d} {n = n} false h p f =
    let f1 = text_front p f in
    record {
      front = f1;
      name = named_at spot f1.bares n.text;
      pair = λ c x. g.pair_text (takes_text spot n.text d f.bares) c x;
      same = refl;
      are = sym (key_piece n.text false h (pieces f.bares));
    }

-- An else stands only where one did.
abbrev pub ElseSo : (List Bare → ℕ) → List Lexeme → List Bare → Type 0
ElseSo spot us bs = BeginsWithNo (kind.Keyword key.Else) us → BeginsWithNo (kind.Keyword key.Else) (placed spot bs)

pub record AgainOther (spot : List Bare → ℕ) (d : ℕ) (ts : List Lexeme) (bs : List Bare) (x : OptionStmt) : Type 0 where
  pub front : Front ts
  pub again : OptionStmt
  pub is : IsElse d (placed spot front.bares) (placed spot bs) again
  pub same : unplaced_other again ≡ unplaced_other x
  pub are : pieces front.bares ≡ tokens_of_other x ++ pieces bs
  pub so : ElseSo spot ts front.bares

-- Lists that are not empty stay so.
no_exprs_from : (x : Exprs) → unplaced_exprs x ≡ tree.no_exprs → x ≡ tree.no_exprs
no_exprs_from tree.no_exprs h = refl
no_exprs_from (tree.expr e es) h = cc

pub some_exprs : (x : Exprs) {y : Exprs} → unplaced_exprs x ≡ unplaced_exprs y → y ≢ tree.no_exprs → x ≢ tree.no_exprs
some_exprs x {y} s h e = h (no_exprs_from y (sym s ∙ ap unplaced_exprs e))

no_links_from : (x : Links) → unplaced_links x ≡ tree.no_links → x ≡ tree.no_links
no_links_from tree.no_links h = refl
no_links_from (tree.field n ls) h = cc
no_links_from (tree.index at e ls) h = cc
no_links_from (tree.call at a ls) h = cc

pub some_links : (x : Links) {y : Links} → unplaced_links x ≡ unplaced_links y → y ≢ tree.no_links → x ≢ tree.no_links
some_links x {y} s h e = h (no_links_from y (sym s ∙ ap unplaced_links e))

no_args_from : (x : Args) → unplaced_args x ≡ tree.no_args → x ≡ tree.no_args
no_args_from tree.no_args h = refl
no_args_from (tree.value_arg e r) h = cc
no_args_from (tree.callback at n is r) h = cc

pub some_args : (x : Args) {y : Args} → unplaced_args x ≡ unplaced_args y → y ≢ tree.no_args → x ≢ tree.no_args
some_args x {y} s h e = h (no_args_from y (sym s ∙ ap unplaced_args e))

no_pairs_from : (x : Pairs) → unplaced_pairs x ≡ tree.no_pairs → x ≡ tree.no_pairs
no_pairs_from tree.no_pairs h = refl
no_pairs_from (tree.pair n v ps) h = cc

pub some_pairs : (x : Pairs) {y : Pairs} → unplaced_pairs x ≡ unplaced_pairs y → y ≢ tree.no_pairs → x ≢ tree.no_pairs
some_pairs x {y} s h e = h (no_pairs_from y (sym s ∙ ap unplaced_pairs e))

-- A comma stands before lists that are not empty.
pub before_some_exprs : (es : Exprs) → es ≢ tree.no_exprs → (xs ys zs : List Piece) → xs ≡ ys ++ zs → a_mark mark.Comma ∷ xs ≡ before_exprs es ys ++ zs
before_some_exprs tree.no_exprs h xs ys zs e = absurd (h refl)
before_some_exprs (tree.expr x es) h xs ys zs e = ap (λ ps. a_mark mark.Comma ∷ ps) e

pub before_some_args : (as₀ : Args) → as₀ ≢ tree.no_args → (xs ys zs : List Piece) → xs ≡ ys ++ zs → a_mark mark.Comma ∷ xs ≡ before_args as₀ ys ++ zs
before_some_args tree.no_args h xs ys zs e = absurd (h refl)
before_some_args (tree.value_arg x r) h xs ys zs e = ap (λ ps. a_mark mark.Comma ∷ ps) e
before_some_args (tree.callback at n is r) h xs ys zs e = ap (λ ps. a_mark mark.Comma ∷ ps) e

pub before_some_pairs : (qs : Pairs) → qs ≢ tree.no_pairs → (xs ys zs : List Piece) → xs ≡ ys ++ zs → a_mark mark.Comma ∷ xs ≡ before_pairs qs ys ++ zs
before_some_pairs tree.no_pairs h xs ys zs e = absurd (h refl)
before_some_pairs (tree.pair n v r) h xs ys zs e = ap (λ ps. a_mark mark.Comma ∷ ps) e

-- The mark of an operator.
operator_is : {l : Level} {m : Mark} {o : BinOp} → IsOperator l m o → m ≡ operator_mark o
operator_is g.same = refl
operator_is g.differs = refl
operator_is g.less = refl
operator_is g.less_eq = refl
operator_is g.greater = refl
operator_is g.greater_eq = refl
operator_is g.plus = refl
operator_is g.minus = refl
operator_is g.times = refl
operator_is g.over = refl
operator_is g.modulo = refl

pub operator_so : {l : Level} {m : Mark} {o : BinOp} → IsOperator l m o → IsOperator l (operator_mark o) o
operator_so {l} {m} {o} p = subst (λ k. IsOperator l k o) (operator_is p) p

pub operator_taken : {l : Level} {m : Mark} {o : BinOp} {d : ℕ} {ts us : List Lexeme} → IsOperator l m o → TakesMark m d ts us → TakesMark (operator_mark o) d ts us
operator_taken {d = d} {ts = ts} {us = us} p t = subst (λ k. TakesMark k d ts us) (operator_is p) t
