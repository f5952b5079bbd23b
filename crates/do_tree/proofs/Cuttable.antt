-- Bytes that are a token, and are cut so where what follows doesn't join them.
use Rattle.std.proofs.Common.{if◌then◌else◌, ◌==◌, ◌≡◌, ◌≢◌, ◌≤◌, ℕ, Bool, true, false, List, [], ◌∷◌, ◌++◌, ◌⊎◌, inl, inr, Option, Some, None, refl, sym, ◌∙◌, ap, arith, eqb, IsUtf8}
use Rattle.std.proofs.lemmas.Bool.{false≢true}
use Rattle.std.proofs.lemmas.Bool.Decides.{nat_tests}
use Rattle.do_lex.specs.Kind.{keyword_of, kind_of, mark_at, mark_text, word_kind}
use Rattle.do_value.specs.Limits.{most_number}
use Rattle.do_lex.specs.Lexemes.{IsInside, IsNumber, IsWord, is_escape, number_value}
use Rattle.do_lex.specs.Next.{begins, opening_of}
use Rattle.do_lex.specs.declared.kind.Kind.{Kind}
use Rattle.do_lex.specs.declared.kind.Kind.TheVariants as kind
use Rattle.do_lex.specs.declared.kind.Keyword.{Keyword}
use Rattle.do_lex.specs.declared.kind.Mark.{Mark}
use Rattle.do_lex.specs.declared.kind.Mark.TheVariants as mark
use Rattle.do_tree.specs.Print.{mark_edge, needs_space}
use Rattle.do_tree.specs.declared.print_word.Edge.{Edge}
use Rattle.do_tree.specs.declared.print_word.Edge.TheVariants as edge
use Rattle.do_tree.proofs.Respelled.{expects}
use Rattle.do_tree.proofs.Spelled.{IsOneQuote}

-- The bytes of a token, by its kind.
pub data IsToken : Kind → List ℕ → Type 0 where
  of_mark : (m : Mark) → IsToken (kind.Mark m) (mark_text m)
  of_word : {text : List ℕ} → IsWord text → IsToken (word_kind text) text
  of_number : {text : List ℕ} → IsNumber text → number_value text ≤ most_number → IsToken kind.Number text
  of_text : {q : ℕ} {inside : List ℕ} → IsOneQuote q → IsInside q is_escape inside → IsUtf8 inside → IsToken kind.Text (q ∷ (inside ++ q ∷ []))

abbrev pub edge_of : Kind → Edge
edge_of (kind.Mark m) = mark_edge m
edge_of kind.Number = edge.Number
edge_of kind.Text = edge.Other
edge_of _ = edge.Word

edge_kind : (k : Option Keyword) → edge_of (kind_of k) ≡ edge.Word
edge_kind None = refl
edge_kind (Some k) = refl

pub edge_word : (text : List ℕ) → edge_of (word_kind text) ≡ edge.Word
edge_word text = edge_kind (keyword_of text)

-- The bytes that join none of the marks behind which an expression stands, but for a minus.
abbrev pub is_safe : ℕ → Bool
is_safe b = if b == 61 then false else (if b == 62 then false else (if b == 43 then false else (if b == 47 then false else (if b == 42 then false else (if b == 63 then false else true)))))

abbrev pub safe_mark : Mark → List ℕ → Bool
safe_mark m more = if expects m then begins is_safe more else true

abbrev pub safe_kind : Kind → List ℕ → Bool
safe_kind (kind.Mark m) more = safe_mark m more
safe_kind _ more = true

-- What follows joins no token of this kind.
pub record Apart (k : Kind) (more : List ℕ) : Type 0 where
  pub no_space : needs_space (edge_of k) more ≡ false
  pub safe : safe_kind k more ≡ true

-- Marks that begin no longer one.
plain_mark : (m : Mark) (more : List ℕ) → expects m ≡ false → (opening_of (mark_text m ++ more) ≡ (opening_of (40 ∷ []))) × (mark_at (mark_text m ++ more) ≡ Some m)
plain_mark mark.Assign more h = absurd (false≢true (sym h))
plain_mark mark.Not more h = absurd (false≢true (sym h))
plain_mark mark.Less more h = absurd (false≢true (sym h))
plain_mark mark.Greater more h = absurd (false≢true (sym h))
plain_mark mark.Plus more h = absurd (false≢true (sym h))
plain_mark mark.Minus more h = absurd (false≢true (sym h))
plain_mark mark.Slash more h = absurd (false≢true (sym h))
plain_mark mark.Question more h = absurd (false≢true (sym h))
plain_mark _ more h = (refl, refl)

-- a byte that is none of these
safe_is : (b : ℕ) → is_safe b ≡ true → (eqb b 61 ≡ false) × ((eqb b 62 ≡ false) × ((eqb b 43 ≡ false) × ((eqb b 47 ≡ false) × ((eqb b 42 ≡ false) × (eqb b 63 ≡ false)))))
safe_is b h = by (eqb b 61) (eqb b 62) (eqb b 43) (eqb b 47) (eqb b 42) (eqb b 63) h
  where
    by : (a c d e f g : Bool) → (if a then false else (if c then false else (if d then false else (if e then false else (if f then false else (if g then false else true)))))) ≡ true
        → (a ≡ false) × ((c ≡ false) × ((d ≡ false) × ((e ≡ false) × ((f ≡ false) × (g ≡ false)))))
    by true c d e f g h = absurd (false≢true h)
    by false true d e f g h = absurd (false≢true h)
    by false false true e f g h = absurd (false≢true h)
    by false false false true f g h = absurd (false≢true h)
    by false false false false true g h = absurd (false≢true h)
    by false false false false false true h = absurd (false≢true h)
    by false false false false false false h = (refl, (refl, (refl, (refl, (refl, refl)))))

flip : (a b : ℕ) → eqb b a ≡ false → eqb a b ≡ false
flip a b h = grind (arith, nat_tests)

-- Marks that begin a longer one, before a byte that joins none.
joining_mark : (m : Mark) (b : ℕ) (bs : List ℕ) → expects m ≡ true → is_safe b ≡ true → (eqb b 45 ≡ false) ⊎ (m ≢ mark.Minus)
    → (opening_of (mark_text m ++ b ∷ bs) ≡ (opening_of (40 ∷ []))) × (mark_at (mark_text m ++ b ∷ bs) ≡ Some m)
joining_mark mark.Assign b bs h s d =
    let p = safe_is b s in
    let e = flip 61 b p.0 in let g = flip 62 b p.1.0 in (refl, simp (e, g))
joining_mark mark.Not b bs h s d = let p = safe_is b s in let e = flip 61 b p.0 in (refl, simp e)
joining_mark mark.Less b bs h s d = let p = safe_is b s in let e = flip 61 b p.0 in (refl, simp e)
joining_mark mark.Greater b bs h s d = let p = safe_is b s in let e = flip 61 b p.0 in (refl, simp e)
joining_mark mark.Plus b bs h s d =
    let p = safe_is b s in
    let e = flip 61 b p.0 in let g = flip 43 b p.1.1.0 in (refl, simp (e, g))
joining_mark mark.Minus b bs h s (inl d) =
    let p = safe_is b s in
    let e = flip 61 b p.0 in let g = flip 45 b d in (refl, simp (e, g))
joining_mark mark.Minus b bs h s (inr d) = absurd (d refl)
joining_mark mark.Slash b bs h s d =
    let p = safe_is b s in
    let e = p.1.1.1.0 in let g = p.1.1.1.1.0 in (simp (e, g), refl)
joining_mark mark.Question b bs h s d = let p = safe_is b s in let e = flip 63 b p.1.1.1.1.1 in (refl, simp e)
joining_mark _ b bs h s d = absurd (false≢true h)

-- A mark is cut so.
minus_apart : (m : Mark) (b : ℕ) (bs : List ℕ) → needs_space (mark_edge m) (b ∷ bs) ≡ false → (eqb b 45 ≡ false) ⊎ (m ≢ mark.Minus)
minus_apart mark.Minus b bs h = inl h
minus_apart _ b bs h = inr (λ i. cc)

pub mark_stands : (m : Mark) (more : List ℕ) → Apart (kind.Mark m) more → (opening_of (mark_text m ++ more) ≡ (opening_of (40 ∷ []))) × (mark_at (mark_text m ++ more) ≡ Some m)
mark_stands m more a = by (expects m) refl more a
  where
    joins : (more : List ℕ) → Apart (kind.Mark m) more → expects m ≡ true → begins is_safe more ≡ true → (opening_of (mark_text m ++ more) ≡ (opening_of (40 ∷ []))) × (mark_at (mark_text m ++ more) ≡ Some m)
    joins [] a h s = absurd (false≢true s)
    joins (b ∷ bs) a h s = joining_mark m b bs h s (minus_apart m b bs a.no_space)

    by : (c : Bool) → expects m ≡ c → (more : List ℕ) → Apart (kind.Mark m) more → (opening_of (mark_text m ++ more) ≡ (opening_of (40 ∷ []))) × (mark_at (mark_text m ++ more) ≡ Some m)
    by false h more a = plain_mark m more h
    by true h more a = joins more a h (sym (ap (λ t. if t then begins is_safe more else true) h) ∙ a.safe)
