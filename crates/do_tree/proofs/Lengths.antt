-- A printed text is no longer than a text with the same tree.
use Rattle.std.proofs.Common.{◌≡◌, ◌+◌, ◌<◌, ◌≤◌, ℕ, zero, suc, Bool, true, false, List, ◌∷◌, ◌++◌, length, drop, refl, sym, ◌∙◌, ap, subst, arith}
use Rattle.std.proofs.lemmas.Bool.{false≢true}
use Rattle.std.proofs.lemmas.List.{length-append, length-drop}
use Rattle.do_tree.specs.Lexeme.{Lexeme}
use Rattle.do_tree.specs.Print.{gap, needs_space, text_behind}
use Rattle.do_tree.specs.declared.print_word.Edge.{Edge}
use Rattle.do_tree.proofs.Cuttable.{edge_of}
use Rattle.do_tree.proofs.Fitting.{Shorter, kept_shorter}
use Rattle.do_tree.proofs.Fitting.Shorter.{same_text, no_longer, by_two}
use Rattle.do_tree.proofs.Recut.{blanks, needs_front, token_some}
use Rattle.do_tree.proofs.Respelled.{Bare, Respelled, pieces}
use Rattle.do_tree.proofs.Respelled.Respelled.{none, keep, comma}
use Rattle.do_tree.proofs.Walked.{Walk}
use Rattle.do_tree.proofs.Walked.Walk.{end, step}

-- What is printed behind a token, against what is left of the text: no longer by more than a space, and no longer
-- at all where the text doesn't go on at once with what would join the token.
record NoLonger (text : List ℕ) (at : ℕ) (e : Edge) (bs : List Bare) : Type 0 where
  space : length (text_behind e (pieces bs)) ≤ length (drop at text) + 1
  exact : needs_space e (drop at text) ≡ false → length (text_behind e (pieces bs)) ≤ length (drop at text)

-- a space takes one byte at most, and none where it isn't needed
gap_one : (c : Bool) → length (blanks c) ≤ 1
gap_one true = omega arith
gap_one false = omega arith

gap_none : (c : Bool) → c ≡ false → length (blanks c) ≡ 0
gap_none true h = absurd (false≢true (sym h))
gap_none false h = refl

-- what is left of the text: bytes that are skipped, a token, and the rest
record Left (text : List ℕ) (at gone : ℕ) (t : List ℕ) : Type 0 where
  size : length (drop at text) ≡ gone + (length t + length (drop (at + gone + length t) text))

left_of : (text : List ℕ) (at gone : ℕ) (t : List ℕ) → 0 < length t → drop (at + gone) text ≡ t ++ drop (at + gone + length t) text → Left text at gone t
left_of text at gone t some h = record {
  size = omega (arith, length-drop at text, length-drop (at + gone) text, ap length h, length-append t (drop (at + gone + length t) text), some);
}

-- the printed text by its parts
behind_size : (e : Edge) (b : Bare) (bs : List Bare) → length (text_behind e (pieces (b ∷ bs))) ≡ length (gap e b.text) + (length b.text + length (text_behind b.edge (pieces bs)))
behind_size e b bs = omega (arith, length-append (gap e b.text) (b.text ++ text_behind b.edge (pieces bs)), length-append b.text (text_behind b.edge (pieces bs)))

-- a token that is printed as it was, behind bytes that are skipped or none
same_gap : (text : List ℕ) (at gone : ℕ) (t : List ℕ) (e : Edge) → 0 < length t → drop (at + gone) text ≡ t ++ drop (at + gone + length t) text → needs_space e (drop at text) ≡ false
    → length (gap e t) ≤ gone
same_gap text at zero t e some h n =
    let front : drop at text ≡ t ++ drop (at + zero + length t) text = (let z : at ≡ at + zero = omega arith in ap (λ k. drop k text) z ∙ h) in
    let none : needs_space e t ≡ false = sym (needs_front e t (drop (at + zero + length t) text) some) ∙ ap (needs_space e) (sym front) ∙ n in
    omega (arith, gap_none (needs_space e t) none)
same_gap text at (suc gone) t e some h n = omega (arith, gap_one (needs_space e t))

one_shorter : (text : List ℕ) (at gone : ℕ) (o : Lexeme) (e : Edge) (b : Bare) (bs : List Bare) → Shorter o b → 0 < length o.text
    → drop (at + gone) text ≡ o.text ++ drop (at + gone + length o.text) text
    → needs_space (edge_of o.kind) (drop (at + gone + length o.text) text) ≡ false
    → NoLonger text (at + gone + length o.text) b.edge bs → NoLonger text at e (b ∷ bs)
one_shorter text at gone o e b bs (same_text te ee) some h n rest =
    let left = left_of text at gone o.text some h in
    let tail = rest.exact (subst (λ x. needs_space x (drop (at + gone + length o.text) text) ≡ false) (sym ee) n) in
    let size = behind_size e b bs in
    let one = gap_one (needs_space e b.text) in
    let long = ap length te in
    record {
      space = omega (arith, left.size, tail, size, one, long);
      exact = λ d. let short : length (gap e b.text) ≤ gone = subst (λ t. length (gap e t) ≤ gone) (sym te) (same_gap text at gone o.text e some h d) in omega (arith, left.size, tail, size, short, long);
    }
one_shorter text at gone o e b bs (no_longer free less ee) some h n rest =
    let left = left_of text at gone o.text some h in
    let tail = rest.exact (subst (λ x. needs_space x (drop (at + gone + length o.text) text) ≡ false) (sym ee) n) in
    let size = behind_size e b bs in
    let nothing = gap_none (needs_space e b.text) (free e) in
    record {
      space = omega (arith, left.size, tail, size, nothing, less);
      exact = λ d. omega (arith, left.size, tail, size, nothing, less);
    }
one_shorter text at gone o e b bs (by_two less) some h n rest =
    let left = left_of text at gone o.text some h in
    let tail = rest.space in
    let size = behind_size e b bs in
    let one = gap_one (needs_space e b.text) in
    record {
      space = omega (arith, left.size, tail, size, one, less);
      exact = λ d. omega (arith, left.size, tail, size, one, less);
    }

shorter : (text : List ℕ) (at : ℕ) {ts : List Lexeme} {bs : List Bare} → Walk text at ts → Respelled ts bs → (e : Edge) → NoLonger text at e bs
shorter text at end none e = record { space = omega arith; exact = λ d. omega arith }
shorter text at (step {o = o} {os = os} gone t h n w) (keep {b = b} {bs = bs} k c r) e =
    one_shorter text at gone o e b bs (kept_shorter o b k t) (token_some t) h n (shorter text (at + gone + length o.text) w r b.edge)
shorter text at (step {o = o} {os = os} gone t h n w) (comma {bs = bs} i c r) e =
    let some = token_some t in
    let left = left_of text at gone o.text some h in
    let rest = shorter text (at + gone + length o.text) w r e in
    record {
      space = omega (arith, left.size, rest.space, some);
      exact = λ d. omega (arith, left.size, rest.space, some);
    }

pub no_longer_than : (text : List ℕ) {ts : List Lexeme} {bs : List Bare} → Walk text 0 ts → Respelled ts bs → (e : Edge) → needs_space e text ≡ false
    → length (text_behind e (pieces bs)) ≤ length text
no_longer_than text w r e h = (shorter text 0 w r e).exact h
