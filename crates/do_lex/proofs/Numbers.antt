-- The token of a number.
use Rattle.std.proofs.Common.{◌≡◌, ℕ, ◌+◌, ◌≤◌, false, cond, List, length, get_or, take, drop, Option, Some, None, Ok, Err, ⊎_elim, sym, ◌∙◌, ap, subst, arith, eqb, ltb}
use Rattle.std.proofs.lemmas.Bool.Decides.{nat_tests}
use Rattle.std.proofs.lemmas.List.{drop-drop}
use Rattle.do_lex.specs.Bytes.{is_letter_or_digit}
use Rattle.do_lex.specs.Kind.{kind_of, keyword_of, word_kind, mark_at, mark_text}
use Rattle.do_value.specs.Limits.{most_number}
use Rattle.do_lex.specs.Lexemes.{IsNumber, number_value}
use Rattle.do_lex.specs.Next.{Answer, opening_of, begins, token, IsWordAnswer, IsNumberAnswer, IsTextAnswer, mark_answer, Stands, StandsBy, Gives}
use Rattle.do_lex.specs.Next.Gives.{skip, here}
use Rattle.do_lex.specs.declared.kind.Kind.{Kind}
use Rattle.do_lex.specs.declared.kind.Kind.TheVariants as kinds
use Rattle.do_lex.specs.declared.kind.Keyword.{Keyword}
use Rattle.do_lex.specs.declared.kind.Mark.{Mark}
use Rattle.do_lex.specs.declared.pieces.Span.{Span}
use Rattle.do_lex.specs.declared.pieces.Opening.{Opening}
use Rattle.do_lex.specs.declared.pieces.Opening.TheVariants as opens
use Rattle.do_lex.specs.declared.fault.LexFault.TheVariants.{BadChar, OpenText, LongNumber}
use Rattle.do_lex.proofs.Openings.{chosen}

-- The bytes of a span are a number, and not too great.
pub record NumberAt (bytes : List ℕ) (at : ℕ) (span : Span) : Type 0 where
  pub before : ℕ
  pub n : ℕ
  pub start : span.at ≡ at + before
  pub stop : span.end ≡ at + before + n
  pub number : IsNumber (take n (drop before bytes))
  pub small : number_value (take n (drop before bytes)) ≤ most_number

abbrev pub IsNumberAt : List ℕ → ℕ → Span → Type 0
IsNumberAt bytes at span = span.kind ≡ kinds.Number → NumberAt bytes at span

token_is : (k : Kind) (at n : ℕ) (span : Span) → token k at n ≡ Ok (Some span) → (span.kind ≡ k) × (span.at ≡ at) × (span.end ≡ at + n)
token_is k at n span e =
    let same : record { kind = k; at = at; end = at + n } ≡ span = cc in
    (sym (ap (λ (s : Span). s.kind) same), sym (ap (λ (s : Span). s.at) same), sym (ap (λ (s : Span). s.end) same))

-- words, texts and marks are no numbers
no_word : (o : Option Keyword) → kind_of o ≡ kinds.Number → ⊥
no_word None h = cc
no_word (Some k) h = cc

word_at : (bytes : List ℕ) (at : ℕ) (span : Span) → IsWordAnswer bytes at (Ok (Some span)) → IsNumberAt bytes at span
word_at bytes at span h k = absurd (no_word (keyword_of (take h.n bytes)) (sym (token_is (word_kind (take h.n bytes)) at h.n span (sym h.answer_is)).0 ∙ k))

no_text : (at n : ℕ) (span : Span) → token kinds.Text at n ≡ Ok (Some span) → span.kind ≡ kinds.Number → ⊥
no_text at n span e k = let t = (token_is kinds.Text at n span e).0 in cc

text_at : (quote : ℕ) (inside bytes : List ℕ) (at : ℕ) (span : Span) → IsTextAnswer quote inside at (Ok (Some span)) → IsNumberAt bytes at span
text_at quote inside bytes at span h k =
    absurd (⊎_elim
    (λ (_, e). ⊎_elim (λ (_, d). no_text at (h.good + 2) span d k) (λ (_, d). cc)
    (chosen (begins (λ c. eqb c quote) (drop h.good inside)) (token kinds.Text at (h.good + 2)) (Err (BadChar (at + 1 + h.good))) (Ok (Some span)) e))
    (λ (_, e). cc)
    (chosen (begins (λ c. eqb c quote) (drop h.n inside)) (cond (begins (λ c. eqb c quote) (drop h.good inside)) (token kinds.Text at (h.good + 2)) (Err (BadChar (at + 1 + h.good)))) (Err (OpenText at)) (Ok (Some span)) (sym h.answer_is)))

mark_is : (bytes : List ℕ) (at : ℕ) (span : Span) (o : Option Mark) → Ok (Some span) ≡ mark_answer o at → IsNumberAt bytes at span
mark_is bytes at span None h k = absurd (cc)
mark_is bytes at span (Some m) h k = let t = (token_is (kinds.Mark m) at (length (mark_text m)) span (sym h)).0 in absurd (cc)

not_greater : (a b : ℕ) → ltb a b ≡ false → b ≤ a
not_greater a b h = grind (arith, nat_tests)

number_at : (bytes : List ℕ) (at : ℕ) (span : Span) → IsNumberAnswer bytes at (Ok (Some span)) → IsNumberAt bytes at span
number_at bytes at span h k =
    ⊎_elim
    (λ (_, e). absurd (cc))
    (λ (small, e). ⊎_elim (λ (_, d). absurd (cc))
    (λ (_, d).
    let t = token_is kinds.Number at h.n span d in
    record { before = 0; n = h.n; start = t.1 ∙ omega arith; stop = t.2 ∙ omega arith; number = h.longest.holds; small = not_greater most_number (number_value (take h.n bytes)) small })
    (chosen (begins is_letter_or_digit (drop h.n bytes)) (Err (BadChar (at + h.n))) (token kinds.Number at h.n) (Ok (Some span)) e))
    (chosen (ltb most_number (number_value (take h.n bytes))) (Err (LongNumber at)) (cond (begins is_letter_or_digit (drop h.n bytes)) (Err (BadChar (at + h.n))) (token kinds.Number at h.n)) (Ok (Some span)) (sym h.answer_is))

stands_at : (bytes : List ℕ) (at : ℕ) (span : Span) (o : Opening) → StandsBy o bytes at (Ok (Some span)) → IsNumberAt bytes at span
stands_at bytes at span opens.End h k = absurd (cc)
stands_at bytes at span opens.Blank h k = absurd h
stands_at bytes at span opens.LineComment h k = absurd h
stands_at bytes at span opens.BlockComment h k = let e = h.1 in absurd (cc)
stands_at bytes at span opens.Quote h k = text_at (get_or bytes 0 0) (drop 1 bytes) bytes at span h k
stands_at bytes at span opens.Digit h k = number_at bytes at span h k
stands_at bytes at span opens.Letter h k = word_at bytes at span h k
stands_at bytes at span opens.Other h k = mark_is bytes at span (mark_at bytes) h k

-- the same behind n more bytes
number_behind : (bytes : List ℕ) (at n : ℕ) (span : Span) → NumberAt (drop n bytes) (at + n) span → NumberAt bytes at span
number_behind bytes at n span w = record {
  before = n + w.before;
  n = w.n;
  start = w.start ∙ omega arith;
  stop = w.stop ∙ omega arith;
  number = subst (λ xs. IsNumber (take w.n xs)) (drop-drop w.before n bytes) w.number;
  small = subst (λ xs. number_value (take w.n xs) ≤ most_number) (drop-drop w.before n bytes) w.small;
}

-- where the bytes from a place on give a number, it is one
pub gives_number : (bytes : List ℕ) (at : ℕ) (answer : Answer) → Gives bytes at answer → (span : Span) → answer ≡ Ok (Some span) → IsNumberAt bytes at span
gives_number bytes at answer (skip n separator rest) span e k = number_behind bytes at n span (gives_number (drop n bytes) (at + n) answer rest span e k)
gives_number bytes at answer (here stands) span e k = stands_at bytes at span (opening_of bytes) (subst (λ a. Stands bytes at a) e stands) k
