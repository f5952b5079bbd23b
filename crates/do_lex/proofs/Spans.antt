-- Where tokens stand: behind the place from which they are read, between two ASCII bytes.
use Rattle.std.proofs.Common.{◌≡◌, ℕ, zero, suc, ◌+◌, ◌-◌, ◌<◌, ◌≤◌, Bool, true, cond, ◌&&◌, List, [], ◌∷◌, length, get_or, take, drop, Option, Some, None, Ok, Err, ⊎_elim, refl, sym, ◌∙◌, ap, subst, arith, eqb, eqb-true, ltb, ltb-true}
use Rattle.std.specs.Char.{is_ascii_digit}
use Rattle.std.specs.List.{list_all, find, starts_with}
use Rattle.std.specs.Str.{bytes_eq}
use Rattle.std.proofs.lemmas.Slice.Eq.{bytes_eq-Decides}
use Rattle.std.proofs.lemmas.Bool.{and_parts, false≢true}
use Rattle.std.proofs.lemmas.Bool.Decides.{nat_tests}
use Rattle.std.proofs.lemmas.List.{length-drop, length-take, length-take-le, get_or-drop, get_or-take, drop-take, take-take}
use Rattle.std.specs.List.{slice_range}
use Rattle.do_lex.specs.Bytes.{is_quote, is_letter_or_digit, is_word_start, is_word_byte}
use Rattle.do_lex.specs.Kind.{word_kind, mark_at, mark_text, marks}
use Rattle.do_value.specs.Limits.{most_number}
use Rattle.do_lex.specs.Lexemes.{IsWord, IsNumber, number_value}
use Rattle.do_lex.specs.Next.{Answer, opening_of, begins, token, IsWordAnswer, IsNumberAnswer, IsTextAnswer, mark_answer, Stands, StandsBy, Gives}
use Rattle.do_lex.specs.Next.Gives.{skip, here}
use Rattle.do_lex.specs.declared.kind.Kind.{Kind}
use Rattle.do_lex.specs.declared.kind.Kind.TheVariants as kinds
use Rattle.do_lex.specs.declared.kind.Mark.{Mark}
use Rattle.do_lex.specs.declared.kind.Mark.TheVariants as mark
use Rattle.do_lex.specs.declared.pieces.Span.{Span}
use Rattle.do_lex.specs.declared.pieces.Opening.{Opening}
use Rattle.do_lex.specs.declared.pieces.Opening.TheVariants as opens
use Rattle.do_lex.specs.declared.fault.LexFault.TheVariants.{BadChar, OpenText, LongNumber}
use Rattle.do_lex.proofs.Openings.{chosen, quote_first}

-- the span lies in the bytes from a place on, and its first and its last byte are ASCII
pub record IsWithin (bytes : List ℕ) (at : ℕ) (span : Span) : Type 0 where
  pub before : ℕ
  pub more : ℕ
  pub start : span.at ≡ at + before
  pub stop : span.end ≡ at + before + more + 1
  pub within : before + more + 1 ≤ length bytes
  pub first : get_or bytes before 0 < 128
  pub last : get_or bytes (before + more) 0 < 128

-- the same behind n more bytes
IsWithin-drop : (bytes : List ℕ) (at n : ℕ) (span : Span) → IsWithin (drop n bytes) (at + n) span → IsWithin bytes at span
IsWithin-drop bytes at n span w = record {
  before = n + w.before;
  more = w.more;
  start = w.start ∙ omega arith;
  stop = w.stop ∙ omega arith;
  within = omega (arith, w.within, length-drop n bytes);
  first = subst (λ b. b < 128) (get_or-drop n bytes w.before 0) w.first;
  last = subst (λ i. get_or bytes i 0 < 128) (sums n w.before w.more) (subst (λ b. b < 128) (get_or-drop n bytes (w.before + w.more) 0) w.last);
}
  where
    sums : (a b c : ℕ) → a + (b + c) ≡ a + b + c
    sums a b c = omega arith

-- a token at the front, of k + 1 bytes
IsWithin-front : (bytes : List ℕ) (at k : ℕ) (span : Span) → span.at ≡ at → span.end ≡ at + (k + 1) → k + 1 ≤ length bytes → get_or bytes 0 0 < 128 → get_or bytes k 0 < 128 → IsWithin bytes at span
IsWithin-front bytes at k span start stop within first last = record {
  before = 0;
  more = k;
  start = start ∙ omega arith;
  stop = stop ∙ omega arith;
  within = omega arith;
  first = first;
  last = subst (λ i. get_or bytes i 0 < 128) (zeroed k) last;
}
  where
    zeroed : (i : ℕ) → i ≡ 0 + i
    zeroed i = omega arith

-- each of the bytes that pass is ASCII, where all that pass are
all_small : (p : ℕ → Bool) → ((b : ℕ) → p b ≡ true → b < 128) → (xs : List ℕ) → list_all p xs ≡ true → (i : ℕ) → get_or xs i 0 < 128
all_small p small [] h i = omega arith
all_small p small (x ∷ xs) h zero = small x (and_parts (p x) (list_all p xs) h).0
all_small p small (x ∷ xs) h (suc i) = all_small p small xs (and_parts (p x) (list_all p xs) h).1 i

word_start_small : (b : ℕ) → is_word_start b ≡ true → b < 128
word_start_small b h = grind (arith, nat_tests)

word_small : (b : ℕ) → is_word_byte b ≡ true → b < 128
word_small b h = grind (arith, nat_tests)

digit_small : (b : ℕ) → is_ascii_digit b ≡ true → b < 128
digit_small b h = grind (arith, nat_tests)

quote_small : (b : ℕ) → is_quote b ≡ true → b < 128
quote_small b h = grind (arith, nat_tests)

-- a word has a byte at least, and all its bytes are ASCII
word_bytes : (xs : List ℕ) → IsWord xs → (0 < length xs) × ((i : ℕ) → get_or xs i 0 < 128)
word_bytes [] h = absurd h
word_bytes (b ∷ bs) h = (omega arith, each)
  where
    each : (i : ℕ) → get_or (b ∷ bs) i 0 < 128
    each zero = word_start_small b h.0
    each (suc i) = all_small is_word_byte word_small bs h.1 i

number_bytes : (xs : List ℕ) → IsNumber xs → (0 < length xs) × ((i : ℕ) → get_or xs i 0 < 128)
number_bytes [] h = absurd h
number_bytes (b ∷ bs) h = (omega arith, each)
  where
    each : (i : ℕ) → get_or (b ∷ bs) i 0 < 128
    each zero = digit_small b h.0
    each (suc i) = all_small is_ascii_digit digit_small bs h.1 i

mark_bytes : (m : Mark) → (ltb 0 (length (mark_text m)) && list_all (λ b. ltb b 128) (mark_text m)) ≡ true
mark_bytes m = elim m as (λ k. (ltb 0 (length (mark_text k)) && list_all (λ b. ltb b 128) (mark_text k)) ≡ true) [ mark.Same ↦ refl | _ ↦ refl ]

-- the front of n bytes is a token, where it has ASCII bytes alone
front_within : (bytes : List ℕ) (at n : ℕ) (span : Span) → n ≤ length bytes → (0 < length (take n bytes)) × ((i : ℕ) → get_or (take n bytes) i 0 < 128) → span.at ≡ at → span.end ≡ at + n → IsWithin bytes at span
front_within bytes at n span within small start stop =
    let len : length (take n bytes) ≡ n = length-take-le n bytes within in
    let some : 0 < n = omega (arith, small.0) in
    let pred : n - 1 + 1 ≡ n = omega arith in
    IsWithin-front bytes at (n - 1) span start (rw pred stop) (omega arith)
    (subst (λ b. b < 128) (get_or-take n bytes 0 0 some) (small.1 0))
    (let lt : n - 1 < n = omega arith in subst (λ b. b < 128) (get_or-take n bytes (n - 1) 0 lt) (small.1 (n - 1)))

-- where the token of a kind stands
token_span : (kind : Kind) (at n : ℕ) (span : Span) → token kind at n ≡ Ok (Some span) → (span.at ≡ at) × (span.end ≡ at + n)
token_span kind at n span e =
    let same : record { kind = kind; at = at; end = at + n } ≡ span = cc in
    (sym (ap (λ (s : Span). s.at) same), sym (ap (λ (s : Span). s.end) same))

-- what begins what is left of a list stands in it
begins_at : (p : ℕ → Bool) (n : ℕ) (xs : List ℕ) → begins p (drop n xs) ≡ true → (n < length xs) × (p (get_or xs n 0) ≡ true)
begins_at p zero [] h = absurd (false≢true h)
begins_at p (suc n) [] h = absurd (false≢true h)
begins_at p zero (x ∷ xs) h = (omega arith, h)
begins_at p (suc n) (x ∷ xs) h = let rest = begins_at p n xs h in (omega (arith, rest.0), rest.1)

-- what is found passes
find_passes : {X : Type 0} (p : X → Bool) (xs : List X) (y : X) → find p xs ≡ Some y → p y ≡ true
find_passes p [] y h = cc
find_passes p (x ∷ xs) y h =
    ⊎_elim (λ (t, e). let same : x ≡ y = cc in subst (λ z. p z ≡ true) same t) (λ (_, e). find_passes p xs y e) (chosen (p x) (Some x) (find p xs) (Some y) h)

-- a mark's token
mark_within : (bytes : List ℕ) (at : ℕ) (span : Span) (o : Option Mark) → mark_at bytes ≡ o → Ok (Some span) ≡ mark_answer o at → IsWithin bytes at span
mark_within bytes at span None is h = cc
mark_within bytes at span (Some m) is h =
    let n = length (mark_text m) in
    let starts : bytes_eq (mark_text m) (take n bytes) ≡ true = find_passes (λ k. starts_with eqb bytes (mark_text k)) marks m is in
    let same : mark_text m ≡ take n bytes = (bytes_eq-Decides (mark_text m) (take n bytes)).0 starts in
    let test = and_parts (ltb 0 n) (list_all (λ b. ltb b 128) (mark_text m)) (mark_bytes m) in
    let within : n ≤ length bytes = omega (arith, ap length same, length-take n bytes) in
    let some : 0 < length (mark_text m) = ltb-true 0 n test.0 in
    let small = all_small (λ b. ltb b 128) (λ b. ltb-true b 128) (mark_text m) test.1 in
    let stands = token_span (kinds.Mark m) at n span (sym h) in
    front_within bytes at n span within (subst (λ (xs : List ℕ). (0 < length xs) × ((i : ℕ) → get_or xs i 0 < 128)) same (some, small)) stands.0 stands.1

-- a text's token
text_within : (bytes : List ℕ) (at : ℕ) (span : Span) → opening_of bytes ≡ opens.Quote → IsTextAnswer (get_or bytes 0 0) (drop 1 bytes) at (Ok (Some span)) → IsWithin bytes at span
text_within [] at span is h = cc
text_within (b ∷ bs) at span is h =
    ⊎_elim
    (λ (_, e). ⊎_elim
    (λ (closed, d).
    let stands = token_span kinds.Text at (h.good + 2) span d in
    let last = begins_at (λ c. eqb c b) h.good bs closed in
    let small : b < 128 = quote_small b (quote_first b bs is) in
    let same : get_or bs h.good 0 ≡ b = eqb-true (get_or bs h.good 0) b last.1 in
    let index : h.good + 1 ≡ suc h.good = omega arith in
    let in_range : h.good < length bs = last.0 in
    IsWithin-front (b ∷ bs) at (h.good + 1) span stands.0 (stands.1 ∙ omega arith) (omega arith) small
    (rw index (subst (λ c. c < 128) (sym same) small)))
    (λ (_, d). cc)
    (chosen (begins (λ c. eqb c b) (drop h.good bs)) (token kinds.Text at (h.good + 2)) (Err (BadChar (at + 1 + h.good))) (Ok (Some span)) e))
    (λ (_, e). cc)
    (chosen (begins (λ c. eqb c b) (drop h.n bs)) (cond (begins (λ c. eqb c b) (drop h.good bs)) (token kinds.Text at (h.good + 2)) (Err (BadChar (at + 1 + h.good)))) (Err (OpenText at)) (Ok (Some span)) (sym h.answer_is))

-- a number's token
number_within : (bytes : List ℕ) (at : ℕ) (span : Span) → IsNumberAnswer bytes at (Ok (Some span)) → IsWithin bytes at span
number_within bytes at span h =
    ⊎_elim
    (λ (_, e). cc)
    (λ (_, e). ⊎_elim (λ (_, d). cc)
    (λ (_, d).
    let stands = token_span kinds.Number at h.n span d in
    front_within bytes at h.n span h.longest.in_range (number_bytes (take h.n bytes) h.longest.holds) stands.0 stands.1)
    (chosen (begins is_letter_or_digit (drop h.n bytes)) (Err (BadChar (at + h.n))) (token kinds.Number at h.n) (Ok (Some span)) e))
    (chosen (ltb most_number (number_value (take h.n bytes))) (Err (LongNumber at)) (cond (begins is_letter_or_digit (drop h.n bytes)) (Err (BadChar (at + h.n))) (token kinds.Number at h.n)) (Ok (Some span)) (sym h.answer_is))

-- a word's token
word_within : (bytes : List ℕ) (at : ℕ) (span : Span) → IsWordAnswer bytes at (Ok (Some span)) → IsWithin bytes at span
word_within bytes at span h =
    let stands = token_span (word_kind (take h.n bytes)) at h.n span (sym h.answer_is) in
    front_within bytes at h.n span h.longest.in_range (word_bytes (take h.n bytes) h.longest.holds) stands.0 stands.1

-- the token where no separator comes first
stands_within : (bytes : List ℕ) (at : ℕ) (span : Span) (o : Opening) → opening_of bytes ≡ o → StandsBy o bytes at (Ok (Some span)) → IsWithin bytes at span
stands_within bytes at span opens.End is h = cc
stands_within bytes at span opens.Blank is h = absurd h
stands_within bytes at span opens.LineComment is h = absurd h
stands_within bytes at span opens.BlockComment is h = let e = h.1 in cc
stands_within bytes at span opens.Quote is h = text_within bytes at span is h
stands_within bytes at span opens.Digit is h = number_within bytes at span h
stands_within bytes at span opens.Letter is h = word_within bytes at span h
stands_within bytes at span opens.Other is h = mark_within bytes at span (mark_at bytes) refl h

-- the token that the bytes from a place on give
gives_within : (bytes : List ℕ) (at : ℕ) (answer : Answer) → Gives bytes at answer → (span : Span) → answer ≡ Ok (Some span) → IsWithin bytes at span
gives_within bytes at answer (skip n separator rest) span e = IsWithin-drop bytes at n span (gives_within (drop n bytes) (at + n) answer rest span e)
gives_within bytes at answer (here stands) span e = stands_within bytes at span (opening_of bytes) refl (subst (Stands bytes at) e stands)

-- the token of a script from a place on
pub record IsTokenOf (text : List ℕ) (at : ℕ) (span : Span) : Type 0 where
  pub behind : at ≤ span.at
  pub some : span.at < span.end
  pub within : span.end ≤ length text
  pub first : get_or text span.at 0 < 128
  pub last : get_or text (span.end - 1) 0 < 128

pub IsTokenOf-gives : (text : List ℕ) (at : ℕ) (span : Span) → at ≤ length text → Gives (drop at text) at (Ok (Some span)) → IsTokenOf text at span
IsTokenOf-gives text at span in_range gives =
    let w = gives_within (drop at text) at (Ok (Some span)) gives span refl in
    let len = length-drop at text in
    let final : span.end - 1 ≡ at + (w.before + w.more) = omega (arith, w.stop) in
    record {
      behind = omega (arith, w.start);
      some = omega (arith, w.start, w.stop);
      within = omega (arith, w.stop, w.within, len);
      first = rw w.start (subst (λ b. b < 128) (get_or-drop at text w.before 0) w.first);
      last = rw final (subst (λ b. b < 128) (get_or-drop at text (w.before + w.more) 0) w.last);
    }

-- what the front of a script has of its token
pub record IsTokenIn (front : List ℕ) (span : Span) : Type 0 where
  pub some : span.at < span.end
  pub within : span.end ≤ length front
  pub first : get_or front span.at 0 < 128
  pub last : get_or front (span.end - 1) 0 < 128

pub IsTokenIn-front : (text front : List ℕ) (n at : ℕ) (span : Span) → front ≡ take n text → span.end ≤ n → n ≤ length text → IsTokenOf text at span → IsTokenIn front span
IsTokenIn-front text front n at span is within short t = subst (λ xs. IsTokenIn xs span) (sym is) (record {
  some = t.some;
  within = omega (arith, length-take-le n text short);
  first = (let before : span.at < n = omega (arith, t.some) in rw (get_or-take n text span.at 0 before) t.first);
  last = (let before : span.end - 1 < n = omega (arith, t.some) in rw (get_or-take n text (span.end - 1) 0 before) t.last);
})

-- a part of the front of a script is a part of the script
pub slice_range-front : (text front : List ℕ) (n a b : ℕ) → front ≡ take n text → a ≤ b → b ≤ n → slice_range front a b ≡ slice_range text a b
slice_range-front text front n a b is le within =
    let sum : a + (n - a) ≡ n = omega arith in
    let back : drop a (take n text) ≡ take (n - a) (drop a text) = subst (λ k. drop a (take k text) ≡ take (n - a) (drop a text)) sum (drop-take a (n - a) text) in
    ap (λ xs. take (b - a) (drop a xs)) is ∙ ap (take (b - a)) back ∙ take-take (b - a) (n - a) (drop a text) (omega arith)
