-- A token stands at the front of bytes whose rest doesn't join it.
use Rattle.std.proofs.Common.{◌≡◌, ◌+◌, ◌≤◌, ℕ, Bool, true, false, cond, List, [], ◌∷◌, ◌++◌, length, take, drop, inl, inr, Err, refl, sym, ◌∙◌, ap, subst, arith, append_assoc, eqb, ltb}
use Rattle.std.specs.Char.{is_ascii_digit}
use Rattle.std.specs.List.{list_all, prefix_len}
use Rattle.std.proofs.Math.Seq.{take-append_seam, drop-append_seam}
use Rattle.std.proofs.lemmas.Bool.{false≢true, and_parts, and_from, or_left}
use Rattle.std.proofs.lemmas.Bool.Decides.{nat_tests}
use Rattle.std.proofs.lemmas.List.{length-append}
use Rattle.do_lex.specs.Bytes.{is_blank, is_in_line, is_letter_or_digit, is_quote, is_word_byte, is_word_start}
use Rattle.do_lex.specs.Kind.{mark_text, word_kind}
use Rattle.do_value.specs.Limits.{most_number}
use Rattle.do_lex.specs.Lexemes.{IsInside, IsNumber, IsUnit, IsWord, is_escape, number_value}
use Rattle.do_lex.specs.Lexemes.IsInside.{none, plain, escape}
use Rattle.do_lex.specs.Longest.{IsLongest}
use Rattle.do_lex.specs.Next.{Answer, Stands, StandsBy, after_slash, begins, mark_answer, number_answer, opening_of, text_answer, token}
use Rattle.do_lex.specs.declared.kind.Kind.{Kind}
use Rattle.do_lex.specs.declared.kind.Kind.TheVariants as kind
use Rattle.do_lex.specs.declared.fault.LexFault.TheVariants.{BadChar, OpenText, LongNumber}
use Rattle.do_lex.proofs.InsideRuns.{IsLongest-inside}
use Rattle.do_lex.proofs.Runs.{IsLongest-number, IsLongest-zero, IsLongest-word}
use Rattle.do_tree.specs.Print.{needs_space}
use Rattle.do_tree.proofs.Cuttable.{Apart, IsToken, edge_word, mark_stands}
use Rattle.do_tree.proofs.Cuttable.IsToken.{of_mark, of_number, of_text, of_word}
use Rattle.do_tree.proofs.Spelled.{IsOneQuote}

-- what stands by an opening stands
pub stands_by : (bytes : List ℕ) (at : ℕ) (answer : Answer) (other : List ℕ) → opening_of bytes ≡ opening_of other → StandsBy (opening_of other) bytes at answer → Stands bytes at answer
stands_by bytes at answer other e h = subst (λ x. StandsBy x bytes at answer) (sym e) h

-- a run ends where what follows doesn't pass
run_is : (p : ℕ → Bool) (xs more : List ℕ) → list_all p xs ≡ true → begins p more ≡ false → prefix_len p (xs ++ more) ≡ length xs
run_is p [] [] a b = refl
run_is p [] (y ∷ ys) a b = rw b refl
run_is p (x ∷ xs) more a b =
    let parts = and_parts (p x) (list_all p xs) a in
    let rest = run_is p xs more parts.1 b in
    rw parts.0 (omega (arith, rest))

-- a letter and a digit open a word and a number
pub letter_opens : (b : ℕ) (bs : List ℕ) → is_word_start b ≡ true → opening_of (b ∷ bs) ≡ (opening_of (97 ∷ []))
letter_opens b bs h =
    let blank : is_blank b ≡ false = grind (arith, nat_tests) in
    let quote : is_quote b ≡ false = grind (arith, nat_tests) in
    let digit : is_ascii_digit b ≡ false = grind (arith, nat_tests) in
    λ i. cond (blank i) (opening_of (32 ∷ [])) (cond (quote i) (opening_of (34 ∷ [])) (cond (digit i) (opening_of (48 ∷ [])) (cond (h i) (opening_of (97 ∷ [])) (cond (eqb b 47) (after_slash bs) (opening_of (40 ∷ []))))))

pub digit_opens : (b : ℕ) (bs : List ℕ) → is_ascii_digit b ≡ true → opening_of (b ∷ bs) ≡ (opening_of (48 ∷ []))
digit_opens b bs h =
    let blank : is_blank b ≡ false = grind (arith, nat_tests) in
    let quote : is_quote b ≡ false = grind (arith, nat_tests) in
    λ i. cond (blank i) (opening_of (32 ∷ [])) (cond (quote i) (opening_of (34 ∷ [])) (cond (h i) (opening_of (48 ∷ [])) (cond (is_word_start b) (opening_of (97 ∷ [])) (cond (eqb b 47) (after_slash bs) (opening_of (40 ∷ []))))))

pub quote_opens : (q : ℕ) (bs : List ℕ) → IsOneQuote q → opening_of (q ∷ bs) ≡ (opening_of (34 ∷ []))
quote_opens q bs (inl e) = ap (λ c. opening_of (c ∷ bs)) e
quote_opens q bs (inr e) = ap (λ c. opening_of (c ∷ bs)) e

-- a word
word_stands : (text more : List ℕ) (at : ℕ) → IsWord text → begins is_word_byte more ≡ false → Stands (text ++ more) at (token (word_kind text) at (length text))
word_stands [] more at w h = absurd w
word_stands (b ∷ bs) more at w h =
    let text = b ∷ bs in
    let all : list_all is_word_byte text ≡ true = and_from (is_word_byte b) (list_all is_word_byte bs) (or_left (is_word_start b) (is_ascii_digit b) w.0) w.1 in
    let n : prefix_len is_word_byte (text ++ more) ≡ length text = run_is is_word_byte text more all h in
    let longest : IsLongest IsWord (text ++ more) (length text) = subst (IsLongest IsWord (text ++ more)) n (IsLongest-word b (bs ++ more) w.0) in
    let same : text ≡ take (length text) (text ++ more) = sym (take-append_seam text more) in
    stands_by (text ++ more) at (token (word_kind text) at (length text)) (97 ∷ []) (letter_opens b (bs ++ more) w.0)
    (record { n = length text; longest = longest; answer_is = ap (λ xs. token (word_kind xs) at (length text)) same })

no_digit_of : (more : List ℕ) → begins is_letter_or_digit more ≡ false → begins is_ascii_digit more ≡ false
no_digit_of [] h = refl
no_digit_of (b ∷ bs) h = grind (arith, nat_tests)

not_less : (a b : ℕ) → a ≤ b → ltb b a ≡ false
not_less a b h = grind (arith, nat_tests)

escape_in_line : (e : ℕ) → is_escape e ≡ true → is_in_line e ≡ true
escape_in_line e h = grind (arith, nat_tests)

same_is : (q : ℕ) → eqb q q ≡ true
same_is q = grind (arith, nat_tests)

same_not : (q : ℕ) → eqb q q ≡ false → ⊥
same_not q h = false≢true (sym h ∙ same_is q)

-- a number
longest_number : (b : ℕ) (bs more : List ℕ) → IsNumber (b ∷ bs) → begins is_letter_or_digit more ≡ false → IsLongest IsNumber (b ∷ (bs ++ more)) (length (b ∷ bs))
longest_number b bs more w h = by (eqb b 48) refl
  where
    no_digit : begins is_ascii_digit more ≡ false
    no_digit = no_digit_of more h

    by : (c : Bool) → eqb b 48 ≡ c → IsLongest IsNumber (b ∷ (bs ++ more)) (length (b ∷ bs))
    by true e =
        let zero_first : b ≡ 48 = grind (arith, nat_tests) in
        let alone : bs ≡ [] = w.2 zero_first in
        subst (λ c. IsLongest IsNumber (c ∷ (bs ++ more)) (length (b ∷ bs))) (sym zero_first)
        (subst (λ n. IsLongest IsNumber (48 ∷ (bs ++ more)) n) (omega (arith, ap length alone)) (IsLongest-zero (bs ++ more)))
    by false e =
        let all : list_all is_ascii_digit (b ∷ bs) ≡ true = and_from (is_ascii_digit b) (list_all is_ascii_digit bs) w.0 w.1 in
        let n : prefix_len is_ascii_digit (b ∷ (bs ++ more)) ≡ length (b ∷ bs) = run_is is_ascii_digit (b ∷ bs) more all no_digit in
        subst (IsLongest IsNumber (b ∷ (bs ++ more))) n (IsLongest-number b (bs ++ more) w.0 (λ z. grind (arith, nat_tests)))

number_stands : (text more : List ℕ) (at : ℕ) → IsNumber text → number_value text ≤ most_number → begins is_letter_or_digit more ≡ false
    → Stands (text ++ more) at (token kind.Number at (length text))
number_stands [] more at w small h = absurd w
number_stands (b ∷ bs) more at w small h =
    let text = b ∷ bs in
    let front : take (length text) (text ++ more) ≡ text = take-append_seam text more in
    let back : drop (length text) (text ++ more) ≡ more = drop-append_seam text more in
    let not_long : ltb most_number (number_value (take (length text) (text ++ more))) ≡ false = ap (λ xs. ltb most_number (number_value xs)) front ∙ not_less (number_value text) most_number small in
    let no_letter : begins is_letter_or_digit (drop (length text) (text ++ more)) ≡ false = ap (begins is_letter_or_digit) back ∙ h in
    let e : number_answer (text ++ more) at (length text) ≡ token kind.Number at (length text) =
    (λ i. cond (not_long i) (Err (LongNumber at)) (cond (no_letter i) (Err (BadChar (at + length text))) (token kind.Number at (length text)))) in
    stands_by (text ++ more) at (token kind.Number at (length text)) (48 ∷ []) (digit_opens b (bs ++ more) w.0)
    (record { n = length text; longest = longest_number b bs more w h; answer_is = sym e })

-- a text
known_in_line : (q : ℕ) {xs : List ℕ} → IsInside q is_escape xs → IsInside q is_in_line xs
known_in_line q none = none
known_in_line q (plain p x) = plain p (known_in_line q x)
known_in_line q (escape {e = e} s g x) = escape s (escape_in_line e g) (known_in_line q x)

no_unit : (q : ℕ) (escapes : ℕ → Bool) (more : List ℕ) → IsOneQuote q → (k : ℕ) → IsUnit q escapes (q ∷ more) k → ⊥
no_unit q escapes more quote k (inl u) = let e : eqb q q ≡ false = u.2.no_quote in same_not q e
no_unit q escapes more (inl e) k (inr u) = absurd (omega (arith, u.2, e))
no_unit q escapes more (inr e) k (inr u) = absurd (omega (arith, u.2, e))

longest_inside : (q : ℕ) (escapes : ℕ → Bool) (inside more : List ℕ) → IsOneQuote q → IsInside q escapes inside → IsLongest (IsInside q escapes) (inside ++ q ∷ more) (length inside)
longest_inside q escapes inside more quote x =
    IsLongest-inside q escapes (inside ++ q ∷ more) (length inside) (omega (arith, length-append inside (q ∷ more)))
    (subst (IsInside q escapes) (sym (take-append_seam inside (q ∷ more))) x)
    (λ k u. no_unit q escapes more quote k (subst (λ xs. IsUnit q escapes xs k) (drop-append_seam inside (q ∷ more)) u))

text_stands : (q : ℕ) (inside more : List ℕ) (at : ℕ) → IsOneQuote q → IsInside q is_escape inside
    → Stands (q ∷ (inside ++ q ∷ more)) at (token kind.Text at (length (q ∷ (inside ++ q ∷ []))))
text_stands q inside more at quote x =
    let bytes = inside ++ q ∷ more in
    let n = length inside in
    let behind : drop n bytes ≡ q ∷ more = drop-append_seam inside (q ∷ more) in
    let closed : begins (λ b. eqb b q) (drop n bytes) ≡ true = ap (begins (λ b. eqb b q)) behind ∙ same_is q in
    let size : length (q ∷ (inside ++ q ∷ [])) ≡ n + 2 = omega (arith, length-append inside (q ∷ [])) in
    let e : text_answer q bytes at n n ≡ token kind.Text at (n + 2) =
    (λ i. cond (closed i) (cond (closed i) (token kind.Text at (n + 2)) (Err (BadChar (at + 1 + n)))) (Err (OpenText at))) in
    stands_by (q ∷ bytes) at (token kind.Text at (length (q ∷ (inside ++ q ∷ [])))) (34 ∷ []) (quote_opens q bytes quote)
    (record {
      n = n;
      longest = longest_inside q is_in_line inside more quote (known_in_line q x);
      good = n;
      longest_good = longest_inside q is_escape inside more quote x;
      answer_is = ap (token kind.Text at) size ∙ sym e;
    })

-- A token stands at the front.
pub token_stands : {k : Kind} {text : List ℕ} → IsToken k text → (more : List ℕ) (at : ℕ) → Apart k more → Stands (text ++ more) at (token k at (length text))
token_stands (of_mark m) more at a =
    let h = mark_stands m more a in
    stands_by (mark_text m ++ more) at (token (kind.Mark m) at (length (mark_text m))) (40 ∷ []) h.0 (ap (λ o. mark_answer o at) (sym h.1))
token_stands (of_word {text} w) more at a = word_stands text more at w (subst (λ e. needs_space e more ≡ false) (edge_word text) a.no_space)
token_stands (of_number {text} w small) more at a = number_stands text more at w small a.no_space
token_stands (of_text {q} {inside} quote x u) more at a =
    subst (λ xs. Stands xs at (token kind.Text at (length (q ∷ (inside ++ q ∷ []))))) (ap (λ xs. q ∷ xs) (sym (append_assoc inside (q ∷ []) more))) (text_stands q inside more at quote x)
