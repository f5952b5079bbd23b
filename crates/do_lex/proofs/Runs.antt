-- Runs of bytes that pass a test.
use Rattle.std.proofs.Common.{◌≡◌, ℕ, zero, suc, ◌<◌, ◌≤◌, Bool, true, false, ◌&&◌, List, [], ◌∷◌, length, take, refl, sym, ap, subst, arith, eqb, eqb-true, eq-eqb}
use Rattle.std.proofs.Math.Numerals.{one-add}
use Rattle.std.specs.Prelude.{IsTrue}
use Rattle.std.specs.List.{list_all, prefix_len, starts_with}
use Rattle.std.specs.Char.{is_ascii_digit}
use Rattle.std.proofs.lemmas.Bool.{both_ways, and_from, and_parts, or_left}
use Rattle.std.proofs.lemmas.List.{length-take-le, get_or-take}
use Rattle.std.proofs.lemmas.List.Elements.{All-from_get_or}
use Rattle.std.proofs.lemmas.List.Folds.{list_all_at}
use Rattle.std.proofs.lemmas.List.Sums.{prefix_len-le-length, prefix_len_passes, prefix_len_stops, list_all-from_AllPass}
use Rattle.do_lex.specs.Bytes.{is_in_line, is_word_start, is_word_byte}
use Rattle.do_lex.specs.Lexemes.{IsWord, IsNumber}
use Rattle.do_lex.specs.Longest.{IsLongest}
use Rattle.do_lex.specs.Next.{opening_of, IsSeparator, IsSeparatorBy}
use Rattle.do_lex.specs.declared.pieces.Opening.TheVariants as opens
use Rattle.do_lex.proofs.Openings.{digit_first, letter_first, line_first}

module _ (p : ℕ → Bool) (bytes : List ℕ) where
  -- the run of bytes that pass
  pub run_passes : list_all p (take (prefix_len p bytes) bytes) ≡ true
  run_passes =
      let within = prefix_len-le-length p bytes in
      list_all-from_AllPass p (take (prefix_len p bytes) bytes)
      (All-from_get_or (λ b. p b ≡ true) (take (prefix_len p bytes) bytes) 0
      (λ i lt.
      let before : i < prefix_len p bytes = omega (arith, length-take-le (prefix_len p bytes) bytes within) in
      rw (get_or-take (prefix_len p bytes) bytes i 0 before) (prefix_len_passes p bytes i 0 before)))

  -- no longer front passes
  pub run_stops : (m : ℕ) → prefix_len p bytes < m → m ≤ length bytes → list_all p (take m bytes) ≡ true → ⊥
  run_stops m more within all =
      let stop = prefix_len_stops p bytes 0 (omega arith) in
      both_ways (list_all p (take m bytes))
      (list_all_at p (take m bytes) (prefix_len p bytes) 0 (omega (arith, length-take-le m bytes within))
      (rw (get_or-take m bytes (prefix_len p bytes) 0 more) stop))
      all

  -- the run of bytes that pass is the longest front that does
  pub IsLongest-run : IsLongest (λ xs. IsTrue (list_all p xs)) bytes (prefix_len p bytes)
  IsLongest-run = record { in_range = prefix_len-le-length p bytes; holds = run_passes; longest = run_stops }

-- a word's bytes are word bytes
IsWord-passes : (xs : List ℕ) → IsWord xs → list_all is_word_byte xs ≡ true
IsWord-passes [] h = absurd h
IsWord-passes (b ∷ bs) h = and_from (is_word_byte b) (list_all is_word_byte bs) (or_left (is_word_start b) (is_ascii_digit b) h.0) h.1

-- a number's bytes are digits
IsNumber-passes : (xs : List ℕ) → IsNumber xs → list_all is_ascii_digit xs ≡ true
IsNumber-passes [] h = absurd h
IsNumber-passes (b ∷ bs) h = and_from (is_ascii_digit b) (list_all is_ascii_digit bs) h.0 h.1

-- a run of word bytes that begins as a word is the longest word
pub IsLongest-word : (b : ℕ) (bs : List ℕ) → is_word_start b ≡ true → IsLongest IsWord (b ∷ bs) (prefix_len is_word_byte (b ∷ bs))
IsLongest-word b bs start = record {
  in_range = run.in_range;
  holds = word;
  longest = λ m more within h. run.longest m more within (IsWord-passes (take m (b ∷ bs)) h);
}
  where
    run : IsLongest (λ xs. IsTrue (list_all is_word_byte xs)) (b ∷ bs) (prefix_len is_word_byte (b ∷ bs))
    run = IsLongest-run is_word_byte (b ∷ bs)

    first : is_word_byte b ≡ true
    first = or_left (is_word_start b) (is_ascii_digit b) start

    count : prefix_len is_word_byte (b ∷ bs) ≡ suc (prefix_len is_word_byte bs)
    count = rw first (one-add (prefix_len is_word_byte bs))

    word : IsWord (take (prefix_len is_word_byte (b ∷ bs)) (b ∷ bs))
    word = rw count (start, run_passes is_word_byte bs)

-- a run of digits that begins with one that isn't 0 is the longest number
pub IsLongest-number : (b : ℕ) (bs : List ℕ) → is_ascii_digit b ≡ true → (b ≡ 48 → ⊥) → IsLongest IsNumber (b ∷ bs) (prefix_len is_ascii_digit (b ∷ bs))
IsLongest-number b bs first not_zero = record {
  in_range = run.in_range;
  holds = number;
  longest = λ m more within h. run.longest m more within (IsNumber-passes (take m (b ∷ bs)) h);
}
  where
    run : IsLongest (λ xs. IsTrue (list_all is_ascii_digit xs)) (b ∷ bs) (prefix_len is_ascii_digit (b ∷ bs))
    run = IsLongest-run is_ascii_digit (b ∷ bs)

    count : prefix_len is_ascii_digit (b ∷ bs) ≡ suc (prefix_len is_ascii_digit bs)
    count = rw first (one-add (prefix_len is_ascii_digit bs))

    number : IsNumber (take (prefix_len is_ascii_digit (b ∷ bs)) (b ∷ bs))
    number = rw count (first, run_passes is_ascii_digit bs, λ first_is. absurd (not_zero first_is))

-- 0 is the longest number that begins with 0
pub IsLongest-zero : (bs : List ℕ) → IsLongest IsNumber (48 ∷ bs) 1
IsLongest-zero bs = record { in_range = omega arith; holds = (refl, refl, λ _. refl); longest = longer }
  where
    longer : (m : ℕ) → 1 < m → m ≤ length (48 ∷ bs) → IsNumber (take m (48 ∷ bs)) → ⊥
    longer zero more within h = h
    longer (suc m) more within h =
        let empty : take m bs ≡ [] = h.2 refl in
        omega (arith, length-take-le m bs (omega arith), ap length empty)

-- the longest number at the front, by whether it begins with 0
pub number_by_zero : (bytes : List ℕ) → opening_of bytes ≡ opens.Digit → starts_with eqb bytes (48 ∷ []) ≡ true → IsLongest IsNumber bytes 1
number_by_zero [] is starts = cc
number_by_zero (b ∷ bs) is starts =
    let first : 48 ≡ b = eqb-true 48 b (and_parts (eqb 48 b) true starts).0 in
    subst (λ d. IsLongest IsNumber (d ∷ bs) 1) first (IsLongest-zero bs)

pub number_by_digits : (bytes : List ℕ) → opening_of bytes ≡ opens.Digit → starts_with eqb bytes (48 ∷ []) ≡ false → IsLongest IsNumber bytes (prefix_len is_ascii_digit bytes)
number_by_digits [] is other = cc
number_by_digits (b ∷ bs) is other =
    IsLongest-number b bs (digit_first b bs is)
    (λ first. both_ways (eqb 48 b && true) other (and_from (eqb 48 b) true (eq-eqb 48 b (sym first)) refl))

-- a line's comment has a byte at least, as it begins with a slash
pub line_some : (bytes : List ℕ) → opening_of bytes ≡ opens.LineComment → 0 < prefix_len is_in_line bytes
line_some [] is = cc
line_some (b ∷ bs) is = rw (line_first b bs is) (omega arith)

-- the rest of the line is a separator
pub IsSeparator-line : (bytes : List ℕ) → opening_of bytes ≡ opens.LineComment → IsSeparator bytes (prefix_len is_in_line bytes)
IsSeparator-line bytes is = subst (λ o. IsSeparatorBy o bytes (prefix_len is_in_line bytes)) (sym is) (IsLongest-run is_in_line bytes)

-- the run of word bytes where a letter opens is the longest word
pub word_longest : (bytes : List ℕ) → opening_of bytes ≡ opens.Letter → IsLongest IsWord bytes (prefix_len is_word_byte bytes)
word_longest [] is = cc
word_longest (b ∷ bs) is = IsLongest-word b bs (letter_first b bs is)
