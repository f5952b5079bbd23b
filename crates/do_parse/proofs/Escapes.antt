-- Texts with escapes, byte by byte.
use Rattle.std.proofs.Common.{if◌then◌else◌, ◌≡◌, ◌≢◌, ◌==◌, ◌+◌, ◌-◌, ◌<◌, ◌≤◌, ℕ, zero, suc, Bool, true, false, List, [], ◌∷◌, ◌++◌, length, drop, refl, sym, ◌∙◌, ap, subst, arith, append_assoc}
use Rattle.std.specs.Prelude.{slice_index}
use Rattle.std.proofs.lemmas.Bool.Decides.{nat_tests}
use Rattle.do_lex.specs.Lexemes.{escaped, text_value}

same_test : (b : ℕ) → b ≡ 92 → (b == 92) ≡ true
same_test b h = grind (arith, nat_tests)

other_test : (b : ℕ) → b ≢ 92 → (b == 92) ≡ false
other_test b h = grind (arith, nat_tests)

-- an escape, a byte that begins none, the last byte
pub first_escape : (xs : List ℕ) → 1 < length xs → slice_index xs 0 ≡ 92 → text_value xs ≡ escaped (slice_index xs 1) ∷ text_value (drop 2 xs)
first_escape [] h e = absurd (omega (arith, h))
first_escape (b ∷ []) h e = absurd (omega (arith, h))
first_escape (b ∷ x ∷ xs) h e = ap (λ t. if t then escaped x ∷ text_value xs else b ∷ text_value (x ∷ xs)) (same_test b e)

pub first_plain : (xs : List ℕ) → 0 < length xs → slice_index xs 0 ≢ 92 → text_value xs ≡ slice_index xs 0 ∷ text_value (drop 1 xs)
first_plain [] h e = absurd (omega (arith, h))
first_plain (b ∷ []) h e = refl
first_plain (b ∷ x ∷ xs) h e = ap (λ t. if t then escaped x ∷ text_value xs else b ∷ text_value (x ∷ xs)) (other_test b e)

pub first_alone : (xs : List ℕ) → 0 < length xs → length xs ≤ 1 → text_value xs ≡ slice_index xs 0 ∷ text_value (drop 1 xs)
first_alone [] h e = absurd (omega (arith, h))
first_alone (b ∷ []) h e = refl
first_alone (b ∷ x ∷ xs) h e = absurd (omega (arith, e))

drop_none : (k : ℕ) → drop {A = ℕ} k [] ≡ []
drop_none zero = refl
drop_none (suc k) = refl

drop_drop : (n m : ℕ) (xs : List ℕ) → drop n (drop m xs) ≡ drop (m + n) xs
drop_drop n zero xs = let e : zero + n ≡ n = omega arith in ap (λ k. drop k xs) (sym e)
drop_drop n (suc m) [] = drop_none n ∙ sym (drop_none (suc m + n))
drop_drop n (suc m) (x ∷ xs) = let e : suc m + n ≡ suc (m + n) = omega arith in drop_drop n m xs ∙ ap (λ k. drop k (x ∷ xs)) (sym e)

-- One byte more was read.
pub read_more_bytes : (all done more : List ℕ) (at n b : ℕ) → text_value all ≡ done ++ text_value (drop at all) → more ≡ done ++ b ∷ [] → text_value (drop at all) ≡ b ∷ text_value (drop n (drop at all)) → text_value all ≡ more ++ text_value (drop (at + n) all)
read_more_bytes all done more at n b h m e =
    h ∙ ap (λ xs. done ++ xs) (e ∙ ap (λ xs. b ∷ text_value xs) (drop_drop n at all)) ∙ sym (append_assoc done (b ∷ []) (text_value (drop (at + n) all))) ∙ ap (λ xs. xs ++ text_value (drop (at + n) all)) (sym m)
