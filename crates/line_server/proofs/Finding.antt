-- Where the first LF stands.
use Rattle.std.proofs.Common.{◌≡◌, ◌<◌, ◌≤◌, ◌+◌, ℕ, zero, suc, List, [], ◌∷◌, ◌++◌, length, take, drop, get_or, Option, Some, None, Bool, true, false, not, ◌==◌, refl, sym, ap, ◌∙◌, arith}
use Rattle.std.specs.Prelude.{slice_index, is_some}
use Rattle.std.specs.List.{list_any}
use Rattle.std.proofs.lemmas.Grind.{common_steps}
use Rattle.std.proofs.lemmas.List.{drop_more}
use Rattle.memchr.specs.Find.{IsFirstByte, Passes, is_byte}
use Rattle.line_server.specs.Cut.{line_end}
use Rattle.line_server.specs.Ends.{begun, has_end, has_no_end, is_between}
use Rattle.line_server.specs.Front.{IsFront}
use Rattle.line_server.specs.declared.front.Front.TheVariants.{Whole, Part}

-- up to a place where no LF stands none does
pub none_up_to : (bytes : List ℕ) (n : ℕ) → n ≤ length bytes → ((k : ℕ) → 0 ≤ k → k < n → Passes (is_byte line_end) bytes k → ⊥) → has_no_end (take n bytes) ≡ true
none_up_to bytes zero le none = refl
none_up_to [] (suc n) le none = refl
none_up_to (b ∷ bs) (suc n) le none =
    let first : (b == line_end) ≡ false = not_so (b == line_end) (none 0 (omega arith) (omega arith)) in
    let rest : has_no_end (take n bs) ≡ true = none_up_to bs n (omega arith) (λ k low high passes. none (suc k) (omega arith) (omega arith) passes) in
    rw (first, rest) refl
  where
    not_so : (test : Bool) → (test ≡ true → ⊥) → test ≡ false
    not_so true never = absurd (never refl)
    not_so false never = refl

-- the bytes around an LF
pub around : (bytes : List ℕ) (n : ℕ) → n < length bytes → Passes (is_byte line_end) bytes n → bytes ≡ take n bytes ++ line_end ∷ drop (n + 1) bytes
around [] n below passes = absurd (omega arith)
around (b ∷ bs) zero below passes = let is : b ≡ line_end = grind (arith, common_steps) in ap (λ (x : ℕ). x ∷ bs) is
around (b ∷ bs) (suc n) below passes =
    let place : suc n + 1 ≡ suc (n + 1) = omega arith in
    let next : drop (suc n + 1) (b ∷ bs) ≡ drop (n + 1) bs = ap (λ k. drop k (b ∷ bs)) place in
    ap (λ r. b ∷ r) (around bs n (omega arith) passes) ∙ ap (λ r. (b ∷ take n bs) ++ line_end ∷ r) (sym next)

-- the front of a front
pub take_within : (n most : ℕ) (bytes : List ℕ) → n ≤ most → take n (take most bytes) ≡ take n bytes
take_within zero most bytes le = refl
take_within (suc n) zero bytes le = absurd (omega arith)
take_within (suc n) (suc most) [] le = refl
take_within (suc n) (suc most) (b ∷ bs) le = ap (λ r. b ∷ r) (take_within n most bs (omega arith))

-- a byte of a front
at_within : (n most : ℕ) (bytes : List ℕ) → n < most → slice_index (take most bytes) n ≡ slice_index bytes n
at_within n zero bytes below = absurd (omega arith)
at_within n (suc most) [] below = refl
at_within zero (suc most) (b ∷ bs) below = refl
at_within (suc n) (suc most) (b ∷ bs) below = at_within n most bs (omega arith)

-- a front isn't longer than it may be, nor than all
pub length_within : (most : ℕ) (bytes : List ℕ) → (length (take most bytes) ≤ most) × (length (take most bytes) ≤ length bytes)
length_within zero bytes = (omega arith, omega arith)
length_within (suc most) [] = (omega arith, omega arith)
length_within (suc most) (b ∷ bs) = let rest = length_within most bs in (omega (arith, rest.0), omega (arith, rest.1))

-- a front has a byte where it may have one
some_within : (most : ℕ) (bytes : List ℕ) → 0 < most → 0 < length bytes → 0 < length (take most bytes)
some_within zero bytes some more = absurd (omega arith)
some_within (suc most) [] some more = absurd (omega arith)
some_within (suc most) (b ∷ bs) some more = omega arith

-- an LF is the first one among those bytes that may belong to the line
pub front_whole : (bytes looked : List ℕ) (most n : ℕ) → looked ≡ take most bytes → IsFirstByte (is_byte line_end) looked (Some n) → IsFront bytes most (Whole n)
front_whole bytes looked most n is found =
    let first : IsFirstByte (is_byte line_end) (take most bytes) (Some n) = rw is at found in
    let within = length_within most bytes in
    let below : n < most = omega (arith, first.0.high, within.0) in
    let none : has_no_end (take n (take most bytes)) ≡ true = none_up_to (take most bytes) n (omega (arith, first.0.high)) first.0.before in
    let passes : Passes (is_byte line_end) bytes n = rw (at_within n most bytes below) at first.1 in
    (below, omega (arith, first.0.high, within.1), rw (take_within n most bytes (omega arith)) at none, around bytes n (omega (arith, first.0.high, within.1)) passes)

-- none of these bytes is an LF
pub front_part : (bytes looked : List ℕ) (most n : ℕ) → looked ≡ take most bytes → n ≡ length looked → 0 < most → 0 < length bytes → IsFirstByte (is_byte line_end) looked None → IsFront bytes most (Part n)
front_part bytes looked most n is many room some found =
    let none : IsFirstByte (is_byte line_end) (take most bytes) None = rw is at found in
    let count : n ≡ length (take most bytes) = many ∙ ap length is in
    let within = length_within most bytes in
    let no_end : has_no_end (take (length (take most bytes)) (take most bytes)) ≡ true = none_up_to (take most bytes) (length (take most bytes)) (omega arith) none in
    let front : take (length (take most bytes)) (take most bytes) ≡ take n bytes = take_within (length (take most bytes)) most bytes within.0 ∙ ap (λ k. take k bytes) (sym count) in
    (omega (arith, count, some_within most bytes room some), omega (arith, count, within.0), omega (arith, count, within.1), rw front at no_end)

-- an LF that is found
pub end_found : (bytes : List ℕ) (n : ℕ) → n < length bytes → Passes (is_byte line_end) bytes n → has_end bytes ≡ true
end_found [] n below passes = absurd (omega arith)
end_found (b ∷ bs) zero below passes = let is : (b == line_end) ≡ true = passes in rw is refl
end_found (b ∷ bs) (suc n) below passes = let rest : has_end bs ≡ true = end_found bs n (omega arith) passes in grind (arith, common_steps)

-- no LF
pub none_found : (bytes : List ℕ) → ((k : ℕ) → 0 ≤ k → k < length bytes → Passes (is_byte line_end) bytes k → ⊥) → has_end bytes ≡ false
none_found [] none = refl
none_found (b ∷ bs) none =
    let first : (b == line_end) ≡ false = not_so (b == line_end) (none 0 (omega arith) (omega arith)) in
    let rest : has_end bs ≡ false = none_found bs (λ k low high passes. none (suc k) (omega arith) (omega arith) passes) in
    rw (first, rest) refl
  where
    not_so : (test : Bool) → (test ≡ true → ⊥) → test ≡ false
    not_so true never = absurd (never refl)
    not_so false never = refl

-- whether an LF stands among the bytes, as it was looked for
pub end_looked : (bytes : List ℕ) (found : Option ℕ) → IsFirstByte (is_byte line_end) bytes found → is_some found ≡ has_end bytes
end_looked bytes (Some n) at = sym (end_found bytes n at.0.high at.1)
end_looked bytes None none = sym (none_found bytes none)

-- one more byte that may stand before a line
pub begun_on : (bytes : List ℕ) (n b : ℕ) → n < length bytes → b ≡ slice_index bytes n → is_between b ≡ true → begun (drop n bytes) ≡ begun bytes → begun (drop (n + 1) bytes) ≡ begun bytes
begun_on bytes n b below is between so_far =
    let here : drop n bytes ≡ b ∷ drop (n + 1) bytes = drop_more bytes n 0 below ∙ ap (λ x. x ∷ drop (n + 1) bytes) (sym is) in
    sym (ap begun here ∙ rw between refl) ∙ so_far

-- the line begins with another byte, or there is none
pub begun_at : (bytes : List ℕ) (n b : ℕ) → n < length bytes → b ≡ slice_index bytes n → is_between b ≡ false → begun (drop n bytes) ≡ begun bytes → drop n bytes ≡ begun bytes
begun_at bytes n b below is other so_far =
    let here : drop n bytes ≡ b ∷ drop (n + 1) bytes = drop_more bytes n 0 below ∙ ap (λ x. x ∷ drop (n + 1) bytes) (sym is) in
    here ∙ sym (ap begun here ∙ rw other refl) ∙ so_far
