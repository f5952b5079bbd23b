-- What is made of the parts of a value is within the limits.
use Rattle.std.proofs.Common.{◌≡◌, ℕ, zero, suc, ◌+◌, ◌-◌, ◌^◌, ◌<◌, ◌≤◌, ℤ, List, [], ◌∷◌, ◌++◌, map, length, take, drop, Ok, Err, refl, ap, subst, arith}
use lib.Signed.{mag}
use Rattle.std.specs.Fmt.{signed_decimal}
use Rattle.std.proofs.lemmas.Fmt.{length_signed_le}
use Rattle.std.specs.List.{slice_range}
use Rattle.std.proofs.lemmas.Bool.{lt-ltb, le-ltb}
use Rattle.do_value.specs.Limits.{most_bytes, most_levels}
use Rattle.do_value.specs.Tree.{Tree, text, trees_of, pairs_of, items, fields, size_of, total_size, total_pair_size, depth_of, greatest_depth}
use Rattle.do_value.specs.Sound.{IsValue}
use Rattle.do_value.proofs.Started.{one-le_size}
use Rattle.script_ops.specs.Errors.{too_large, within_limits}

-- within the limits a value is itself, and past that of size it is too large
pub within_small : (t : Tree) → depth_of t ≤ most_levels → size_of t ≤ most_bytes → within_limits t ≡ Ok t
within_small t shallow small =
    let not_deep = le-ltb most_levels (depth_of t) shallow in
    let not_large = le-ltb most_bytes (size_of t) small in
    rw (not_deep, not_large) refl

pub within_large : (t : Tree) → depth_of t ≤ most_levels → most_bytes < size_of t → within_limits t ≡ Err too_large
within_large t shallow large =
    let not_deep = le-ltb most_levels (depth_of t) shallow in
    let is_large = lt-ltb most_bytes (size_of t) large in
    rw (not_deep, is_large) refl

-- some of the items are no larger and no deeper than all
total-take : (n : ℕ) (ts : List Tree) → total_size (trees_of (take n ts)) ≤ total_size (trees_of ts)
total-take zero ts = omega arith
total-take (suc n) [] = omega arith
total-take (suc n) (t ∷ ts) = omega (arith, total-take n ts)

total-drop : (n : ℕ) (ts : List Tree) → total_size (trees_of (drop n ts)) ≤ total_size (trees_of ts)
total-drop zero ts = omega arith
total-drop (suc n) [] = omega arith
total-drop (suc n) (t ∷ ts) = omega (arith, total-drop n ts)

deepest-take : (n : ℕ) (ts : List Tree) → greatest_depth (trees_of (take n ts)) ≤ greatest_depth (trees_of ts)
deepest-take zero ts = omega arith
deepest-take (suc n) [] = omega arith
deepest-take (suc n) (t ∷ ts) = omega (arith, deepest-take n ts)

deepest-drop : (n : ℕ) (ts : List Tree) → greatest_depth (trees_of (drop n ts)) ≤ greatest_depth (trees_of ts)
deepest-drop zero ts = omega arith
deepest-drop (suc n) [] = omega arith
deepest-drop (suc n) (t ∷ ts) = omega (arith, deepest-drop n ts)

pub slice_within : (ts : List Tree) (from to : ℕ) → IsValue (items ts) → within_limits (items (slice_range ts from to)) ≡ Ok (items (slice_range ts from to))
slice_within ts from to value = within_small (items (slice_range ts from to))
    (omega (arith, deepest-take (to - from) (drop from ts), deepest-drop from ts, value.shallow))
    (omega (arith, total-take (to - from) (drop from ts), total-drop from ts, value.small))

-- the keys of a record are no larger than the record
abbrev key_text : List ℕ × Tree → Tree
key_text p = text p.0

total_keys : (ps : List (List ℕ × Tree)) → total_size (trees_of (map key_text ps)) ≤ total_pair_size (pairs_of ps)
total_keys [] = omega arith
total_keys (p ∷ ps) = omega (arith, total_keys ps, one-le_size p.1)

flat_keys : (ps : List (List ℕ × Tree)) → greatest_depth (trees_of (map key_text ps)) ≡ 0
flat_keys [] = refl
flat_keys (p ∷ ps) = omega (arith, flat_keys ps)

pub keys_within : (ps : List (List ℕ × Tree)) → IsValue (fields ps) → within_limits (items (map key_text ps)) ≡ Ok (items (map key_text ps))
keys_within ps value = within_small (items (map key_text ps)) (omega (arith, flat_keys ps)) (omega (arith, total_keys ps, value.small))

-- texts are flat, and each counts its bytes and 5
flat_texts : (bs : List (List ℕ)) → greatest_depth (trees_of (map text bs)) ≡ 0
flat_texts [] = refl
flat_texts (b ∷ bs) = omega (arith, flat_texts bs)

total-append : (xs ys : List Tree) → total_size (trees_of (xs ++ ys)) ≡ total_size (trees_of xs) + total_size (trees_of ys)
total-append [] ys = omega arith
total-append (x ∷ xs) ys = omega (arith, total-append xs ys)

pub size_more : (done : List Tree) (piece : List ℕ) → size_of (items (done ++ text piece ∷ [])) ≡ size_of (items done) + (5 + length piece)
size_more done piece = omega (arith, total-append done (text piece ∷ []))

-- where the first of the pieces are too large, all are
pub pieces_large : (done more : List Tree) (pieces : List (List ℕ)) → done ++ more ≡ map text pieces → most_bytes < size_of (items done)
    → within_limits (items (map text pieces)) ≡ Err too_large
pieces_large done more pieces all large = within_large (items (map text pieces)) (omega (arith, flat_texts pieces))
    (subst (λ ts. most_bytes < size_of (items ts)) all (omega (arith, total-append done more, large)))

-- a short text is within the limits
pub short_within : (bytes : List ℕ) → length bytes ≤ 32 → within_limits (text bytes) ≡ Ok (text bytes)
short_within bytes short = within_small (text bytes) (omega arith) (omega arith)

-- and so is what prints a number
pub short_number : (bytes : List ℕ) (z : ℤ) → bytes ≡ signed_decimal z → mag z < 2 ^ 63 → length bytes ≤ 32
short_number bytes z e fits = let short : length (signed_decimal z) ≤ 20 + 1 = length_signed_le 20 z (omega arith) fits in omega (arith, ap length e, short)
