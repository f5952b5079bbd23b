-- What is kept of a line.
use Rattle.std.proofs.Common.{◌≡◌, ◌≤◌, ◌+◌, ℕ, zero, suc, List, [], ◌∷◌, ◌++◌, length, take, refl, ap, ◌∙◌, arith, length-append, Bool, ◌&&◌}
use Rattle.std.proofs.lemmas.Grind.{common_steps}
use Rattle.std.proofs.lemmas.List.Folds.{list_all-append}
use Rattle.line_server.specs.Cut.{is_blank}
use Rattle.line_server.specs.Raw.{IsRaw}
use Rattle.line_server.specs.Limits.{most_line_bytes}
use Rattle.line_server.specs.declared.raw_line.RawLine.{RawLine}

-- a front with more after it is the front of the whole
pub take_front : (n : ℕ) (xs ys : List ℕ) → take n (take n xs ++ ys) ≡ take n (xs ++ ys)
take_front zero xs ys = refl
take_front (suc n) [] ys = refl
take_front (suc n) (x ∷ xs) ys = ap (λ r. x ∷ r) (take_front n xs ys)

-- some bytes more
pub raw_on : (line : List ℕ) (raw more : RawLine) (bytes : List ℕ) (blank : Bool) → IsRaw line raw → more.kept.items ≡ take most_line_bytes (raw.kept.items ++ bytes)
    → more.length ≡ raw.length + length bytes → more.blank ≡ (raw.blank && blank) → blank ≡ is_blank bytes → IsRaw (line ++ bytes) more
raw_on line raw more bytes blank is kept length_more still one = record {
  kept = kept ∙ ap (λ r. take most_line_bytes (r ++ bytes)) is.kept ∙ take_front most_line_bytes line bytes;
  length_is = omega (arith, is.length_is, length-append line bytes);
  blank = still ∙ rw (is.blank, one) (rw list_all-append refl);
}

-- of more bytes than there is room for, the first ones stay
pub take_more : (n room : ℕ) (xs ys : List ℕ) → n ≡ length xs + room → xs ++ take room ys ≡ take n (xs ++ ys)
take_more n room [] ys e = let same : room ≡ n = omega arith in ap (λ k. take k ys) same
take_more zero room (x ∷ xs) ys e = absurd (omega arith)
take_more (suc n) room (x ∷ xs) ys e = ap (λ r. x ∷ r) (take_more n room xs ys (omega arith))

-- a list that isn't longer is kept whole
pub take_short : (n : ℕ) (xs : List ℕ) → length xs ≤ n → take n xs ≡ xs
take_short n xs short = grind (arith, common_steps)
