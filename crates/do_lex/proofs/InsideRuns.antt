-- The inside of a text is cut into its plain bytes and escapes in one way.
use Rattle.std.proofs.Common.{◌≡◌, ℕ, zero, suc, ◌+◌, ◌-◌, ◌<◌, ◌≤◌, Bool, true, false, List, [], ◌∷◌, ◌++◌, length, take, drop, ◌⊎◌, ⊎_elim, inl, inr, refl, sym, ◌∙◌, subst, arith, eqb, eq-eqb}
use Rattle.std.proofs.lemmas.List.{take-append-drop, length-drop, take-take, drop-take, length-take}
use Rattle.do_lex.specs.Longest.{IsLongest}
use Rattle.do_lex.specs.Lexemes.{IsInside, IsPlain, IsUnit}
use Rattle.do_lex.specs.Lexemes.IsInside.{none, plain, escape}

module _ (quote : ℕ) (escapes : ℕ → Bool) where
  -- the inside of two texts, one after the other
  pub IsInside-append : {xs ys : List ℕ} → IsInside quote escapes xs → IsInside quote escapes ys → IsInside quote escapes (xs ++ ys)
  IsInside-append none y = y
  IsInside-append (plain p x) y = plain p (IsInside-append x y)
  IsInside-append (escape s e x) y = escape s e (IsInside-append x y)

  -- a unit is the inside of a text
  pub IsInside-unit : (bytes : List ℕ) (n : ℕ) → IsUnit quote escapes bytes n → IsInside quote escapes (take n bytes)
  IsInside-unit [] n (inl u) = absurd (omega (arith, u.1))
  IsInside-unit [] n (inr u) = absurd (omega (arith, u.1))
  IsInside-unit (b ∷ bs) n (inl u) = rw u.0 (plain u.2 none)
  IsInside-unit (b ∷ []) n (inr u) = absurd (omega (arith, u.1))
  IsInside-unit (b ∷ c ∷ bs) n (inr u) = rw u.0 (escape u.2 u.3 none)

  -- what begins the inside of a text that isn't empty is a unit
  pub IsUnit-first : (b : ℕ) (bs : List ℕ) → IsInside quote escapes (b ∷ bs) → (n : ℕ) × IsUnit quote escapes (b ∷ bs) n
  IsUnit-first b bs (plain p x) = (1, inl (refl, omega arith, p))
  IsUnit-first b _ (escape s e x) = (2, inr (refl, omega arith, s, e))

  -- a unit of a front is one of the whole
  pub IsUnit-take : (bytes : List ℕ) (m n : ℕ) → IsUnit quote escapes (take m bytes) n → IsUnit quote escapes bytes n
  IsUnit-take [] zero n u = u
  IsUnit-take [] (suc m) n u = u
  IsUnit-take (b ∷ bs) zero n (inl u) = absurd (omega (arith, u.1))
  IsUnit-take (b ∷ bs) zero n (inr u) = absurd (omega (arith, u.1))
  IsUnit-take (b ∷ bs) (suc m) n (inl u) = inl (u.0, omega arith, u.2)
  IsUnit-take (b ∷ []) (suc zero) n (inr u) = absurd (omega (arith, u.1))
  IsUnit-take (b ∷ []) (suc (suc m)) n (inr u) = absurd (omega (arith, u.1))
  IsUnit-take (b ∷ c ∷ bs) (suc zero) n (inr u) = absurd (omega (arith, u.1))
  IsUnit-take (b ∷ c ∷ bs) (suc (suc m)) n (inr u) = inr (u.0, omega arith, u.2, u.3)

  -- the first unit of an inside, and the inside that follows it
  unit_parts : (b : ℕ) (rest : List ℕ) → IsInside quote escapes (b ∷ rest) → (IsPlain quote b × IsInside quote escapes rest) ⊎ ((b ≡ 92) × (e : ℕ) × (bs : List ℕ) × (rest ≡ e ∷ bs) × IsInside quote escapes bs)
  unit_parts b rest (plain p x) = inl (p, x)
  unit_parts _ _ (escape {b} {e} {bs} s good x) = inr (s, e, bs, refl, x)

  -- no plain byte is a backslash
  not_both : (b : ℕ) → IsPlain quote b → b ≡ 92 → ⊥
  not_both b p s = let e : eqb b 92 ≡ true = eq-eqb b 92 s in let f : eqb b 92 ≡ false = p.no_backslash in cc

  -- an inside goes on, if at all, by a unit
  unit_follows : {xs : List ℕ} → IsInside quote escapes xs → (ys : List ℕ) → 0 < length ys → IsInside quote escapes (xs ++ ys) → (n : ℕ) × IsUnit quote escapes ys n
  unit_follows none [] some y = absurd (omega arith)
  unit_follows none (b ∷ ys) some y = IsUnit-first b ys y
  unit_follows (plain {b} {bs} p x) ys some y =
      ⊎_elim (λ (q, z). unit_follows x ys some z) (λ (s, e, ds, same, z). absurd (not_both b p s)) (unit_parts b (bs ++ ys) y)
  unit_follows (escape {b} {e} {bs} s good x) ys some y =
      ⊎_elim (λ (p, z). absurd (not_both b p s))
      (λ (t, d, ds, same, z). let tails : ds ≡ bs ++ ys = cc in unit_follows x ys some (subst (IsInside quote escapes) tails z))
      (unit_parts b (e ∷ (bs ++ ys)) y)

-- a front, and what is left of a longer one
take_longer : (n m : ℕ) (bytes : List ℕ) → n ≤ m → take m bytes ≡ take n bytes ++ take (m - n) (drop n bytes)
take_longer n m bytes le =
    let front : take n (take m bytes) ≡ take n bytes = take-take n m bytes le in
    let sum : n + (m - n) ≡ m = omega arith in
    let back : drop n (take m bytes) ≡ take (m - n) (drop n bytes) = subst (λ k. drop n (take k bytes) ≡ take (m - n) (drop n bytes)) sum (drop-take n (m - n) bytes) in
    sym (take-append-drop n (take m bytes)) ∙ (λ i. front i ++ back i)

-- an inside after which no unit comes is the longest
pub IsLongest-inside : (quote : ℕ) (escapes : ℕ → Bool) (bytes : List ℕ) (n : ℕ) → n ≤ length bytes → IsInside quote escapes (take n bytes) → ((k : ℕ) → IsUnit quote escapes (drop n bytes) k → ⊥) → IsLongest (IsInside quote escapes) bytes n
IsLongest-inside quote escapes bytes n in_range inside no_unit = record {
  in_range = in_range;
  holds = inside;
  longest = λ m more within longer.
      let rest = take (m - n) (drop n bytes) in
      let some : 0 < length rest = simp (length-take, length-drop) (omega arith) in
      let unit = unit_follows quote escapes inside rest some (subst (IsInside quote escapes) (take_longer n m bytes (omega arith)) longer) in
      no_unit unit.0 (IsUnit-take quote escapes (drop n bytes) (m - n) unit.0 unit.1);
}

-- an inside and the unit after it are a longer inside
pub IsInside-more : (quote : ℕ) (escapes : ℕ → Bool) (bytes : List ℕ) (len n : ℕ) → len ≤ length bytes → IsInside quote escapes (take len bytes) → IsUnit quote escapes (drop len bytes) n → (len + n ≤ length bytes) × IsInside quote escapes (take (len + n) bytes)
IsInside-more quote escapes bytes len n in_range inside unit =
    let left : length (drop len bytes) ≡ length bytes - len = length-drop len bytes in
    let fits : n ≤ length (drop len bytes) = elim unit [ inl u ↦ omega (arith, u) | inr u ↦ omega (arith, u) ] in
    let back : len + n - len ≡ n = omega arith in
    let split : take (len + n) bytes ≡ take len bytes ++ take n (drop len bytes) = subst (λ k. take (len + n) bytes ≡ take len bytes ++ take k (drop len bytes)) back (take_longer len (len + n) bytes (omega arith)) in
    (omega arith, subst (IsInside quote escapes) (sym split) (IsInside-append quote escapes inside (IsInside-unit quote escapes (drop len bytes) n unit)))
