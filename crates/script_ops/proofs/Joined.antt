-- The pieces of a text, joined again.
use Rattle.std.proofs.Common.{◌≡◌, ℕ, zero, suc, ◌-◌, ◌<◌, List, [], ◌∷◌, ◌++◌, length, drop, nat_eq, refl, sym, ap, ◌∙◌, inl, inr, arith}
use Rattle.std.specs.List.{starts_with}
use Rattle.std.proofs.lemmas.Bool.{cases_Bool}
use Rattle.script_ops.specs.Texts.{in_front, pieces_after, pieces}
use Rattle.script_ops.specs.Law.{joined_by}
use Rattle.script_ops.proofs.Found.{begins_true}

join_front : (separator : List ℕ) (b : ℕ) (ps : List (List ℕ)) → joined_by separator (in_front b ps) ≡ b ∷ joined_by separator ps
join_front separator b [] = refl
join_front separator b (p ∷ []) = refl
join_front separator b (p ∷ q ∷ ps) = refl

-- there is always a piece
front_some : (b : ℕ) (ps : List (List ℕ)) → (q : List ℕ) × (qs : List (List ℕ)) × (in_front b ps ≡ q ∷ qs)
front_some b [] = (b ∷ [], [], refl)
front_some b (p ∷ ps) = (b ∷ p, ps, refl)

pieces_some : (separator : List ℕ) (n : ℕ) (bytes : List ℕ) → (q : List ℕ) × (qs : List (List ℕ)) × (pieces_after n separator bytes ≡ q ∷ qs)
pieces_some separator zero [] = ([], [], refl)
pieces_some separator (suc n) [] = ([], [], refl)
pieces_some separator (suc n) (b ∷ bytes) = pieces_some separator n bytes
pieces_some separator zero (b ∷ bytes) = elim (cases_Bool (starts_with nat_eq (b ∷ bytes) separator)) [
  | inl here ↦ rw here ([], pieces_after (length separator - 1) separator bytes, refl)
  | inr elsewhere ↦ rw elsewhere (front_some b (pieces_after zero separator bytes))
]

join_next : (separator : List ℕ) (ps : List (List ℕ)) → (q : List ℕ) × (qs : List (List ℕ)) × (ps ≡ q ∷ qs) → joined_by separator ([] ∷ ps) ≡ separator ++ joined_by separator ps
join_next separator ps some = ap (λ x. joined_by separator ([] ∷ x)) some.2 ∙ ap (λ x. separator ++ joined_by separator x) (sym some.2)

join_back : (c : ℕ) (cs : List ℕ) (n : ℕ) (bytes : List ℕ) → joined_by (c ∷ cs) (pieces_after n (c ∷ cs) bytes) ≡ drop n bytes
join_back c cs zero [] = refl
join_back c cs (suc n) [] = refl
join_back c cs (suc n) (b ∷ bytes) = join_back c cs n bytes
join_back c cs zero (b ∷ bytes) = elim (cases_Bool (starts_with nat_eq (b ∷ bytes) (c ∷ cs))) [
  | inl here ↦
      let rest = pieces_after (length (c ∷ cs) - 1) (c ∷ cs) bytes in
      let one_less : length (c ∷ cs) ≡ suc (length (c ∷ cs) - 1) = omega arith in
      let joined : joined_by (c ∷ cs) ([] ∷ rest) ≡ b ∷ bytes =
      join_next (c ∷ cs) rest (pieces_some (c ∷ cs) (length (c ∷ cs) - 1) bytes)
      ∙ ap (λ x. (c ∷ cs) ++ x) (join_back c cs (length (c ∷ cs) - 1) bytes)
      ∙ sym (begins_true (b ∷ bytes) (c ∷ cs) here ∙ ap (λ k. (c ∷ cs) ++ drop k (b ∷ bytes)) one_less) in
      rw here joined
  | inr elsewhere ↦
      let joined : joined_by (c ∷ cs) (in_front b (pieces_after zero (c ∷ cs) bytes)) ≡ b ∷ bytes =
      join_front (c ∷ cs) b (pieces_after zero (c ∷ cs) bytes) ∙ ap (λ x. b ∷ x) (join_back c cs zero bytes) in
      rw elsewhere joined
]

pub pieces_joined : (separator bytes : List ℕ) → 0 < length separator → joined_by separator (pieces separator bytes) ≡ bytes
pieces_joined [] bytes some = absurd (omega arith)
pieces_joined (c ∷ cs) bytes some = join_back c cs 0 bytes
