-- Bytes that a sink took, piece by piece.
use Rattle.std.proofs.Common.{◌≡◌, ◌+◌, ◌-◌, ℕ, List, ◌++◌, length, take, drop, Option, Some, None, option_map, refl, sym, ap, ◌∙◌, arith, append_assoc}
use Rattle.std.proofs.Math.Seq.{take-add}
use Rattle.std.proofs.lemmas.List.{append-nil, length-drop}
use Rattle.line_server.proofs.Keeping.{take_short}

-- one piece more
pub taken_on : (at n : ℕ) (bytes : List ℕ) (old mid new : Option (List ℕ)) → mid ≡ option_map (λ taken. taken ++ take at bytes) old
    → new ≡ option_map (λ taken. taken ++ take n (drop at bytes)) mid → new ≡ option_map (λ taken. taken ++ take (at + n) bytes) old
taken_on at n bytes None mid new before now = now ∙ ap (option_map (λ taken. taken ++ take n (drop at bytes))) before
taken_on at n bytes (Some had) mid new before now =
    now ∙ ap (option_map (λ taken. taken ++ take n (drop at bytes))) before ∙ ap Some (append_assoc had (take at bytes) (take n (drop at bytes)) ∙ ap (λ r. had ++ r) (sym (take-add at n bytes)))

-- before the first piece
pub taken_none : (bytes : List ℕ) (old : Option (List ℕ)) → old ≡ option_map (λ taken. taken ++ take 0 bytes) old
taken_none bytes None = refl
taken_none bytes (Some had) = ap Some (sym (append-nil had))

-- what is left of the bytes
pub rest_is : (at : ℕ) (bytes : List ℕ) → take (length bytes - at) (drop at bytes) ≡ drop at bytes
rest_is at bytes = take_short (length bytes - at) (drop at bytes) (omega (arith, length-drop at bytes))
