-- Lists that are kept the latest last and meant the latest first.
use Rattle.std.proofs.Common.{◌≡◌, ℕ, ◌+◌, ◌<◌, List, [], ◌∷◌, ◌++◌, length, map, reverse, take, drop, set, get_or, sym, ap, ◌∙◌, append_assoc, add-one}
use Rattle.std.proofs.lemmas.List.{reverse-append, map-append, set-get_or, set_split}

module _ {A B : Type 0} (f : A → B) where
  -- what comes last is meant first
  pub pushed : (xs : List A) (x : A) → map f (reverse (xs ++ x ∷ [])) ≡ f x ∷ map f (reverse xs)
  pushed xs x = ap (map f) (reverse-append xs (x ∷ []))

  -- what comes after an element is meant before it
  split : (before after : List A) (x : A) → map f (reverse (before ++ x ∷ after)) ≡ map f (reverse after) ++ f x ∷ map f (reverse before)
  split before after x =
      ap (map f) (reverse-append before (x ∷ after) ∙ ap (λ l. l ++ reverse before) (reverse-append (x ∷ []) after) ∙ append_assoc (reverse after) (x ∷ []) (reverse before))
      ∙ map-append f (reverse after) (x ∷ reverse before)

  -- what comes first is meant last
  pub headed : (x : A) (xs : List A) → map f (reverse (x ∷ xs)) ≡ map f (reverse xs) ++ f x ∷ []
  headed x xs = split [] xs x

  -- a list with an element written, as it is meant
  pub written : (xs : List A) (i : ℕ) (y : A) → i < length xs → map f (reverse (set xs i y)) ≡ map f (reverse (drop (i + 1) xs)) ++ f y ∷ map f (reverse (take i xs))
  written xs i y within = ap (λ l. map f (reverse l)) (set_split xs i y within ∙ ap (λ k. take i xs ++ y ∷ drop k xs) (sym (add-one i))) ∙ split (take i xs) (drop (i + 1) xs) y

  -- a list with an element read, as it is meant
  pub read : (xs : List A) (i : ℕ) (d : A) → i < length xs → map f (reverse xs) ≡ map f (reverse (drop (i + 1) xs)) ++ f (get_or xs i d) ∷ map f (reverse (take i xs))
  read xs i d within = ap (λ l. map f (reverse l)) (sym (set-get_or xs i d)) ∙ written xs i (get_or xs i d) within
