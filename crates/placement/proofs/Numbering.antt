-- Texts with numbers: a text more leaves each number as it was.
use Rattle.std.proofs.Common.{◌≡◌, ℕ, ◌+◌, ◌<◌, ◌≤◌, Bool, true, false, List, [], ◌∷◌, ◌++◌, length, map, get_or, None, Some, is_some, cond, not, refl, sym, ap, ◌∙◌, arith}
use Rattle.std.specs.Prelude.{String, string_bytes}
use Rattle.std.specs.Str.{bytes_eq}
use Rattle.std.specs.List.{position, position_or_len, list_any}
use Rattle.std.proofs.lemmas.Grind.{common_steps}
use Rattle.std.proofs.lemmas.List.{get_or_append_left, get_or_push, length_push, length-map, map-append}
use Rattle.std.proofs.lemmas.List.Quantifiers.{position-Some}
use Rattle.std.proofs.lemmas.Slice.Eq.{bytes_eq-Decides}
use Rattle.std.specs.String.{string_eq}
use Rattle.indexmap.specs.IndexSet.{insert_key}
use Rattle.placement.specs.Numbers.{number_of, noted}
use Rattle.std.proofs.lemmas.List.Folds.{list_any_none}
use Rattle.std.proofs.lemmas.List.Sums.{prefix_len-le-length}
use Rattle.placement.proofs.Positions.{position_is, fails_each}

-- the text that has the number
pub text_at : (texts : List (List ℕ)) (text : List ℕ) (number : ℕ) (d : List ℕ) → number_of texts text ≡ Some number → text ≡ get_or texts number d
text_at texts text number d found = (bytes_eq-Decides text (get_or texts number d)).0 (position-Some (bytes_eq text) texts number d found).1

-- two texts with one number are the same
pub same_text : (texts : List (List ℕ)) (a b : List ℕ) (number : ℕ) → number_of texts a ≡ Some number → number_of texts b ≡ Some number → a ≡ b
same_text texts a b number at_a at_b = text_at texts a number [] at_a ∙ sym (text_at texts b number [] at_b)

-- a number is below how many texts there are
pub number_within : (texts : List (List ℕ)) (text : List ℕ) (number : ℕ) → number_of texts text ≡ Some number → number < length texts
number_within texts text number found = (position-Some (bytes_eq text) texts number [] found).0

-- the texts `more` are those of `texts` with their numbers, and maybe others behind them
pub record Grown (texts more : List (List ℕ)) : Type 0 where
  pub keeps : (text : List ℕ) (number : ℕ) → number_of texts text ≡ Some number → number_of more text ≡ Some number
  pub knew : (text : List ℕ) (number : ℕ) → number < length texts → number_of more text ≡ Some number → number_of texts text ≡ Some number
  pub longer : length texts ≤ length more

pub grown_same : (texts : List (List ℕ)) → Grown texts texts
grown_same texts = record { keeps = λ text number e. e; knew = λ text number less e. e; longer = omega arith }

pub grown_twice : (texts more most : List (List ℕ)) → Grown texts more → Grown more most → Grown texts most
grown_twice texts more most first second = record {
  keeps = λ text number e. second.keeps text number (first.keeps text number e);
  knew = λ text number less e. first.knew text number less (second.knew text number (omega (arith, first.longer)) e);
  longer = omega (arith, first.longer, second.longer);
}

pub grown_push : (texts : List (List ℕ)) (new : List ℕ) → Grown texts (texts ++ new ∷ [])
grown_push texts new = record {
  keeps = λ text number e.
      let first = position-Some (bytes_eq text) texts number [] e in
      position_is (bytes_eq text) (texts ++ new ∷ []) [] number (rw (length_push texts new) (omega (arith, first.0)))
      (λ k less. rw (get_or_append_left texts (new ∷ []) [] k (omega (arith, first.0))) (first.2 k less))
      (rw (get_or_append_left texts (new ∷ []) [] number first.0) (first.1));
  knew = λ text number less e.
      let first = position-Some (bytes_eq text) (texts ++ new ∷ []) number [] e in
      position_is (bytes_eq text) texts [] number less
      (λ k lower. rw (sym (get_or_append_left texts (new ∷ []) [] k (omega arith))) (first.2 k lower))
      (rw (sym (get_or_append_left texts (new ∷ []) [] number less)) (first.1));
  longer = rw (length_push texts new) (omega arith);
}

-- noting a text grows the texts
pub grown_noted : (texts : List (List ℕ)) (text : List ℕ) → Grown texts (noted texts text)
grown_noted texts text = by (is_some (number_of texts text))
  where
    by : (b : Bool) → Grown texts (cond b texts (texts ++ text ∷ []))
    by true = grown_same texts
    by false = grown_push texts text

-- a text without a number gets the next one
pub next_number : (texts : List (List ℕ)) (text : List ℕ) → number_of texts text ≡ None → number_of (texts ++ text ∷ []) text ≡ Some (length texts)
next_number texts text none =
    position_is (bytes_eq text) (texts ++ text ∷ []) [] (length texts) (rw (length_push texts text) (omega arith))
    (λ k less. rw (get_or_append_left texts (text ∷ []) [] k less) (fails_each (bytes_eq text) texts [] none k less))
    (rw (get_or_push texts text [] (length texts) refl) ((bytes_eq-Decides text text).1 refl))

-- ---- the texts of a set of strings
module _ {A : Type 0} (p : List ℕ → Bool) where
  passed_or_len : (keys : List (String A)) → position_or_len (λ k. p (string_bytes k)) keys ≡ position_or_len p (map string_bytes keys)
  passed_or_len [] = refl
  passed_or_len (key ∷ keys) = ap (λ n. cond (not (p (string_bytes key))) (1 + n) 0) (passed_or_len keys)

  -- the place of a key by its bytes is the place of the bytes
  pub position_by_bytes : (keys : List (String A)) → position (λ k. p (string_bytes k)) keys ≡ position p (map string_bytes keys)
  position_by_bytes keys = rw (passed_or_len keys, sym (length-map keys string_bytes)) refl

  -- where the bytes have no place, no key has them
  pub none_by_bytes : (keys : List (String A)) → position p (map string_bytes keys) ≡ None → list_any (λ k. p (string_bytes k)) keys ≡ false
  none_by_bytes keys none =
      list_any_none (λ k. p (string_bytes k)) keys (λ i d less. fails_each (λ k. p (string_bytes k)) keys d (position_by_bytes keys ∙ none) i less)

  -- and its place is behind all
  pub last_by_bytes : (keys : List (String A)) → position p (map string_bytes keys) ≡ None → position_or_len (λ k. p (string_bytes k)) keys ≡ length keys
  last_by_bytes keys none =
      let least : length keys ≤ position_or_len (λ k. p (string_bytes k)) keys = past (λ k. p (string_bytes k)) keys (position_by_bytes keys ∙ none) in
      let most : position_or_len (λ k. p (string_bytes k)) keys ≤ length keys = prefix_len-le-length _ keys in
      omega arith
    where
      past : {X : Type 0} (q : X → Bool) (xs : List X) → position q xs ≡ None → length xs ≤ position_or_len q xs
      past q xs none = grind (arith, common_steps)

-- a string that is put behind the others notes its text, and its place is the text's number
module _ {A : Type 0} (keys : List (String A)) (owned : String A) (none : number_of (map string_bytes keys) (string_bytes owned) ≡ None) where
  pub noted_insert : map string_bytes (insert_key string_eq keys owned) ≡ noted (map string_bytes keys) (string_bytes owned)
  noted_insert =
      ap (λ b. map string_bytes (cond b keys (keys ++ owned ∷ []))) (none_by_bytes (bytes_eq (string_bytes owned)) keys none)
      ∙ map-append string_bytes keys (owned ∷ [])
      ∙ sym (ap (λ o. cond (is_some o) (map string_bytes keys) (map string_bytes keys ++ string_bytes owned ∷ [])) none)

  pub number_insert : number_of (noted (map string_bytes keys) (string_bytes owned)) (string_bytes owned) ≡ Some (position_or_len (string_eq owned) keys)
  number_insert =
      ap (λ o. number_of (cond (is_some o) (map string_bytes keys) (map string_bytes keys ++ string_bytes owned ∷ [])) (string_bytes owned)) none
      ∙ next_number (map string_bytes keys) (string_bytes owned) none
      ∙ ap Some (length-map keys string_bytes ∙ sym (last_by_bytes (bytes_eq (string_bytes owned)) keys none))
