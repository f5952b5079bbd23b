-- Sorted texts, and what they tell of a list.
use Rattle.std.specs.Prelude.{◌≡◌, ℕ, Bool, List, String}
use Rattle.std.specs.BTreeSet.{BTreeSet, contains_text}
use Rattle.std.specs.List.{list_any}

-- Exactly those texts are there that something of the list has.
abbrev pub Tells : {A Y : Type 0} → BTreeSet (String Y) → (List ℕ → A → Bool) → List A → Type 0
Tells texts has xs = (text : List ℕ) → contains_text texts text ≡ list_any (has text) xs
