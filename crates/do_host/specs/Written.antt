-- What was written of a text.
use Rattle.std.specs.Prelude.{◌≡◌, ◌≤◌, ◌++◌, ℕ, List, length, take, Option, option_map, Result, OnOk}

-- the first bytes of this text were written behind what was taken before
abbrev pub WritesFirstOf : Option (List ℕ) → Option (List ℕ) → List ℕ → Type 0
WritesFirstOf before after text = (n : ℕ) × (n ≤ length text) × (after ≡ option_map (λ taken. taken ++ take n text) before)

-- all of this text was written behind what was taken before
abbrev pub WritesAll : Option (List ℕ) → Option (List ℕ) → List ℕ → Type 0
WritesAll before after text = after ≡ option_map (λ taken. taken ++ text) before

-- at any end the first bytes of the text were written, and at a good one all of it
pub record Writes {T E : Type 0} (before after : Option (List ℕ)) (text : List ℕ) (result : Result T E) : Type 0 where
  pub whole : OnOk result (WritesAll before after text)
  pub front : WritesFirstOf before after text
