-- Laws of the operators, each proved by a function of `laws`.
use Rattle.std.specs.Prelude.{◌≡◌, ◌↔◌, ℕ, ◌<◌, List, [], ◌∷◌, ◌++◌, length, IsTrue}
use Rattle.do_value.specs.Tree.{Tree}
use Rattle.script_ops.specs.Same.{same}
use Rattle.script_ops.specs.Texts.{pieces}

-- What is the same is equal.
abbrev pub SameIsEquality : Type 0
SameIsEquality = (t u : Tree) → IsTrue (same t u) ↔ (t ≡ u)

-- The pieces with the separator between each two.
abbrev pub joined_by : List ℕ → List (List ℕ) → List ℕ
joined_by separator [] = []
joined_by separator (piece ∷ []) = piece
joined_by separator (piece ∷ next ∷ pieces) = piece ++ (separator ++ joined_by separator (next ∷ pieces))

-- A text that was split is joined again, as in JavaScript.
abbrev pub PiecesJoin : Type 0
PiecesJoin = (separator bytes : List ℕ) → 0 < length separator → joined_by separator (pieces separator bytes) ≡ bytes
