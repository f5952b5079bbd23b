-- What a reader reads of its source, and what it gives of what it read.
use Rattle.std.specs.Prelude.{◌≡◌, ℕ, List, [], ◌∷◌, ◌++◌, Option, Some, None, Result, Ok, Err}

-- the byte, where there is one
abbrev pub bytes_of : Option ℕ → List ℕ
bytes_of None = []
bytes_of (Some b) = b ∷ []

-- the byte of an answer
abbrev pub byte_in : {E : Type 0} → Result (Option ℕ) E → List ℕ
byte_in (Ok o) = bytes_of o
byte_in (Err e) = []

-- the bytes are the first of these, and the others are told to be left
pub record StartsWith (before bytes : List ℕ) (after : Option (List ℕ)) : Type 0 where
  pub rest : List ℕ
  pub told : after ≡ Some rest
  pub whole : before ≡ bytes ++ rest

-- A reader's source had `before` left and tells that it has `after` left. Of what the reader held and what it read since,
-- the first bytes were given, and it holds the others.
pub record Moved (before : List ℕ) (after : Option (List ℕ)) (held given holds : List ℕ) : Type 0 where
  pub piece : List ℕ
  pub source : StartsWith before piece after
  pub reader : held ++ piece ≡ given ++ holds
