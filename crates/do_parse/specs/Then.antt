-- Phrases made of phrases, and what a function gives of them.
use Rattle.std.specs.Prelude.{◌≡◌, ℕ, List, Result, Ok, Err}
use Rattle.do_tree.specs.Lexeme.{Lexeme, place}
use Rattle.do_parse.specs.Parsed.{Phrase}
use Rattle.do_parse.specs.declared.stop.Stop.{Stop}
use Rattle.do_parse.specs.declared.stop.Stop.TheVariants.{NoMemory}

-- One phrase and then another.
pub record Then {A B : Type 0} (P : Phrase A) (Q : Phrase B) (ts us : List Lexeme) (pair : A × B) : Type 0 where
  pub between : List Lexeme
  pub first : P ts between pair.0
  pub second : Q between us pair.1

-- A phrase with the place of its first token.
pub record Placed {A : Type 0} (P : Phrase A) (ts us : List Lexeme) (pair : ℕ × A) : Type 0 where
  pub at_is : pair.0 ≡ place ts
  pub phrase : P ts us pair.1

-- One token, with its place.
pub record At (Takes : List Lexeme → List Lexeme → Type 0) (ts us : List Lexeme) (at : ℕ) : Type 0 where
  pub at_is : at ≡ place ts
  pub takes : Takes ts us

-- An answer, with the tree that its node is.
abbrev pub with_tree : {A B : Type 0} → (A → B) → Result A Stop → Result B Stop
with_tree tree (Ok node) = Ok (tree node)
with_tree tree (Err stop) = Err stop

-- What a node was made of, or no memory was left.
abbrev pub IsMade : {A B : Type 0} → (A → B) → B → Result A Stop → Type 0
IsMade seen tree (Ok node) = seen node ≡ tree
IsMade seen tree (Err stop) = stop ≡ NoMemory
