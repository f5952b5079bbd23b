-- What reads of places answer.
use Rattle.std.specs.Prelude.{◌≡◌, ℕ, Bool, List, codes, Result, Ok, Err}
use Rattle.std.specs.Str.{bytes_eq}
use Rattle.do_value.specs.Tree.{Tree}
use Rattle.do_value.specs.Seen.{tree_of}
use Rattle.do_value.specs.declared.value.Value.{Value}
use Rattle.script_ops.specs.Answers.{error_of}
use Rattle.script_ops.specs.declared.refusal.Refusal.{Refusal}
use Rattle.script_places.specs.declared.part.Part.{Part}
use Rattle.script_places.specs.declared.part.Part.TheVariants.{Held, Made}

-- The name is that of lengths, in JavaScript.
abbrev pub is_length : List ℕ → Bool
is_length name = bytes_eq (codes "length") name

-- The part with all its parts.
abbrev pub tree_in : Part → Tree
tree_in (Held v) = tree_of v.now
tree_in (Made v) = tree_of v

-- The answer is the part that the definition gives, or the error that it throws.
abbrev pub Reads : Result Tree Tree → Result Part Refusal → Type 0
Reads meant (Ok part) = meant ≡ Ok (tree_in part)
Reads meant (Err refusal) = meant ≡ Err (error_of refusal)

-- The answer is the value that the definition gives, or the error that it throws.
abbrev pub Gives : Result Tree Tree → Result Value Refusal → Type 0
Gives meant (Ok v) = meant ≡ Ok (tree_of v)
Gives meant (Err refusal) = meant ≡ Err (error_of refusal)
