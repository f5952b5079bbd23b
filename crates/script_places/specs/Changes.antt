-- How writes are done: what is found before anything is changed, and what the change answers.
use Rattle.std.specs.Prelude.{◌≡◌, ℕ, nat_lt, if◌then◌else◌, List, Result, Ok, Err, IsErr}
use Rattle.do_value.specs.Limits.{most_bytes, most_levels, told}
use Rattle.do_value.specs.Tree.{Tree, size_of}
use Rattle.do_value.specs.Seen.{tree_of}
use Rattle.do_value.specs.declared.value.Value.{Value}
use Rattle.script_ops.specs.Errors.{within_limits}
use Rattle.script_mean.specs.Places.{Step, part, with_part, with_field, limited, with_own, ◌then◌}
use Rattle.script_mean.specs.Task.{Fields}
use Rattle.script_ops.specs.Answers.{error_of}
use Rattle.script_ops.specs.declared.refusal.Refusal.{Refusal}
use Rattle.script_ops.specs.declared.refusal.Refusal.TheVariants.{TooDeep, TooLarge}
use Rattle.script_ops.specs.declared.fault.Stop.{Stop}
use Rattle.script_ops.specs.declared.fault.Stop.TheVariants.{Throws, NoRoom}

-- The answer is what a write makes of what was there and what it gives, or the error that the definition throws, and
-- then all is as it was. It may always be that there is no memory.
abbrev pub Writes : {A B : Type 0} → (A → B) → Result (B × Tree) Tree → A → A → Result Value Stop → Type 0
Writes seen meant old new (Ok v) = meant ≡ Ok (seen new, tree_of v)
Writes seen meant old new (Err (Throws refusal)) = (meant ≡ Err (error_of refusal)) × (new ≡ old)
Writes seen meant old new (Err NoRoom) = Unit {0}

-- The answer is the size of what the definition makes, as a count of 64 bits tells it, or the error that it throws.
abbrev pub Sizes : Result Tree Tree → Result ℕ Refusal → Type 0
Sizes (Ok t) (Ok size) = size ≡ told (size_of t)
Sizes (Err e) (Err refusal) = e ≡ error_of refusal
Sizes (Ok t) (Err refusal) = ⊥
Sizes (Err e) (Ok size) = ⊥

-- What a write makes, without what it gives.
abbrev pub whole_of : Result (Tree × Tree) Tree → Result Tree Tree
whole_of (Ok new) = Ok new.0
whole_of (Err e) = Err e

-- What the limits of values answer of this size and this depth.
abbrev pub limits_of : ℕ → ℕ → Result (Unit {0}) Refusal
limits_of size depth = if nat_lt most_levels depth then Err TooDeep else (if nat_lt most_bytes size then Err TooLarge else Ok tt)

-- The definition makes something, or it throws this refusal's error.
abbrev pub Allows : {A : Type 0} → Result A Tree → Result (Unit {0}) Refusal → Type 0
Allows (Ok x) (Ok u) = Unit {0}
Allows (Err e) (Err refusal) = e ≡ error_of refusal
Allows (Ok x) (Err refusal) = ⊥
Allows (Err e) (Ok u) = ⊥

-- A part was taken out, in place of which any puts the same; or nothing can be put there, for this refusal; or there was
-- no memory.
abbrev pub IsTaken : Tree → Tree → Step → Result Value Stop → Type 0
IsTaken old new s (Ok v) = record {
  part : part old s ≡ Ok (tree_of v);
  rest : (t : Tree) → with_part new s t ≡ with_part old s t;
}
IsTaken old new s (Err (Throws refusal)) = (t : Tree) → with_part old s t ≡ Err (error_of refusal)
IsTaken old new s (Err NoRoom) = Unit {0}

-- The value is what the definition makes with the part, or that is refused by the definition or by the limits.
abbrev pub Puts : Result Tree Tree → Tree → Result (Unit {0}) Stop → Type 0
Puts meant new (Ok u) = meant ≡ Ok new
Puts meant new (Err (Throws refusal)) = IsErr (meant then within_limits)
Puts meant new (Err NoRoom) = Unit {0}

-- The value is what the definition makes and the answer what it gives, or that is refused by the definition or the limits.
abbrev pub Changes : Result (Tree × Tree) Tree → Tree → Result Value Stop → Type 0
Changes meant new (Ok v) = meant ≡ Ok (new, tree_of v)
Changes meant new (Err (Throws refusal)) = IsErr (meant then limited)
Changes meant new (Err NoRoom) = Unit {0}

-- The fields of the object itself with this one in place of the one of its name, beside what the write gives.
abbrev pub put_own : List ℕ → Fields → Tree × Tree → Result (Fields × Tree) Tree
put_own name ps new = Ok (with_field name new.0 ps, new.1)

-- The same of a field of the object itself that is put among its fields.
abbrev pub OwnChanges : Result (Tree × Tree) Tree → List ℕ → Fields → Fields → Result Value Stop → Type 0
OwnChanges meant name old new (Ok v) = (meant then put_own name old) ≡ Ok (new, tree_of v)
OwnChanges meant name old new (Err (Throws refusal)) = IsErr (meant then with_own name old)
OwnChanges meant name old new (Err NoRoom) = Unit {0}
