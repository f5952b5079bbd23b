-- What a read gives of its source, and what a reader gives of its reads.
use Rattle.std.proofs.Common.{◌≡◌, ◌≤◌, ℕ, List, [], ◌++◌, length, take, drop, Option, Some, None, Result, Ok, option_map, refl, ap, ◌∙◌, arith}
use Rattle.std.proofs.lemmas.Grind.{common_steps}
use Rattle.std.proofs.lemmas.List.{append-nil}
use Rattle.line_server.specs.Reader.{StartsWith, Moved, bytes_of}

-- the bytes that a read of n gave, with what it left
pub read_starts : (before into : List ℕ) (n : ℕ) (old after : Option (List ℕ)) → old ≡ Some before → take n into ≡ take n before → after ≡ option_map (drop n) old → StartsWith before (take n into) after
read_starts before into n old after told given left = record {
  rest = drop n before;
  told = left ∙ ap (option_map (drop n)) told;
  whole = rw given (grind (arith, common_steps));
}

-- a read of nothing leaves nothing where nothing was left
pub nothing_left : (n : ℕ) (old : Option (List ℕ)) (rest : List ℕ) → ((bytes : List ℕ) → old ≡ Some bytes → bytes ≡ []) → option_map (drop n) old ≡ Some rest → rest ≡ []
nothing_left n None rest none e = cc
nothing_left n (Some bytes) rest none e = let nil : bytes ≡ [] = none bytes refl in grind (arith, common_steps)

-- where no byte was given, none was read
pub nothing_read : (n : ℕ) (into : List ℕ) → take n into ≡ [] → n ≤ length into → n ≡ 0
nothing_read n into e le = let none : length (take n into) ≡ 0 = ap length e in grind (arith, common_steps)

-- a byte that was held is given with nothing read
pub given_held : (before held given holds : List ℕ) (after : Option (List ℕ)) → after ≡ Some before → held ≡ given ++ holds → Moved before after held given holds
given_held before held given holds after told e = record {
  piece = [];
  source = record { rest = before; told = told; whole = refl };
  reader = append-nil held ∙ e;
}

-- where nothing was held, what is given is of the piece that was read
pub given_read : (before piece held given holds : List ℕ) (after : Option (List ℕ)) → StartsWith before piece after → held ≡ [] → piece ≡ given ++ holds → Moved before after held given holds
given_read before piece held given holds after read none e = record {
  piece = piece;
  source = read;
  reader = rw none e;
}

-- where no byte was given, none is held, and what follows from that holds
pub none_given : {E P : Type 0} (o : Option ℕ) (held holds : List ℕ) → (r : Result (Option ℕ) E) → r ≡ Ok o → r ≡ Ok None → bytes_of o ++ holds ≡ held → (o ≡ None → held ≡ []) → (held ≡ [] → P) → (holds ≡ []) × P
none_given o held holds r was is taken none then = let no : o ≡ None = cc in let nil : held ≡ [] = none no in (rw no at taken ∙ nil, then nil)
