-- A script as a whole.
use Rattle.std.specs.Prelude.{ℕ, List, [], ◌∷◌, Option, Some, None, Ok, Err}
use Rattle.do_lex.specs.Next.{IsNext}
use Rattle.do_lex.specs.declared.pieces.Span.{Span}
use Rattle.do_lex.specs.declared.fault.LexFault.{LexFault}

-- The tokens of a script from a place on, each read from the end of the one before it, and what comes
-- after the last of them: the script's end, or a fault.
abbrev pub IsCut : List ℕ → ℕ → List Span → Option LexFault → Type 0
IsCut text at [] None = IsNext text at (Ok None)
IsCut text at [] (Some fault) = IsNext text at (Err fault)
IsCut text at (span ∷ spans) last = IsNext text at (Ok (Some span)) × IsCut text span.end spans last
