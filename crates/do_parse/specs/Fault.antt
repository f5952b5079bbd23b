-- What each fault of a text says.
use Rattle.std.specs.Prelude.{◌≡◌, ◌<◌, ◌≤◌, ◌⊎◌, ℕ, List, [], ◌∷◌, ◌++◌, length, Option, Some, None}
use Rattle.do_lex.specs.declared.fault.LexFault.{LexFault}
use Rattle.do_lex.specs.declared.fault.LexFault.TheVariants as lex
use Rattle.do_lex.specs.Limits.{most_script_bytes}
use Rattle.do_tree.specs.Accepts.{most_inside, AreLexemes, Begins, IsTokenFault, IsUnexpected, EndsEarly, IsTooNested}
use Rattle.do_tree.specs.Lexeme.{Lexeme}
use Rattle.do_parse.specs.declared.fault.ParseFault.{ParseFault}
use Rattle.do_parse.specs.declared.fault.ParseKind.{ParseKind}
use Rattle.do_parse.specs.declared.fault.ParseKind.TheVariants as kind

-- The first token that is held by too many phrases: so it is in each script that begins with the tokens up to it, of
-- which there is one.
pub record IsNestedTooFar (text : List ℕ) (at : ℕ) : Type 0 where
  pub nested : IsTooNested text at
  pub each : (tokens : List Lexeme) (token : Lexeme) → AreLexemes text (nested.before ++ nested.span ∷ []) (tokens ++ token ∷ [])
      → Begins (tokens ++ token ∷ []) → most_inside < token.inside

-- The text has no more bytes than a script may have.
abbrev pub IsWithinLimit : List ℕ → Type 0
IsWithinLimit text = length text ≤ most_script_bytes

-- The fault at this place of this text. That the text is too long comes first. Of want of memory nothing is said but the
-- place.
abbrev pub IsFaultAt : List ℕ → ParseKind → ℕ → Type 0
IsFaultAt text kind.TooLong at = (most_script_bytes < length text) × (at ≡ most_script_bytes)
IsFaultAt text kind.BadChar at = IsWithinLimit text × IsTokenFault text (lex.BadChar at)
IsFaultAt text kind.OpenText at = IsWithinLimit text × IsTokenFault text (lex.OpenText at)
IsFaultAt text kind.LongNumber at = IsWithinLimit text × IsTokenFault text (lex.LongNumber at)
IsFaultAt text kind.Unexpected at = IsWithinLimit text × (IsUnexpected text at ⊎ EndsEarly text at)
IsFaultAt text kind.TooNested at = IsWithinLimit text × IsNestedTooFar text at
IsFaultAt text kind.NoMemory at = at ≡ 0

abbrev pub IsFault : List ℕ → ParseFault → Type 0
IsFault text fault = IsFaultAt text fault.kind fault.place

-- A token's fault, as the parser answers it.
abbrev pub of_token : LexFault → ParseFault
of_token (lex.BadChar at) = record { place = at; kind = kind.BadChar }
of_token (lex.OpenText at) = record { place = at; kind = kind.OpenText }
of_token (lex.LongNumber at) = record { place = at; kind = kind.LongNumber }

-- Where no script begins with what is left: at the next token, else at the fault behind the tokens, else at the text's end.
abbrev pub wrong_at : Option ℕ → Option LexFault → ℕ → ParseFault
wrong_at (Some at) last end = record { place = at; kind = kind.Unexpected }
wrong_at None (Some fault) end = of_token fault
wrong_at None None end = record { place = end; kind = kind.Unexpected }
