-- The numbered lines of the input, each a request or a refusal (this project's profile).
use Rattle.std.specs.Prelude.{ℕ, ◌+◌, List, [], ◌∷◌, ◌++◌, length, filter, if◌then◌else◌, nat_lt, nat_le, Option, Some, None, Result, Ok, Err}
use Rattle.std.specs.Str.{is_utf8}
use Rattle.serde_json.specs.Data.{Data}
use Rattle.serde_json.specs.Read.{read}
use Rattle.line_server.specs.Cut.{lines, is_blank}
use Rattle.line_server.specs.Asked.{Asked, asked_in}
use Rattle.line_server.specs.Limits.{most_line_bytes}
use Rattle.line_server.specs.declared.refusal.Refusal.{Refusal}
use Rattle.line_server.specs.declared.refusal.Refusal.TheVariants.{Long, Json, Shape}

-- A line by its number, the first being 1, with what it asks or why it is refused.
pub record SeenLine : Type 0 where
  pub number : ℕ
  pub body : Result Asked Refusal

-- the JSON of a line: UTF-8 that `serde_json` reads as one value (RFC 8259, nested at most 127 deep)
abbrev pub json_of_line : List ℕ → Option Data
json_of_line line = if is_utf8 line then read line else None

-- JSON of no known form is refused as `Shape`
abbrev pub or_shape : Option Asked → Result Asked Refusal
or_shape None = Err Shape
or_shape (Some asked) = Ok asked

-- what is no JSON is refused as `Json`
abbrev pub or_json : Option Data → Result Asked Refusal
or_json None = Err Json
or_json (Some d) = or_shape (asked_in d)

-- a line of more bytes than the limit is refused as `Long`, whatever it holds
abbrev pub body_of : List ℕ → Result Asked Refusal
body_of line = if nat_lt most_line_bytes (length line) then Err Long else or_json (json_of_line line)

-- nothing of a blank line
abbrev pub seen_at : ℕ → List ℕ → List SeenLine
seen_at n line = if is_blank line then [] else record { number = n; body = body_of line } ∷ []

-- the lines from number n + 1 on, without the blank ones
abbrev pub numbered : ℕ → List (List ℕ) → List SeenLine
numbered n [] = []
numbered n (line ∷ more) = seen_at (n + 1) line ++ numbered (n + 1) more

-- the requests and refusals of the bytes, where n lines stood before these
abbrev pub requests_after : ℕ → List ℕ → List SeenLine
requests_after n bytes = numbered n (lines bytes)

-- the requests and refusals of the bytes
abbrev pub requests : List ℕ → List SeenLine
requests = requests_after 0

-- those of the first n lines
abbrev pub through : ℕ → List SeenLine → List SeenLine
through n = filter (λ line. nat_le line.number n)
