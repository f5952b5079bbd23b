-- What the matches of a parse ask for.
use Rattle.std.specs.Prelude.{List, Option, Some, None}
use Rattle.clap.specs.Words.{Row, first_of}
use Rattle.command_words.specs.Words.{Text}
use Rattle.command_words.specs.Asked.{Asked, usage, asked_by}

abbrev pub asked_at : Option (Text × List Row) → Asked
asked_at None = usage
asked_at (Some p) = asked_by p.0 (λ id. first_of id p.1)
