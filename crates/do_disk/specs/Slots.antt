-- How many slots a run takes of a folder. This project's profile.
use Rattle.std.specs.Prelude.{ℕ}

-- the most slots; a law of the words says that the program's constant is it
abbrev pub most_slots : ℕ
most_slots = 256
