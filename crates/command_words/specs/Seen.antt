-- What a command asks for, whatever holds its texts.
use Rattle.std.specs.Prelude.{◌≤◌, ◌^◌, ℕ, ⊤, string_bytes}
use Rattle.do_disk.specs.Slots.{most_slots}
use Rattle.command_words.specs.Asked.{Asked, serves, checks, dumps, gens, usage}
use Rattle.command_words.specs.declared.command.Command.{Command}
use Rattle.command_words.specs.declared.command.Command.TheVariants.{Serve, Check, Dump, Gen, Usage}

abbrev pub asked_of : Command → Asked
asked_of (Serve told) = serves (string_bytes told.script) (string_bytes told.folder) told.slots told.workers told.journal
asked_of (Check script) = checks (string_bytes script)
asked_of (Dump folder slots) = dumps (string_bytes folder) slots
asked_of (Gen seed count folder) = gens seed count (string_bytes folder)
asked_of Usage = usage

abbrev pub IsWithin : ℕ → ℕ → ℕ → Type 0
IsWithin least most n = (least ≤ n) × (n ≤ most)

-- each number of a command lies in the range of its option
abbrev pub IsInRanges : Command → Type 0
IsInRanges (Serve told) = IsWithin 1 most_slots told.slots × IsWithin 1 16 told.workers × IsWithin 4096 (2 ^ 40) told.journal
IsInRanges (Dump folder slots) = IsWithin 1 most_slots slots
IsInRanges (Gen seed count folder) = IsWithin 0 1000000 count
IsInRanges _ = ⊤
