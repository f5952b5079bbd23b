-- What the words ask for.
use Rattle.std.specs.Prelude.{ℕ, ◌^◌, ◌-◌, List, [], ◌∷◌, Option, Some, None, if◌then◌else◌, codes}
use Rattle.std.specs.Str.{bytes_eq}
use Rattle.do_disk.specs.Slots.{most_slots}
use Rattle.command_words.specs.Numbers.{number_in, number_or}
use Rattle.command_words.specs.Words.{Text, Named, under, is_once, told}

-- a command, with what it is told
pub data Asked : Type 0 where
  serves : (script folder : Text) → (slots workers journal : ℕ) → Asked
  checks : (script : Text) → Asked
  dumps : (folder : Text) → (slots : ℕ) → Asked
  gens : (seed count : ℕ) → (folder : Text) → Asked
  usage : Asked

abbrev pub slots_in : Option Text → Option ℕ
slots_in = number_or 16 1 most_slots

abbrev pub workers_in : Option Text → Option ℕ
workers_in = number_or 4 1 16

abbrev pub journal_in : Option Text → Option ℕ
journal_in = number_or 1073741824 4096 (2 ^ 40)

abbrev pub seed_in : Option Text → Option ℕ
seed_in = number_in (2 ^ 64 - 1)

abbrev pub count_in : Option Text → Option ℕ
count_in = number_in 1000000

-- each command, where nothing that it wants is missing, and each number is one
abbrev pub serves_if : Option Text → Option Text → Option ℕ → Option ℕ → Option ℕ → Asked
serves_if (Some script) (Some folder) (Some slots) (Some workers) (Some journal) = serves script folder slots workers journal
serves_if _ _ _ _ _ = usage

abbrev pub checks_if : Option Text → Asked
checks_if (Some script) = checks script
checks_if None = usage

abbrev pub dumps_if : Option Text → Option ℕ → Asked
dumps_if (Some folder) (Some slots) = dumps folder slots
dumps_if _ _ = usage

abbrev pub gens_if : Option ℕ → Option ℕ → Option Text → Asked
gens_if (Some seed) (Some count) (Some folder) = gens seed count folder
gens_if _ _ _ = usage

-- what each command asks for, by the word that stands under each name
abbrev pub serve_by : (Text → Option Text) → Asked
serve_by word = serves_if (word (codes "script")) (word (codes "folder")) (slots_in (word (codes "slots")))
    (workers_in (word (codes "workers"))) (journal_in (word (codes "journal-bytes")))

abbrev pub check_by : (Text → Option Text) → Asked
check_by word = checks_if (word (codes "script"))

abbrev pub dump_by : (Text → Option Text) → Asked
dump_by word = dumps_if (word (codes "folder")) (slots_in (word (codes "slots")))

abbrev pub gen_by : (Text → Option Text) → Asked
gen_by word = gens_if (seed_in (word (codes "seed"))) (count_in (word (codes "count"))) (word (codes "folder"))

abbrev pub asked_by : Text → (Text → Option Text) → Asked
asked_by command word =
    if bytes_eq (codes "serve") command then serve_by word
    else (if bytes_eq (codes "check") command then check_by word
    else (if bytes_eq (codes "dump") command then dump_by word
    else (if bytes_eq (codes "gen") command then gen_by word else usage)))

-- the options and the places of a command
abbrev pub options_of : Text → List Text
options_of command =
    if bytes_eq (codes "serve") command then codes "slots" ∷ codes "workers" ∷ codes "journal-bytes" ∷ []
    else (if bytes_eq (codes "dump") command then codes "slots" ∷ [] else [])

abbrev pub places_of : Text → List Text
places_of command =
    if bytes_eq (codes "serve") command then codes "script" ∷ codes "folder" ∷ []
    else (if bytes_eq (codes "check") command then codes "script" ∷ []
    else (if bytes_eq (codes "dump") command then codes "folder" ∷ []
    else (if bytes_eq (codes "gen") command then codes "seed" ∷ codes "count" ∷ codes "folder" ∷ [] else [])))

abbrev pub asked_once : Text → Option Named → Asked
asked_once command None = usage
asked_once command (Some named) = if is_once named then asked_by command (λ name. under name named) else usage

-- what the words ask for: the command is the first of them, and each name stands at most once in what the others tell
abbrev pub asked : List Text → Asked
asked [] = usage
asked (command ∷ words) = asked_once command (told (options_of command) words (places_of command) None)
