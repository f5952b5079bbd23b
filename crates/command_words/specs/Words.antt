-- What the words after a command's name tell. A text is its bytes; 45 is `-`.
use Rattle.std.specs.Prelude.{ℕ, ◌==◌, Bool, true, false, List, [], ◌∷◌, Option, Some, None, is_some, option_map, if◌then◌else◌}
use Rattle.std.specs.List.{list_any}
use Rattle.std.specs.Map.{lookup}
use Rattle.std.specs.Str.{bytes_eq}
use Rattle.clap.specs.Lexer.{long_of}

abbrev pub Text : Type 0
Text = List ℕ

-- words, each under its name, in the order in which they stand
abbrev pub Named : Type 0
Named = List (Text × Text)

-- the word under a name
abbrev pub under : Text → Named → Option Text
under name = lookup (λ other. bytes_eq other name)

abbrev pub is_among : Text → List Text → Bool
is_among name = list_any (λ other. bytes_eq other name)

-- no name stands twice
abbrev pub is_once : Named → Bool
is_once [] = true
is_once (first ∷ rest) = if is_some (under first.0 rest) then false else is_once rest

-- the word has a hyphen first, and more than that
abbrev pub is_flag : Text → Bool
is_flag [] = false
is_flag (x ∷ []) = false
is_flag (x ∷ y ∷ rest) = x == 45

abbrev pub with_word : Text → Text → Option Named → Option Named
with_word name word = option_map (λ rest. (name, word) ∷ rest)

-- the words after `--`, which all go to places
abbrev pub told_places : List Text → List Text → Option Named
told_places places [] = Some []
told_places [] (word ∷ words) = None
told_places (place ∷ places) (word ∷ words) = with_word place word (told_places places words)

-- a word that goes to the first place that is left
abbrev pub told_place : List Text → Text → (List Text → Option Named) → Option Named
told_place [] word rest = None
told_place (place ∷ places) word rest = with_word place word (rest places)

-- `--name=value`, or `--name` where the value is the next word
abbrev pub told_value : Text → Option Text → (Option Text → Option Named) → Option Named
told_value name None rest = rest (Some name)
told_value name (Some value) rest = with_word name value (rest None)

abbrev pub told_option : List Text → Option (Text × Option Text) → (Option Text → Option Named) → Option Named
told_option options None rest = None
told_option options (Some p) rest = if is_among p.0 options then told_value p.0 p.1 rest else None

-- one word: the value of the option that waits for it, or else `--`, an option, or a word for a place
abbrev pub told_word : List Text → List Text → Option Text → Text → List Text → (List Text → Option Text → Option Named) → Option Named
told_word options places (Some name) word words rest = if is_flag word then None else with_word name word (rest places None)
told_word options places None word words rest =
    if bytes_eq word (45 ∷ 45 ∷ []) then told_places places words
    else (if is_flag word then told_option options (long_of word) (rest places)
    else told_place places word (λ left. rest left None))

-- What the words tell, each under its name: the value of an option under the option's, and the other words under those of
-- the places, in order. A word with a hyphen first is an option, also where a value is wanted; after `--` none is. Nothing
-- where a word is no option of the command, has no place, or an option that waits has no value.
unfoldable pub told : List Text → List Text → List Text → Option Text → Option Named
told options [] places waiting = if is_some waiting then None else Some []
told options (word ∷ words) places waiting = told_word options places waiting word words (told options words)
