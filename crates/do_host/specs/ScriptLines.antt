-- The lines that tell of a script: compact JSON (RFC 8259) with an LF. This project's profile.
use Rattle.std.specs.Prelude.{◌≡◌, ◌⊎◌, ◌++◌, ℕ, List, [], ◌∷◌, map, codes}
use Rattle.serde_json.specs.Data.{Data, unsigned, number, string, array, no_items, item}
use Rattle.serde_json.specs.View.{items_of}
use Rattle.serde_json.specs.Written.{compact_text}
use Rattle.do_tree.specs.Tree.{Class, Script}
use Rattle.line_server.specs.Cut.{line_end}
use Rattle.do_host.specs.Scripts.{IsAccepted, IsRefused}

-- `["script-refused",place,kind]`: where the script's first fault stands, and what it is.
abbrev pub refused_json : ℕ → List ℕ → Data
refused_json place word = array (item (string (codes "script-refused")) (item (number (unsigned place)) (item (string word) no_items)))

abbrev pub refused_line : ℕ → List ℕ → List ℕ
refused_line place word = compact_text (refused_json place word) ++ line_end ∷ []

-- The names of the classes, in the order of the text.
abbrev pub class_names : List Class → Data
class_names classes = array (items_of (map (λ class. string class.name.text) classes))

-- `["script",[names]]`: the classes of an accepted script.
abbrev pub script_json : List Class → Data
script_json classes = array (item (string (codes "script")) (item (class_names classes) no_items))

abbrev pub script_line : Script → List ℕ
script_line tree = compact_text (script_json tree.classes) ++ line_end ∷ []

-- The line tells why this text is refused.
pub record IsRefusalLine (text line : List ℕ) : Type 0 where
  pub place : ℕ
  pub word : List ℕ
  pub refused : IsRefused text place word
  pub line_is : line ≡ refused_line place word

-- The line tells the classes of this text, which is accepted.
pub record IsScriptLine (text line : List ℕ) : Type 0 where
  pub tree : Script
  pub accepted : IsAccepted text tree
  pub line_is : line ≡ script_line tree

-- The line tells of this text what `check` finds.
abbrev pub IsCheckLine : List ℕ → List ℕ → Type 0
IsCheckLine text line = IsScriptLine text line ⊎ IsRefusalLine text line
