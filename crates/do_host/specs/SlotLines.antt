-- The lines that tell of slots, which are counted from 0: compact JSON (RFC 8259) with an LF. This project's profile.
use Rattle.std.specs.Prelude.{ℕ, ℤ, List, [], ◌∷◌, ◌++◌, codes}
use Rattle.serde_json.specs.Data.{Data, unsigned, number, string, array, no_items, item}
use Rattle.serde_json.specs.Find.{of_integer}
use Rattle.serde_json.specs.Written.{compact_text}
use Rattle.do_value.specs.Seen.{tree_of}
use Rattle.do_value.specs.declared.value.Value.{Value}
use Rattle.do_wire.specs.Json.{json_of}
use Rattle.storage_map.specs.Limits.{Object}
use Rattle.host_core.specs.declared.settings.Bad.{Bad}
use Rattle.host_core.specs.declared.settings.Bad.TheVariants.{Foreign, Damaged, Mixed, Twice}
use Rattle.line_server.specs.Cut.{line_end}

-- the line of this JSON
abbrev pub line_of_json : Data → List ℕ
line_of_json json = compact_text json ++ line_end ∷ []

-- the number of a slot
abbrev pub slot_json : ℕ → Data
slot_json slot = number (unsigned slot)

-- `["object",slot,class,name]`
abbrev pub object_json : ℕ → Object → Data
object_json slot object = array (item (string (codes "object")) (item (slot_json slot) (item (string object.0) (item (string object.1) no_items))))

abbrev pub object_line : ℕ → Object → List ℕ
object_line slot object = line_of_json (object_json slot object)

-- `["pair",slot,key,value]`, the value as in a reply
abbrev pub pair_json : ℕ → List ℕ → Value → Data
pair_json slot key value = array (item (string (codes "pair")) (item (slot_json slot) (item (string key) (item (json_of (tree_of value)) no_items))))

abbrev pub pair_line : ℕ → List ℕ × Value → List ℕ
pair_line slot pair = line_of_json (pair_json slot pair.0 pair.1)

-- `["alarm",slot,time,retry]`, the time in milliseconds
abbrev pub alarm_json : ℕ → ℤ × ℕ → Data
alarm_json slot alarm =
    array (item (string (codes "alarm")) (item (slot_json slot) (item (number (of_integer alarm.0)) (item (number (unsigned alarm.1)) no_items))))

abbrev pub alarm_line : ℕ → ℤ × ℕ → List ℕ
alarm_line slot alarm = line_of_json (alarm_json slot alarm)

-- `["foreign",slot,place]` or `["damaged",slot,place]`, the place in bytes from 0
abbrev pub place_json : List ℕ → ℕ → ℕ → Data
place_json word slot place = array (item (string word) (item (slot_json slot) (item (number (unsigned place)) no_items)))

abbrev pub place_line : List ℕ → ℕ → ℕ → List ℕ
place_line word slot place = line_of_json (place_json word slot place)

-- `["mixed",slot,class,name,class,name]`: the object of the first frames, and then the other one
abbrev pub mixed_json : ℕ → Object → Object → Data
mixed_json slot first other =
    array (item (string (codes "mixed")) (item (slot_json slot) (item (string first.0) (item (string first.1)
    (item (string other.0) (item (string other.1) no_items))))))

abbrev pub mixed_line : ℕ → Object → Object → List ℕ
mixed_line slot first other = line_of_json (mixed_json slot first other)

-- `["twice",a,b]`: slot b names the object of slot a
abbrev pub twice_json : ℕ → ℕ → Data
twice_json a b = array (item (string (codes "twice")) (item (slot_json a) (item (slot_json b) no_items)))

abbrev pub twice_line : ℕ → ℕ → List ℕ
twice_line a b = line_of_json (twice_json a b)

-- The line that tells why a slot is bad.
abbrev pub bad_line : Bad → List ℕ
bad_line (Foreign slot place) = place_line (codes "foreign") slot place
bad_line (Damaged slot place) = place_line (codes "damaged") slot place
bad_line (Mixed slot first other) = mixed_line slot first other
bad_line (Twice a b) = twice_line a b
