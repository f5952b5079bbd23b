-- The errors that scripts are thrown.
use Rattle.std.specs.Prelude.{ℕ, nat_lt, if◌then◌else◌, List, [], codes, Result, Ok, Err}
use Rattle.do_value.specs.Limits.{most_bytes, most_levels}
use Rattle.do_value.specs.Tree.{Tree, text, rec, no_pairs, pair, size_of, depth_of}

-- An error is a record of its message and its name, as JavaScript's error objects have them. The keys ascend.
abbrev pub error_record : List ℕ → List ℕ → Tree
error_record name message = rec (pair (codes "message") (text message) (pair (codes "name") (text name) no_pairs))

-- A value is of a kind that the operator doesn't take (this project's profile).
abbrev pub wrong_type : Tree
wrong_type = error_record (codes "TypeError") (codes "type")

-- `null` and `undefined` have no properties, as in JavaScript.
abbrev pub no_property : Tree
no_property = error_record (codes "TypeError") (codes "property")

-- A number that isn't from -(2^53 - 1) to 2^53 - 1, or a text that is no number (this project's profile).
abbrev pub no_number : Tree
no_number = error_record (codes "RangeError") (codes "number")

-- A quotient that isn't whole (this project's profile).
abbrev pub not_whole : Tree
not_whole = error_record (codes "RangeError") (codes "divide")

-- A text is split by the empty text (this project's profile).
abbrev pub no_separator : Tree
no_separator = error_record (codes "RangeError") (codes "separator")

-- A value passes the limit of depth, or of size (this project's profile).
abbrev pub too_deep : Tree
too_deep = error_record (codes "RangeError") (codes "depth")

abbrev pub too_large : Tree
too_large = error_record (codes "RangeError") (codes "size")

-- An index of a wrong kind.
abbrev pub wrong_index : Tree
wrong_index = error_record (codes "TypeError") (codes "index")

-- An item behind the end of a list, or before it, is written.
abbrev pub no_index : Tree
no_index = error_record (codes "RangeError") (codes "index")

-- A key, a value or a batch that is too long to be stored.
abbrev pub key_long : Tree
key_long = error_record (codes "RangeError") (codes "key")

abbrev pub value_long : Tree
value_long = error_record (codes "RangeError") (codes "value")

abbrev pub batch_full : Tree
batch_full = error_record (codes "RangeError") (codes "batch")

-- Too many keys or pairs in one call, or a limit below 1.
abbrev pub bad_count : Tree
bad_count = error_record (codes "RangeError") (codes "count")

-- An alarm before the time 0.
abbrev pub bad_time : Tree
bad_time = error_record (codes "RangeError") (codes "time")

-- The name of an object that is too long.
abbrev pub name_long : Tree
name_long = error_record (codes "RangeError") (codes "name")

-- Helper calls are too deep inside each other.
abbrev pub nested_too_deep : Tree
nested_too_deep = error_record (codes "RangeError") (codes "nesting")

-- A transaction's handle is used after its rollback.
abbrev pub rolled_back : Tree
rolled_back = error_record (codes "Error") (codes "rollback")

-- A block is opened inside a block.
abbrev pub block_in_block : Tree
block_in_block = error_record (codes "Error") (codes "block")

-- A call of an object by an object, 17 deep (this project's profile).
abbrev pub call_too_deep : Tree
call_too_deep = error_record (codes "Depth") []

-- One call or fetch more than a task may make (this project's profile).
abbrev pub too_many_calls : Tree
too_many_calls = error_record (codes "TooManyCalls") []

-- A fetch that failed.
abbrev pub fetch_failed : Tree
fetch_failed = error_record (codes "FetchError") []

-- A call of another object that failed, with the word of the failure.
abbrev pub call_failed : List ℕ → Tree
call_failed word = error_record (codes "CallError") word

-- The value where the limits allow it. Else it is too deep, or else too large (this project's profile).
abbrev pub within_limits : Tree → Result Tree Tree
within_limits t = if nat_lt most_levels (depth_of t) then Err too_deep else (if nat_lt most_bytes (size_of t) then Err too_large else Ok t)
