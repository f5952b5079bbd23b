-- What a line of the input asks, read from its JSON (this project's profile). Values are read as those of scripts.
use Rattle.std.specs.Prelude.{ℕ, ◌+◌, ◌^◌, pos, ℤ, List, [], ◌∷◌, length, Bool, false, if◌then◌else◌, nat_lt, nat_le, codes, Option, Some, None, option_map, option_and_then, Result, Ok, Err}
use Rattle.std.specs.Str.{bytes_eq}
use Rattle.std.specs.Option.{option_map_or}
use Rattle.serde_json.specs.Data.{Data, Items, no_items, item}
use Rattle.serde_json.specs.Find.{as_number, as_u64, as_str, as_array}
use Rattle.do_value.specs.Limits.{most_bytes}
use Rattle.do_value.specs.Tree.{Tree}
use Rattle.do_wire.specs.Reading.{reading_of}
use Rattle.storage_map.specs.Limits.{most_name_bytes}

-- A request, its values as trees, its object as the bytes of class and name.
pub data Asked : Type 0 where
  call : ℤ → List ℕ × List ℕ → List ℕ → List Tree → Asked
  tick : ℤ → Asked
  fetched : ℕ → Tree → Asked
  fetch_failed : ℕ → Asked
  evict : List ℕ × List ℕ → Asked

-- the items of an array
abbrev pub list_of : Items → List Data
list_of no_items = []
list_of (item d ds) = d ∷ list_of ds

-- the text is this word
abbrev pub is_word : List ℕ → Data → Bool
is_word word d = option_map_or (λ s. bytes_eq s word) (as_str d) false

-- a whole number from 0 to 2^53 - 1
abbrev pub whole_in : Data → Option ℕ
whole_in d = option_and_then (λ n. if nat_lt n (2 ^ 53) then Some n else None) (option_and_then as_u64 (as_number d))

-- a text within the limit of values
abbrev pub text_in : Data → Option (List ℕ)
text_in d = option_and_then (λ s. if nat_le (5 + length s) most_bytes then Some s else None) (as_str d)

-- an object: texts, of which the name has at most 1,024 bytes
abbrev pub object_in : Data → Data → Option (List ℕ × List ℕ)
object_in class name =
    option_and_then (λ c. option_and_then (λ n. if nat_le (length n) most_name_bytes then Some (c, n) else None) (text_in name)) (text_in class)

-- the value of an answer
abbrev pub ok_of : {T E : Type 0} → Result T E → Option T
ok_of (Ok x) = Some x
ok_of (Err e) = None

-- a value
abbrev pub value_in : Data → Option Tree
value_in d = ok_of (reading_of d)

-- a value of each item
abbrev pub values_of : Items → Option (List Tree)
values_of no_items = Some []
values_of (item d ds) = option_and_then (λ t. option_map (λ ts. t ∷ ts) (values_of ds)) (value_in d)

-- an array of values
abbrev pub values_in : Data → Option (List Tree)
values_in d = option_and_then values_of (as_array d)

-- ["tick",t] or ["fetch-failed",k]
abbrev pub two_parts : Data → Data → Option Asked
two_parts word n =
    if is_word (codes "tick") word then option_map (λ t. tick (pos t)) (whole_in n)
    else (if is_word (codes "fetch-failed") word then option_map fetch_failed (whole_in n)
    else None)

abbrev pub fetched_in : Data → Data → Option Asked
fetched_in n value = option_and_then (λ k. option_map (fetched k) (value_in value)) (whole_in n)

abbrev pub evict_in : Data → Data → Option Asked
evict_in class name = option_map evict (object_in class name)

-- ["fetched",k,value] or ["evict",class,name]
abbrev pub three_parts : Data → Data → Data → Option Asked
three_parts word first second =
    if is_word (codes "fetched") word then fetched_in first second
    else (if is_word (codes "evict") word then evict_in first second
    else None)

-- a call of number n of an object
abbrev pub call_to : ℕ → List ℕ × List ℕ → Data → Data → Option Asked
call_to n to method args = option_and_then (λ m. option_map (call (pos n) to m) (values_in args)) (text_in method)

abbrev pub call_in : Data → Data → Data → Data → Data → Option Asked
call_in n class name method args =
    option_and_then (λ k. option_and_then (λ to. call_to k to method args) (object_in class name)) (whole_in n)

-- ["call",n,class,name,method,args]
abbrev pub six_parts : Data → Data → Data → Data → Data → Data → Option Asked
six_parts word n class name method args = if is_word (codes "call") word then call_in n class name method args else None

-- the request of the parts
abbrev pub parts_ask : List Data → Option Asked
parts_ask (word ∷ n ∷ []) = two_parts word n
parts_ask (word ∷ first ∷ second ∷ []) = three_parts word first second
parts_ask (word ∷ n ∷ class ∷ name ∷ method ∷ args ∷ []) = six_parts word n class name method args
parts_ask _ = None

-- the request of a line's JSON
abbrev pub asked_in : Data → Option Asked
asked_in d = option_and_then (λ ds. parts_ask (list_of ds)) (as_array d)
