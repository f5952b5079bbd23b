-- The calls that read their arguments alone.
use Rattle.std.specs.Prelude.{ℕ, pos, Bool, true, false, nat_eq, List, [], ◌∷◌, map, length, slice_get, unwrap_or, codes, Option, Some, None, Result, Ok, Err}
use Rattle.std.specs.List.{starts_with, ends_with, list_any, position_from}
use Rattle.do_value.specs.declared.operator.Builtin.{Builtin}
use Rattle.do_value.specs.declared.operator.Builtin.TheVariants.{Length, Includes, IndexOf, Slice, StartsWith, EndsWith}
use Rattle.do_value.specs.declared.operator.Builtin.TheVariants.{Split, Keys, IsArray, ToText, ToNumber, MakeError}
use Rattle.do_value.specs.Tree.{Tree, undefined, null, boolean, number, text, list, rec, items}
use Rattle.do_value.specs.Keyed.{value_at}
use Rattle.script_ops.specs.Errors.{error_record, wrong_type, no_property, no_separator, within_limits}
use Rattle.script_ops.specs.Same.{same}
use Rattle.script_ops.specs.Texts.{printed, unit_count, occurs, pieces, number_in}
use Rattle.script_ops.specs.Lists.{items_of, fields_of, place, bound, cut}

-- An argument by its place. A missing one is `undefined`, as in JavaScript.
abbrev pub argument : ℕ → List Tree → Tree
argument i args = unwrap_or (slice_get args i) undefined

-- `x.length`: the units of UTF-16 of a text, the items of a list, a record's field, as in JavaScript.
abbrev pub length_of : Tree → Result Tree Tree
length_of undefined = Err no_property
length_of null = Err no_property
length_of (boolean b) = Ok undefined
length_of (number z) = Ok undefined
length_of (text bytes) = Ok (number (pos (unit_count bytes)))
length_of (list ts) = Ok (number (pos (length (items_of ts))))
length_of (rec ps) = Ok (unwrap_or (value_at (codes "length") (fields_of ps)) undefined)

-- `x.includes(part)`: an item that is the same, or a text within a text.
abbrev pub includes : Tree → Tree → Result Tree Tree
includes (list ts) t = Ok (boolean (list_any (same t) (items_of ts)))
includes (text bytes) (text part) = Ok (boolean (occurs part bytes))
includes _ _ = Err wrong_type

-- `x.indexOf(part)`: the place of the first item that is the same, counted from 0, or -1.
abbrev pub index_of : Tree → Tree → Result Tree Tree
index_of (list ts) t = Ok (number (place (position_from (same t) 0 (items_of ts))))
index_of _ _ = Err wrong_type

-- `x.slice(start, end)`: the items from the start up to the end.
abbrev pub slice : Tree → Tree → Tree → Result Tree Tree
slice (list ts) start end = let count = length (items_of ts) in cut (items_of ts) (bound count 0 start) (bound count count end)
slice _ _ _ = Err wrong_type

-- A test of two texts.
abbrev pub on_texts : (List ℕ → List ℕ → Bool) → Tree → Tree → Result Tree Tree
on_texts test (text bytes) (text part) = Ok (boolean (test bytes part))
on_texts test _ _ = Err wrong_type

-- `x.split(separator)`: the pieces of a text. The empty text separates nothing (this project's profile).
abbrev pub split : Tree → Tree → Result Tree Tree
split (text bytes) (text []) = Err no_separator
split (text bytes) (text (c ∷ cs)) = within_limits (items (map text (pieces (c ∷ cs) bytes)))
split _ _ = Err wrong_type

-- `Object.keys(x)` of a record, in ascending order of their bytes (this project's profile).
abbrev pub keys : Tree → Result Tree Tree
keys (rec ps) = Ok (items (map (λ (p : List ℕ × Tree). text p.0) (fields_of ps)))
keys _ = Err wrong_type

-- `Array.isArray(x)`.
abbrev pub is_array : Tree → Bool
is_array (list ts) = true
is_array _ = false

-- What is made of the text of a value, where it has one.
abbrev pub on_text : (List ℕ → Result Tree Tree) → Option (List ℕ) → Result Tree Tree
on_text make (Some bytes) = make bytes
on_text make None = Err wrong_type

-- `Number(x)` of a text.
abbrev pub to_number : Tree → Result Tree Tree
to_number (text bytes) = number_in bytes
to_number _ = Err wrong_type

-- `new Error(message)`: a record of the name and the message as a text, empty where the call has no argument.
abbrev pub make_error : List Tree → Result Tree Tree
make_error [] = Ok (error_record (codes "Error") [])
make_error (t ∷ ts) = on_text (λ message. within_limits (error_record (codes "Error") message)) (printed t)

-- The value of the call, or what it throws. Arguments past the named ones are dropped.
unfoldable pub builtin : Builtin → List Tree → Result Tree Tree
builtin Length args = length_of (argument 0 args)
builtin Includes args = includes (argument 0 args) (argument 1 args)
builtin IndexOf args = index_of (argument 0 args) (argument 1 args)
builtin Slice args = slice (argument 0 args) (argument 1 args) (argument 2 args)
builtin StartsWith args = on_texts (starts_with nat_eq) (argument 0 args) (argument 1 args)
builtin EndsWith args = on_texts (ends_with nat_eq) (argument 0 args) (argument 1 args)
builtin Split args = split (argument 0 args) (argument 1 args)
builtin Keys args = keys (argument 0 args)
builtin IsArray args = Ok (boolean (is_array (argument 0 args)))
builtin ToText args = on_text (λ bytes. Ok (text bytes)) (printed (argument 0 args))
builtin ToNumber args = to_number (argument 0 args)
builtin MakeError args = make_error args
