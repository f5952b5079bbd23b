-- The items of lists and the pairs of records.
use Rattle.std.specs.Prelude.{ℕ, ◌+◌, ◌-◌, min, pos, negsuc, ℤ, List, [], ◌∷◌, slice_range, Option, Some, None, Result, Ok, Err}
use Rattle.do_value.specs.Tree.{Tree, undefined, number, Trees, no_trees, tree, Pairs, no_pairs, pair, items}
use Rattle.script_ops.specs.Errors.{wrong_type}

-- The items of a list, and the pairs of a record, in order.
abbrev pub items_of : Trees → List Tree
items_of no_trees = []
items_of (tree t ts) = t ∷ items_of ts

abbrev pub fields_of : Pairs → List (List ℕ × Tree)
fields_of no_pairs = []
fields_of (pair k t ps) = (k, t) ∷ fields_of ps

-- The place of the first that passes the test, counted from that place, or -1.
abbrev pub place : Option ℕ → ℤ
place (Some i) = pos i
place None = negsuc 0

-- Where a place lies in a list of so many items, as JavaScript's `slice` counts: a negative one counts from the end, and
-- what lies outside is the nearer end.
abbrev pub place_in : ℕ → ℤ → ℕ
place_in count (pos n) = min count n
place_in count (negsuc n) = count - (n + 1)

-- An end of a slice: a number, or where it is `undefined` the end that stands for it.
abbrev pub bound : ℕ → ℕ → Tree → Option ℕ
bound count standard undefined = Some standard
bound count standard (number z) = Some (place_in count z)
bound count standard _ = None

-- The list of the items from one place up to another, none where they run backwards.
abbrev pub cut : List Tree → Option ℕ → Option ℕ → Result Tree Tree
cut ts (Some from) (Some to) = Ok (items (slice_range ts from to))
cut ts _ _ = Err wrong_type
