-- The value that JSON is read as, or why it is refused.
use Rattle.std.specs.Prelude.{pos, ℤ, nat_lt, if◌then◌else◌, unwrap_or, Option, Some, None, Result, Ok, Err}
use Rattle.serde_json.specs.Data as json
use Rattle.serde_json.specs.Find.{as_integer}
use Rattle.do_value.specs.Limits.{most_bytes, most_levels}
use Rattle.do_value.specs.Tree.{Tree, null, boolean, number, text, list, rec, Trees, no_trees, tree, Pairs, no_pairs, pair, size_of, depth_of}
use Rattle.do_value.specs.declared.fault.BuildFault as build
use Rattle.do_value.specs.declared.fault.BuildFault.TheVariants as built
use Rattle.do_wire.specs.Numbers.{numbers, first_fault}
use Rattle.do_wire.specs.declared.fault.WireFault.{WireFault}
use Rattle.do_wire.specs.declared.fault.WireFault.TheVariants.{TooDeep, TooLarge, NoMemory}

-- The integer that a number is. A float, which `first_fault` refuses, stands as 0.
abbrev pub whole_of : json.Num → ℤ
whole_of n = unwrap_or (as_integer n) (pos 0)

-- The tree of JSON whose numbers are whole: arrays are lists, objects records (this project's profile).
abbrev mutual
  pub tree_in : json.Data → Tree
  tree_in json.null = null
  tree_in (json.boolean b) = boolean b
  tree_in (json.number n) = number (whole_of n)
  tree_in (json.string s) = text s
  tree_in (json.array ds) = list (trees_in_items ds)
  tree_in (json.object ms) = rec (pairs_in_members ms)

  pub trees_in_items : json.Items → Trees
  trees_in_items json.no_items = no_trees
  trees_in_items (json.item d ds) = tree (tree_in d) (trees_in_items ds)

  pub pairs_in_members : json.Members → Pairs
  pairs_in_members json.no_members = no_pairs
  pairs_in_members (json.member k d ms) = pair k (tree_in d) (pairs_in_members ms)

-- The tree within the limits of values. Else it is too deep, or else too large (this project's profile).
abbrev pub within_limits : Tree → Result Tree WireFault
within_limits t = if nat_lt most_levels (depth_of t) then Err TooDeep else (if nat_lt most_bytes (size_of t) then Err TooLarge else Ok t)

-- The answer, unless there is a fault.
abbrev pub unless_fault : Option WireFault → Result Tree WireFault → Result Tree WireFault
unless_fault (Some e) answer = Err e
unless_fault None answer = answer

-- What JSON is read as: the first refused number decides, wherever it stands; else the depth, then the size; else it is the
-- tree (this project's profile).
abbrev pub reading_of : json.Data → Result Tree WireFault
reading_of d = unless_fault (first_fault (numbers d)) (within_limits (tree_in d))

-- The cause for which a value isn't built, among those of JSON that isn't read.
abbrev pub wire_fault_of : build.BuildFault → WireFault
wire_fault_of built.TooDeep = TooDeep
wire_fault_of (built.TooLarge size limit) = TooLarge
wire_fault_of built.NoMemory = NoMemory
