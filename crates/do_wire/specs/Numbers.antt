-- The numbers of JSON, and the first of them that no value has.
use Rattle.std.specs.Prelude.{◌++◌, ℤ, nat_abs, Bool, nat_le, if◌then◌else◌, List, [], ◌∷◌, Option, Some, None}
use Rattle.std.specs.Option.{option_or}
use Rattle.do_value.specs.Limits.{most_number}
use Rattle.serde_json.specs.Data.{Num, Data, null, boolean, number, string, array, object, Items, no_items, item, Members, no_members, member}
use Rattle.serde_json.specs.Find.{as_integer}
use Rattle.do_wire.specs.declared.fault.WireFault.{WireFault}
use Rattle.do_wire.specs.declared.fault.WireFault.TheVariants.{Float, RangeNum}

-- All numbers in order: of an array from its first item on, of an object by ascending keys (this project's profile).
abbrev mutual
  pub numbers : Data → List Num
  numbers null = []
  numbers (boolean b) = []
  numbers (number n) = n ∷ []
  numbers (string s) = []
  numbers (array ds) = item_numbers ds
  numbers (object ms) = member_numbers ms

  pub item_numbers : Items → List Num
  item_numbers no_items = []
  item_numbers (item d ds) = numbers d ++ item_numbers ds

  pub member_numbers : Members → List Num
  member_numbers no_members = []
  member_numbers (member k d ms) = numbers d ++ member_numbers ms

-- The number is one that values have.
abbrev pub is_safe : ℤ → Bool
is_safe z = nat_le (nat_abs z) most_number

-- Why a number is refused that is this integer, or none since it is kept as neither an i64 nor a u64 (this project's profile).
abbrev pub integer_fault : Option ℤ → Option WireFault
integer_fault None = Some Float
integer_fault (Some z) = if is_safe z then None else Some RangeNum

-- Why a number is refused, if it is (this project's profile).
abbrev pub fault_of : Num → Option WireFault
fault_of n = integer_fault (as_integer n)

-- Why the first refused number is refused.
abbrev pub first_fault : List Num → Option WireFault
first_fault [] = None
first_fault (n ∷ ns) = option_or (fault_of n) (first_fault ns)
