-- The keys that lie ahead in the direction of a listing, and the nearest of them.
use Rattle.std.specs.Borrow.{Bor}
use Rattle.std.specs.Prelude.{◌≡◌, ℕ, ◌+◌, Bool, true, ◌&&◌, List, [], ◌∷◌, Option, None, Some, if◌then◌else◌}
use Rattle.std.specs.Str.{bytes_eq}
use Rattle.std.specs.List.{AllByRecursion, filter}
use Rattle.std.specs.List.Sorted.{IsStrictlySortedBy}
use Rattle.std.specs.Ordering.{is_lt, is_le}
use Rattle.std.specs.declared.cmp.Ordering.{Ordering}
use Rattle.std.specs.FinMap.{entries}
use Rattle.do_value.specs.declared.value.Value.{Value}
use Rattle.storage_map.specs.Contents.{Values, by_bytes}
use Rattle.storage_map.specs.Readings.{keeps, turned}
use Rattle.storage_map.specs.declared.op.Op.{Op}
use Rattle.storage_map.specs.declared.op.Op.TheVariants.{Put, Delete, DeleteAll, SetAlarm, ClearAlarm}
use Rattle.storage_map.specs.declared.options.Options.{Options}
use Rattle.storage_txn.specs.Overlay.{values_after}

-- the order of keys from the first to the last, or in reverse
abbrev pub toward : Bool → List ℕ → List ℕ → Ordering
toward reverse key other = if reverse then by_bytes other key else by_bytes key other

-- the key lies behind the last one that was passed, in this direction
abbrev pub is_ahead : Bool → Option (List ℕ) → List ℕ → Bool
is_ahead reverse None key = true
is_ahead reverse (Some last) key = is_lt (toward reverse last key)

-- what the options list ahead of the last key, without their limit, of these values after the operations
abbrev pub ahead : Options → Option (List ℕ) → Values → List Op → List (List ℕ × Value)
ahead o last values ops = turned o.reverse (filter (λ p. is_ahead o.reverse last p.0 && keeps o p.0) (entries (values_after values ops)))

-- pairs in this direction
abbrev pub IsToward : {V : Type 0} → Bool → List (List ℕ × V) → Type 0
IsToward reverse pairs = IsStrictlySortedBy (λ p q. toward reverse p.0 q.0) pairs

-- and all of them ahead
pub record IsLeft {V : Type 0} (reverse : Bool) (last : Option (List ℕ)) (pairs : List (List ℕ × V)) : Type 0 where
  pub sorted : IsToward reverse pairs
  pub ahead : AllByRecursion (λ p. is_ahead reverse last p.0 ≡ true) pairs

-- a pair that is held in front of the others
abbrev pub held_first : {V : Type 0} → Option (Bor (List ℕ) × Bor V) → List (List ℕ × V) → List (List ℕ × V)
held_first None pairs = pairs
held_first (Some p) pairs = (p.0.now, p.1.now) ∷ pairs

-- the value in front
abbrev pub first_value : {V : Type 0} → List (List ℕ × V) → Option V
first_value [] = None
first_value (p ∷ ps) = Some p.1

-- a pair of the key and its value, where it has one
abbrev pub pair_at : List ℕ → Option Value → List (List ℕ × Value)
pair_at key None = []
pair_at key (Some value) = (key, value) ∷ []

-- the key in front
abbrev pub first_key : {V : Type 0} → List (List ℕ × V) → Option (List ℕ)
first_key [] = None
first_key (p ∷ ps) = Some p.0

-- what stands in front, where it is this key's
abbrev pub at_front : {V : Type 0} → List ℕ → List (List ℕ × V) → Option V
at_front key [] = None
at_front key (p ∷ ps) = if bytes_eq key p.0 then Some p.1 else None

-- the others, where what stands in front is this key's; else all
abbrev pub without : {V : Type 0} → List ℕ → List (List ℕ × V) → List (List ℕ × V)
without key [] = []
without key (p ∷ ps) = if bytes_eq key p.0 then ps else (p ∷ ps)

-- the nearer of two keys
abbrev pub nearer : Bool → Option (List ℕ) → Option (List ℕ) → Option (List ℕ)
nearer reverse None other = other
nearer reverse (Some key) None = Some key
nearer reverse (Some key) (Some other) = if is_le (toward reverse key other) then Some key else Some other

-- the key that an operation is on
abbrev pub key_in : Op → Option (List ℕ)
key_in (Put key value) = Some key
key_in (Delete key) = Some key
key_in DeleteAll = None
key_in (SetAlarm time retry) = None
key_in ClearAlarm = None

-- the key, where it lies ahead
abbrev pub if_ahead : Bool → Option (List ℕ) → Option (List ℕ) → Option (List ℕ)
if_ahead reverse last None = None
if_ahead reverse last (Some key) = if is_ahead reverse last key then Some key else None

-- the nearest of a key and those ahead that operations are on
abbrev pub nearest_on : Bool → Option (List ℕ) → Option (List ℕ) → List Op → Option (List ℕ)
nearest_on reverse last found [] = found
nearest_on reverse last found (op ∷ ops) = nearest_on reverse last (nearer reverse found (if_ahead reverse last (key_in op))) ops

-- how many operations are on a key ahead
abbrev pub one_there : Option (List ℕ) → ℕ
one_there None = 0
one_there (Some key) = 1

abbrev pub count_ahead : Bool → Option (List ℕ) → List Op → ℕ
count_ahead reverse last [] = 0
count_ahead reverse last (op ∷ ops) = one_there (if_ahead reverse last (key_in op)) + count_ahead reverse last ops
