-- How the directory keeps its slots: texts have numbers, and the numbers of a class and a name lead to the object's slot.
use Rattle.std.specs.Prelude.{◌≡◌, ◌≢◌, ℕ, zero, suc, ◌<◌, ◌≤◌, Bool, ◌&&◌, if◌then◌else◌, is_some, nat_eq, List, [], ◌∷◌, ◌++◌, length, Option, Some, None, position}
use Rattle.std.specs.Str.{bytes_eq}
use Rattle.storage_map.specs.Limits.{Object}
use Rattle.placement.specs.Slots.{Slots}

-- so many slots, each with the object that it has
abbrev pub listed : (ℕ → Option Object) → ℕ → Slots
listed objects zero = []
listed objects (suc slots) = listed objects slots ++ objects slots ∷ []

-- the number of a text: its place among the texts
abbrev pub number_of : List (List ℕ) → List ℕ → Option ℕ
number_of texts text = position (bytes_eq text) texts

-- the texts with this one, which comes last if it is new
abbrev pub noted : List (List ℕ) → List ℕ → List (List ℕ)
noted texts text = if is_some (number_of texts text) then texts else texts ++ text ∷ []

-- both are the same two numbers
abbrev pub same_numbers : ℕ × ℕ → ℕ × ℕ → Bool
same_numbers a b = nat_eq a.0 b.0 && nat_eq a.1 b.1

-- the slot under the numbers of a class and a name, where both have one
abbrev pub under : (ℕ × ℕ → Option ℕ) → Option ℕ → Option ℕ → Option ℕ
under named None name = None
under named (Some class) None = None
under named (Some class) (Some name) = named (class, name)

-- the slot to which an object's class and name lead
abbrev pub leads_to : (ℕ × ℕ → Option ℕ) → List (List ℕ) → Object → Option ℕ
leads_to named texts object = under named (number_of texts object.0) (number_of texts object.1)

-- each slot from the first on to this one has an object; this one has none, or is the number of slots
pub record IsFirstWithout (objects : ℕ → Option Object) (first slots slot : ℕ) : Type 0 where
  pub behind : first ≤ slot
  pub within : slot ≤ slots
  pub taken : (other : ℕ) → first ≤ other → other < slot → objects other ≢ None
  pub free : slot < slots → objects slot ≡ None

-- the numbers of each object lead to its slot and to no other; each slot that was passed has an object
pub record IsIndex (slots passed : ℕ) (texts : List (List ℕ)) (named : ℕ × ℕ → Option ℕ) (objects : ℕ → Option Object) : Type 0 where
  pub known : (numbers : ℕ × ℕ) (slot : ℕ) → named numbers ≡ Some slot → (numbers.0 < length texts) × (numbers.1 < length texts)
  pub stands : (object : Object) (slot : ℕ) → leads_to named texts object ≡ Some slot → objects slot ≡ Some object
  pub leads : (object : Object) (slot : ℕ) → objects slot ≡ Some object → leads_to named texts object ≡ Some slot
  pub within : (slot : ℕ) → slots ≤ slot → objects slot ≡ None
  pub taken : (slot : ℕ) → slot < passed → objects slot ≢ None
  pub behind : passed ≤ slots
