-- The rule of a lane: what was sent is what was taken, and then what waits. One pass at most may send, and it has the list of what
-- was sent; the same for taking. What a pass was told of was sent. No pass is void.
use Rattle.std.specs.Prelude.{◌≡◌, ℕ, Bool, true, false, List, ◌++◌}
use mathlib.Core.Option.{some}
use lib.ListN.{get_elem?}
use Rattle.lane.specs.Lanes.{StartsWith}
use Rattle.lane.specs.declared.rule.Log.{Log}

module _ {T : Type 0} where
  abbrev pub log : Bool → Bool → List T → List T → List T → Log T
  log a b told sent got = record { sends = a; takes = b; void = false; told = told; sent = sent; got = got }

  abbrev pub void_log : List T → Log T
  void_log told = record { sends = false; takes = false; void = true; told = told; sent = told; got = told }

  abbrev pub Fits : ℕ → ℕ → List T → List T → ℕ → Log T → Type 0
  Fits writer reader sent got port v =
      (v.void ≡ false)
      × (v.sends ≡ true → (port ≡ writer) × (v.sent ≡ sent))
      × (v.takes ≡ true → (port ≡ reader) × (v.got ≡ got))
      × StartsWith sent v.told

  abbrev pub Ordered : List T → List (Log T) → Type 0
  Ordered items views = (writer : ℕ) × (reader : ℕ) × (sent : List T) × (got : List T) × (sent ≡ got ++ items)
      × ((port : ℕ) (v : Log T) → get_elem? views port ≡ some v → Fits writer reader sent got port v)
