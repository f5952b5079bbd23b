-- A slot whose object another slot has.
use Rattle.std.proofs.Common.{◌≡◌, ◌<◌, ⊎_elim, ℕ, Option, Some, None, Result, Err, refl, sym, subst}
use Rattle.std.proofs.lemmas.Bool.{cases_lt}
use Rattle.std.specs.Prelude.{IsOkUnless}
use Rattle.placement.specs.Laws.{SlotOfIsWhere}
use Rattle.placement.specs.Slots.{Slots, IsOneEach, object_at, slot_of}
use Rattle.placement.specs.declared.answers.AdoptFault.{AdoptFault}
use Rattle.placement.specs.declared.answers.AdoptFault.TheVariants.{Twice, NoMemory}
use Rattle.storage_map.specs.Limits.{Object}
use Rattle.host_core.specs.Begun.{AreFreeFrom}

-- an answer that is a fault, and one for an object in two slots, which is none of want of memory
abbrev fails : AdoptFault → Result (Unit {0}) AdoptFault
fails fault = Err fault

abbrev IsTwice : (named : Slots) (slot : ℕ) → Object → AdoptFault → Type 0
IsTwice named slot object fault = (first : ℕ) → slot_of named object ≡ Some first → fails fault ≡ fails (Twice first slot)

not_wanting : (a b : ℕ) (fault : AdoptFault) → fault ≡ Twice a b → IsOkUnless (fails fault) NoMemory → ⊥
not_wanting a b fault is wanting = cc

-- a free slot has no object
none_there : (named : Slots) (at : ℕ) (object : Object) → object_at named at ≡ Some object → object_at named at ≡ None → ⊥
none_there named at object some none = cc

-- the object of a slot stands before all slots that are free
before_free : (named : Slots) (slot at : ℕ) (object : Object) → AreFreeFrom slot named → object_at named at ≡ Some object → at < slot
before_free named slot at object free some =
    ⊎_elim (λ less. less) (λ more. absurd (none_there named at object some (free at more))) (cases_lt at slot)

-- what is said of a slot that isn't given this object
abbrev StandsBefore : (named : Slots) (slot : ℕ) → Object → (a b : ℕ) → Type 0
StandsBefore named slot object a b = (b ≡ slot) × (a < slot) × ((other : Object) × (Some object ≡ Some other) × (object_at named a ≡ Some other))

twice_by : (named : Slots) (slot : ℕ) (object : Object) (a b : ℕ) (fault : AdoptFault) (has : Option ℕ) → fault ≡ Twice a b → slot_of named object ≡ has
    → SlotOfIsWhere → IsOneEach named → AreFreeFrom slot named → IsTwice named slot object fault → (slot_of named object ≡ None → IsOkUnless (fails fault) NoMemory)
    → StandsBefore named slot object a b
twice_by named slot object a b fault None by is where_is one_each free two once = absurd (not_wanting a b fault by (once is))
twice_by named slot object a b fault (Some first) by is where_is one_each free two once =
    let same : fails fault ≡ fails (Twice first slot) = two first is in
    let at : a ≡ first = cc in
    let stands : object_at named a ≡ Some object = subst (λ (n : ℕ). object_at named n ≡ Some object) (sym at) ((where_is.some named object first one_each).0 is) in
    (cc, before_free named slot a object free stands, (object, refl, stands))

-- an object that has a slot stands there, before all that are free
pub twice_before : (named : Slots) (slot : ℕ) (object : Object) (a b : ℕ) (fault : AdoptFault) → fault ≡ Twice a b
    → SlotOfIsWhere → IsOneEach named → AreFreeFrom slot named → IsTwice named slot object fault → (slot_of named object ≡ None → IsOkUnless (fails fault) NoMemory)
    → StandsBefore named slot object a b
twice_before named slot object a b fault by = twice_by named slot object a b fault (slot_of named object) by refl
