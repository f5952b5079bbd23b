-- What mounting one slot gives, and how its object begins.
use Rattle.std.specs.Prelude.{◌≡◌, ◌≢◌, ◌<◌, ◌≤◌, ℕ, List, [], length, slice_get, Option, Some, None, ⊤}
use Rattle.batch_journal.specs.Mounting.{IsMountOf}
use Rattle.batch_journal.specs.Rest.{IsStaged, limit_of}
use Rattle.batch_journal.specs.declared.mount.Mounted.{Mounted}
use Rattle.batch_journal.specs.declared.mount.MountFault.{MountFault}
use Rattle.batch_journal.specs.declared.mount.MountFault.TheVariants as fault
use Rattle.do_tree.specs.Tree.{Script}
use Rattle.host_workers.specs.declared.joining.Halves.{Halves}
use Rattle.object_core.specs.One.{AreFresh, mounted_at}
use Rattle.output_gate.specs.Serving.{IsBack}
use Rattle.placement.specs.Slots.{Slots, IsOneEach, object_at}
use Rattle.storage_map.specs.Limits.{Object}
use Rattle.storage_map.specs.declared.op.Op.{Op}
use Rattle.host_core.specs.Slots.{IsBegun}
use Rattle.host_core.specs.declared.opening.OpenEnd.{OpenEnd}
use Rattle.host_core.specs.declared.opening.OpenEnd.TheVariants.{Failed, BadSlot, NoMemory}
use Rattle.host_core.specs.declared.settings.Bad.TheVariants as bad

-- No slot from this one on has an object.
abbrev pub AreFreeFrom : ℕ → Slots → Type 0
AreFreeFrom at named = (slot : ℕ) → at ≤ slot → object_at named slot ≡ None

-- At most this slot got an object, and no object stands in two.
pub record OnlyAt (at : ℕ) (old new : Slots) : Type 0 where
  pub many : length new ≡ length old
  pub one_each : IsOneEach new
  pub others : (slot : ℕ) → slot ≢ at → object_at new slot ≡ object_at old slot

-- Why the slot isn't given this object: an earlier slot has it, or memory was wanting.
abbrev pub IsNotTaken : Slots → ℕ → Option Object → OpenEnd → Type 0
IsNotTaken named at object (BadSlot (bad.Twice a b)) = (b ≡ at) × (a < at) × ((twice : Object) × (object ≡ Some twice) × (object_at named a ≡ Some twice))
IsNotTaken named at object NoMemory = ⊤
IsNotTaken named at object end = ⊥

-- How opening ends whose slot isn't mounted for this fault.
abbrev pub mounting_end : {D : Type 0} → ℕ → MountFault D → OpenEnd
mounting_end slot (fault.DiskFailed disk) = Failed
mounting_end slot (fault.Foreign disk place) = BadSlot (bad.Foreign slot place)
mounting_end slot (fault.Damaged disk place) = BadSlot (bad.Damaged slot place)
mounting_end slot (fault.Mixed disk first other) = BadSlot (bad.Mixed slot first other)
mounting_end slot (fault.NoMemory disk) = NoMemory

-- What was mounted of a slot's disk before its first call, whose file has this content. It has this object, nothing is staged, and its journal
-- may have so many bytes.
pub record IsMountedAt {D : Type 0} (moment_of : D → ℕ) (left_since : D → ℕ → List ℕ → Type 0) (told : D → Option (List ℕ)) (image : D → List ℕ → Type 0)
    (limit : ℕ) (content : Option (List ℕ)) (named : Option Object) (mounted : Mounted D) : Type 0 where
  pub disk : D
  pub first : moment_of disk ≡ 0
  pub content_is : told disk ≡ content
  pub mount : IsMountOf told image moment_of left_since disk mounted
  pub object : mounted.identity ≡ named
  pub staged : (any : Object) → IsStaged mounted.journal any []
  pub limited : limit_of mounted.journal ≡ limit

-- The halves of a slot that was just mounted, whose file had this content, and which names this object; its journal may have so many bytes.
pub record HasBegun {D : Type 0} (moment_of : D → ℕ) (left_since : D → ℕ → List ℕ → Type 0) (told : D → Option (List ℕ)) (image : D → List ℕ → Type 0)
    (faults_of : D → ℕ)
    (limit : ℕ) (script : Script) (content : Option (List ℕ)) (named : Option Object) (halves : Halves D) : Type 0 where
  pub start : List (List Op)
  pub opening : ℕ
  pub fresh : AreFresh script halves.front.half halves.back
  pub stands : IsBack moment_of left_since told image faults_of start opening halves.back
  pub begun : IsBegun limit content named (mounted_at start opening halves.back)

-- Those of each slot from slot 0 on.
abbrev pub AreBegun : {D : Type 0} → (D → ℕ) → (D → ℕ → List ℕ → Type 0) → (D → Option (List ℕ)) → (D → List ℕ → Type 0) → (D → ℕ) → (limit : ℕ) → Script
    → (contents : ℕ → Option (List ℕ)) → (named : Slots) → List (Halves D) → Type 0
AreBegun {D} moment_of left_since told image faults_of limit script contents named all = (slot : ℕ) (halves : Halves D) → slice_get all slot ≡ Some halves
    → HasBegun moment_of left_since told image faults_of limit script (contents slot) (object_at named slot) halves
