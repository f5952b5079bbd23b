-- The first of some faults.
use Rattle.std.specs.Prelude.{◌≡◌, ◌≢◌, ℕ, Bool, ◌&&◌, ◌||◌, ◌==◌, nat_lt, if◌then◌else◌, List, [], ◌∷◌, Option, Some, None}
use Rattle.do_check.specs.declared.fault.CheckFault.{CheckFault}
use Rattle.do_tree.specs.Faults.{IsFirstFault, rank}
use Rattle.do_tree.specs.Tree.{Script}
use Rattle.do_tree.specs.declared.kind.CheckKind.{CheckKind}
use Rattle.do_tree.specs.declared.kind.CheckKind.TheVariants as kind

-- The smaller place comes first, and at one place the kind that is earlier in the order.
abbrev pub is_before : CheckFault → CheckFault → Bool
is_before f g = nat_lt f.place g.place || ((f.place == g.place) && nat_lt (rank f.kind) (rank g.kind))

-- The first of the fault that was found, if any, and this one.
abbrev pub kept : Option CheckFault → CheckFault → Option CheckFault
kept None f = Some f
kept (Some g) f = if is_before f g then Some f else Some g

-- The first of the fault that was found, if any, and these.
abbrev pub least : Option CheckFault → List CheckFault → Option CheckFault
least found [] = found
least found (f ∷ fs) = least (kept found f) fs

-- Why a script is refused: its first fault, or want of memory, of which nothing is said but the place.
abbrev pub IsRefusal : Script → CheckFault → Type 0
IsRefusal s f = (f.kind ≢ kind.NoMemory → IsFirstFault s f.place f.kind) × (f.kind ≡ kind.NoMemory → f.place ≡ 0)
