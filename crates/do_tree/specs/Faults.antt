-- What the check refuses: the first fault of a script, by its place, and at one place by the order of the kinds.
use Rattle.std.specs.Prelude.{◌≡◌, ℕ, ◌<◌, ◌≤◌, ◌⊎◌}
use Rattle.do_tree.specs.Names.{IsDoubled, IsReserved, IsUnbound, IsConstAssigned, IsBadTarget, IsNoMember, IsAwaitInSync, IsLoopExit}
use Rattle.do_tree.specs.Asking.{IsNoForm, IsNotAwaited, IsAwaitOfSync, IsInTransaction, IsInBlock, IsStartTwice}
use Rattle.do_tree.specs.Tree.{Script}
use Rattle.do_tree.specs.declared.kind.CheckKind.{CheckKind}
use Rattle.do_tree.specs.declared.kind.CheckKind.TheVariants as kind

-- A fault of this kind stands at this place of the script. Want of memory is none.
abbrev pub IsFault : Script → ℕ → CheckKind → Type 0
IsFault s at kind.Doubled = IsDoubled s at
IsFault s at kind.Reserved = IsReserved s at
IsFault s at kind.Unbound = IsUnbound s at
IsFault s at kind.ConstAssigned = IsConstAssigned s at
IsFault s at kind.BadTarget = IsBadTarget s at
IsFault s at kind.Form = IsNoForm s at
IsFault s at kind.NoMember = IsNoMember s at
IsFault s at kind.AwaitInSync = IsAwaitInSync s at
IsFault s at kind.NotAwaited = IsNotAwaited s at
IsFault s at kind.AwaitOfSync = IsAwaitOfSync s at
IsFault s at kind.InTransaction = IsInTransaction s at
IsFault s at kind.InBlock = IsInBlock s at
IsFault s at kind.LoopExit = IsLoopExit s at
IsFault s at kind.StartTwice = IsStartTwice s at
IsFault s at kind.NoMemory = ⊥

-- A script without a fault.
abbrev pub IsFaultless : Script → Type 0
IsFaultless s = (at : ℕ) (k : CheckKind) → ¬ IsFault s at k

-- The order of the kinds.
abbrev pub rank : CheckKind → ℕ
rank kind.Doubled = 0
rank kind.Reserved = 1
rank kind.Unbound = 2
rank kind.ConstAssigned = 3
rank kind.BadTarget = 4
rank kind.Form = 5
rank kind.NoMember = 6
rank kind.AwaitInSync = 7
rank kind.NotAwaited = 8
rank kind.AwaitOfSync = 9
rank kind.InTransaction = 10
rank kind.InBlock = 11
rank kind.LoopExit = 12
rank kind.StartTwice = 13
rank kind.NoMemory = 14

-- No fault stands before this one: a smaller place comes first, and at one place the kind that is earlier in the order.
abbrev pub IsNotAfter : ℕ → CheckKind → ℕ → CheckKind → Type 0
IsNotAfter at k other_at other = (at < other_at) ⊎ ((at ≡ other_at) × (rank k ≤ rank other))

pub record IsFirstFault (s : Script) (at : ℕ) (k : CheckKind) : Type 0 where
  pub is : IsFault s at k
  pub first : (other_at : ℕ) (other : CheckKind) → IsFault s other_at other → IsNotAfter at k other_at other
