-- The numbers under which events wait, by what lets them enter.
use Rattle.std.specs.Prelude.{◌≡◌, ◌≤◌, ◌<◌, ◌^◌, ℕ, ◌==◌, ◌&&◌, ◌||◌, not, Bool, true, false, List, Option, Some, None, MatchOption}
use Rattle.std.specs.Ordering.{nat_cmp, ordering_then}
use Rattle.std.specs.declared.cmp.Ordering.{Ordering}
use Rattle.std.specs.BTreeMap.{BTreeMap, IsOrdered}
use Rattle.std.specs.BTreeSet.{contains}
use Rattle.object_calls.specs.Numbered.{under, AreAtMost}
use Rattle.timeline.specs.declared.event.Event.{Event}
use Rattle.timeline.specs.declared.event.Event.TheVariants.{Bind, Answer, Evict}
use Rattle.input_gate.specs.declared.doors.Doors.{Doors}

-- A door lets through all but evictions, or a `Bind`, or answers under a number.
pub data Door : Type 0 where
  staying : Door
  bind : Door
  answer : ℕ → Door

abbrev pub lets_through : Door → Event → Bool
lets_through staying (Evict at) = false
lets_through staying event = true
lets_through bind (Bind identity) = true
lets_through bind event = false
lets_through (answer number) (Answer incarnation under result at) = under == number
lets_through (answer number) event = false

-- Two numbers are ordered one after the other.
abbrev pub by_both : ℕ × ℕ → ℕ × ℕ → Ordering
by_both x y = ordering_then (nat_cmp x.0 y.0) (nat_cmp x.1 y.1)

-- The event of this number stands before the door.
abbrev pub stands : Doors → Door → ℕ → Bool
stands doors staying k = contains nat_cmp doors.staying k
stands doors bind k = contains nat_cmp doors.binds k
stands doors (answer number) k = contains by_both doors.answers (number, k)

-- An event more stands before its doors; one fewer does.
abbrev pub StandsToo : Event → ℕ → Doors → Doors → Type 0
StandsToo event number old new = (d : Door) (k : ℕ) → stands new d k ≡ (stands old d k || (k == number && lets_through d event))

abbrev pub Leaves : Event → ℕ → Doors → Doors → Type 0
Leaves event number old new = (d : Door) (k : ℕ) → stands new d k ≡ (stands old d k && not (k == number && lets_through d event))

abbrev pub StandsAsBefore : Doors → Doors → Type 0
StandsAsBefore old new = (d : Door) (k : ℕ) → stands new d k ≡ stands old d k

-- No event of this number stands anywhere.
abbrev pub IsNew : Doors → ℕ → Type 0
IsNew doors number = (d : Door) → stands doors d number ≡ false

-- There is an event, and it is one of these.
abbrev pub is_among : (Event → Bool) → Option Event → Bool
is_among may None = false
is_among may (Some event) = may event

-- Each event stands before its doors, and nothing else does.
abbrev pub AreDoors : List (ℕ × Event) → Doors → Type 0
AreDoors events doors = (d : Door) (k : ℕ) → stands doors d k ≡ is_among (lets_through d) (under k events)

-- The least number of 64 bits that passes the test, if one does.
abbrev pub IsLeast : (ℕ → Bool) → ℕ → Type 0
IsLeast test k = (test k ≡ true) × ((j : ℕ) → test j ≡ true → j < 2 ^ 64 → k ≤ j)

abbrev pub FindsLeast : (ℕ → Bool) → Option ℕ → Type 0
FindsLeast test found = MatchOption found ((j : ℕ) → j < 2 ^ 64 → test j ≡ false) (IsLeast test)

-- The events stand in the order of their numbers, none past those that were given out.
pub record IsIndexed (came : ℕ) (events : BTreeMap ℕ Event) (doors : Doors) : Type 0 where
  pub numbers : AreAtMost came events.entries
  pub small : came < 2 ^ 64
  pub ordered : IsOrdered nat_cmp events
  pub placed : AreDoors events.entries doors
