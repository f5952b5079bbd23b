-- Where a run of the switch posts: a law, proved by a function of `laws`.
use Rattle.std.specs.Prelude.{◌≡◌, ℕ, true, List, Option, is_some}
use Rattle.std.specs.List.{AllByRecursion}
use Rattle.do_tree.specs.Tree.{Script}
use Rattle.timeline.specs.Lines.{Identity}
use Rattle.timeline.specs.Switch.{IsSwitchRun, Switch, SwitchLog, object_at, opened}
use Rattle.timeline.specs.declared.caller.Caller.TheVariants as from
use Rattle.timeline.specs.declared.event.Event.{Event}
use Rattle.timeline.specs.declared.event.Event.TheVariants as event

-- The slot has an object.
abbrev pub HasObject : Switch → ℕ → Type 0
HasObject s slot = is_some (object_at s slot) ≡ true

-- An object that calls has its slot.
abbrev pub IsCalledFrom : Switch → Event → Type 0
IsCalledFrom s (event.Call (from.Object other incarnation number) method args depth at) = HasObject s other
IsCalledFrom s e = Unit {0}

abbrev pub IsPlaced : Switch → ℕ × Event → Type 0
IsPlaced s (slot, e) = HasObject s slot × IsCalledFrom s e

-- Each event is posted to a slot that has an object, and each call of an object comes from one that has one.
abbrev pub PostsArePlaced : Type 0
PostsArePlaced = (script : Script) (named : List (Option Identity)) (log : SwitchLog) (s : Switch) → IsSwitchRun script (opened named) log s
    → AllByRecursion (IsPlaced s) log.posts
