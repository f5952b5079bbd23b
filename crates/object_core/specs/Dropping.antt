-- What may stand among the events that an object's front dropped, where those that it got fit it.
use Rattle.std.specs.Prelude.{◌≡◌, ◌≢◌, ◌≤◌, ◌⊎◌, ℕ, ℤ, true, false, List, [], ◌∷◌, length, Option, Some, None}
use Rattle.std.specs.List.{All, Contains}
use Rattle.do_tree.specs.Tree.{Script}
use Rattle.timeline.specs.Eligible.{is_fit}
use Rattle.timeline.specs.Logs.{Fronted, fronted}
use Rattle.timeline.specs.declared.back_log.Missed.{Missed}
use Rattle.timeline.specs.declared.event.Event.{Event}
use Rattle.timeline.specs.declared.event.Event.TheVariants as event
use Rattle.object_front.specs.Came.{events, kept}
use Rattle.object_front.specs.Classed.{class_behind, class_by}
use Rattle.front_half.specs.Standing.{Stood, fresh, is_stopped}
use Rattle.front_half.specs.Taking.{class_after}
use Rattle.object_front.specs.declared.evaluated.Evaluated.{Evaluated}
use Rattle.front_half.specs.declared.half.Half.{Half}
use Rattle.object_messages.specs.Naming.{answered_in}

-- Each of these events is one that a front takes of the class that it then has, or hasn't: it is bound once, before all else, to an object of
-- a class of the script; calls are of methods for callers; and moments are in range.
abbrev pub AreFitting : Script → Option ℕ → List Event → Type 0
AreFitting script class [] = Unit {0}
AreFitting script class (e ∷ es) = (is_fit script class e ≡ true) × AreFitting script (class_after script class e) es

-- Of such events no call and no binding is dropped; a tick or an eviction only where a mounting has failed; and an answer only where its
-- incarnation has ended, or where one to the same call or fetch was delivered.
abbrev pub MayDrop : Fronted → (downs : List Missed) → Event → Type 0
MayDrop log downs (event.Bind identity) = ⊥
MayDrop log downs (event.Call from method args depth at) = ⊥
MayDrop log downs (event.Answer incarnation number result at) =
    (incarnation ≤ length log.ends) ⊎ Contains (answered_in (events log.delivered)) (incarnation, number)
MayDrop log downs (event.Tick at) = downs ≢ []
MayDrop log downs (event.Evict at) = downs ≢ []

-- What a front keeps fits its class.
abbrev pub IsFitFor : Script → ℕ → Event → Type 0
IsFitFor script class e = is_fit script (Some class) e ≡ true

-- A front was delivered nothing, answered no call by `Down`, has sent nothing, and no incarnation of it has ended.
pub record HasSaidNothing (log : Fronted) : Type 0 where
  pub delivered : log.delivered ≡ []
  pub downed : log.downed ≡ []
  pub sent : log.sent ≡ []
  pub ends : log.ends ≡ []

-- While memory suffices: a front without a class has taken nothing and said nothing, what it keeps fits its class, and that is the one
-- behind the events that it got, where these fit. Whether it suffices or not: a front without a class by its log has said nothing. Each
-- event that it dropped, where those that it got fit, may be.
pub record IsDropping (script : Script) (first : Option ℕ) (alarm : Option (ℤ × ℕ)) (front : Half Evaluated) (st : Stood) (downs : List Missed)
    (got : List Event) : Type 0 where
  pub unbound : is_stopped front ≡ false → st.class ≡ None → (st ≡ fresh None alarm) × (front.log.sent.items ≡ [])
  pub unsaid : class_by script first (fronted front.log) ≡ None → HasSaidNothing (fronted front.log)
  pub keeps : is_stopped front ≡ false → (class : ℕ) → st.class ≡ Some class → All (IsFitFor script class) (kept st)
  pub class : is_stopped front ≡ false → AreFitting script first got → st.class ≡ class_behind script first got
  pub dropped : AreFitting script first got → All (MayDrop (fronted front.log) downs) front.log.dropped.items
