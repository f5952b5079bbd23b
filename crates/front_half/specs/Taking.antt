-- What a front does with an event or a notice that it takes.
use Rattle.std.specs.Prelude.{◌≡◌, ℕ, Bool, true, false, if◌then◌else◌, List, [], ◌∷◌, ◌++◌, take, slice_get, option_to_list, Option, Some, None, unwrap_or}
use Rattle.std.specs.List.{list_any, remove}
use Rattle.do_tree.specs.Lookup.{class_named}
use Rattle.do_tree.specs.Tree.{Script}
use Rattle.timeline.specs.Eligible.{is_eligible, is_stale, is_early, is_fit}
use Rattle.timeline.specs.Intake.{Mode, serves, down, Taken, delivered, noticed, wanted, takes, FitsMode}
use Rattle.timeline.specs.Object.{idle, waiting, ended, State}
use Rattle.timeline.specs.declared.event.Event.{Event}
use Rattle.timeline.specs.declared.event.Event.TheVariants as event
use Rattle.timeline.specs.declared.notice.Notice.{Notice}
use Rattle.timeline.specs.declared.notice.Notice.TheVariants as notice
use Rattle.front_half.specs.Standing.{Stood, kind_in}
use Rattle.front_half.specs.declared.testing.Doing.{Doing}
use Rattle.front_half.specs.declared.testing.Doing.TheVariants.{Delivers, Wants, Defers, Drops, Sticks}

-- A storage wait, a `Halt` or a `Mend` is open, so that only a notice is taken.
abbrev pub waits_in : State → Bool
waits_in (idle o) = false
waits_in (waiting o t b) = true
waits_in (ended cause) = true

abbrev pub waits : Mode → Bool
waits (serves st) = waits_in st
waits (down None) = false
waits (down (Some call)) = true

-- Whether a deferred event may be taken: while the object is down each may, since it asks for a mounting or is dropped.
abbrev pub may_enter : Mode → Event → Bool
may_enter (serves (idle o)) e = is_eligible o e
may_enter (serves st) e = false
may_enter (down call) e = true

-- What becomes of an event that is taken. An answer for which no task waits is dropped, but for one that comes too early.
abbrev pub stale : (early : Bool) → Doing
stale true = Sticks
stale false = Drops

abbrev pub at_down : ℕ → Event → Doing
at_down now (event.Call from method args depth at) = Wants
at_down now e = stale (is_early now 0 e)

abbrev pub at_mode : ℕ → Mode → Event → Doing
at_mode now (serves (idle o)) e = if is_stale now o e then stale (is_early now o.made e) else (if is_eligible o e then Delivers else Defers)
at_mode now (serves st) e = Defers
at_mode now (down call) e = at_down now e

abbrev pub doing : Script → Stood → Event → Doing
doing script st e = if is_fit script st.class e then at_mode st.front.incarnation st.front.mode e else Drops

-- The class that the front then has.
abbrev pub class_after : Script → Option ℕ → Event → Option ℕ
class_after script class (event.Bind identity) = class_named script identity.0
class_after script class e = class

-- Where what is taken leads: the front then, the item that was taken, and whether an event was dropped.
pub record Led : Type 0 where
  pub stood : Stood
  pub item : List Taken
  pub dropped : List Event

abbrev pub leads : Stood → List Taken → List Event → Led
leads st item dropped = record { stood = st; item = item; dropped = dropped }

abbrev pub delivers_to : Script → Stood → Option ℕ → Event → Led
delivers_to script st class e =
    leads (record st { class = class; front = takes (kind_in script (unwrap_or class 0)) st.front (delivered e) }) (delivered e ∷ []) []

abbrev pub does : Script → Stood → Event → Doing → Led
does script st e Delivers = delivers_to script st (class_after script st.class e) e
does script st e Wants = leads (record st { front = takes (kind_in script (unwrap_or st.class 0)) st.front (wanted e) }) (wanted e ∷ []) []
does script st e Defers = leads (record st { deferred = st.deferred ++ e ∷ [] }) [] []
does script st e Drops = leads st [] (e ∷ [])
does script st e Sticks = leads (record st { stuck = true }) [] []

abbrev pub on_event : Script → Stood → Event → Led
on_event script st e = does script st e (doing script st e)

-- The call that waited for a mounting is the first to be delivered once the object is mounted.
abbrev pub due_at : Mode → Notice → List Event
due_at (down call) (notice.Fresh incarnation alarm cause) = option_to_list call
due_at mode n = []

-- A notice that isn't the one that is waited for leaves the front stuck.
abbrev pub takes_notice : Script → Stood → Notice → Led
takes_notice script st n =
    leads (record st { front = takes (kind_in script (unwrap_or st.class 0)) st.front (noticed n); deferred = due_at st.front.mode n ++ st.deferred })
    (noticed n ∷ []) []

pub data IsLedBy (script : Script) (st : Stood) (n : Notice) : Led → Type 0 where
  fits : FitsMode st.front.said st.front.mode n → IsLedBy script st n (takes_notice script st n)
  sticks_at : (FitsMode st.front.said st.front.mode n → ⊥) → IsLedBy script st n (leads (record st { stuck = true }) [] [])

-- The first deferred event that may be taken, and the front without it.
pub record IsFirst (st : Stood) (place : ℕ) (e : Event) : Type 0 where
  pub there : slice_get st.deferred place ≡ Some e
  pub may : may_enter st.front.mode e ≡ true
  pub before : list_any (may_enter st.front.mode) (take place st.deferred) ≡ false

abbrev pub without : Stood → ℕ → Stood
without st place = record st { deferred = remove st.deferred place }
