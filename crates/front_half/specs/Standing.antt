-- How a front stands to what it has taken: what it holds is where the items lead, what it has logged is what they give, and each
-- item was one that the input gate lets through.
use Rattle.std.specs.Prelude.{◌≡◌, ◌≤◌, ℕ, ℤ, Bool, true, false, List, [], ◌++◌, length, map, drop, option_to_list, Option, Some, None, IfSome}
use Rattle.do_tree.specs.Lookup.{constructor_of}
use Rattle.do_tree.specs.Tree.{Script}
use Rattle.timeline.specs.Headline.{IsPrefix}
use Rattle.timeline.specs.Intake as intake
use Rattle.timeline.specs.Intake.{Kind, Mode, serves, down, opened, Taken, front_after, sent_by, delivered_in, downed_in, ends_in, IsIntake}
use Rattle.timeline.specs.Logs.{Fronted}
use Rattle.timeline.specs.Object.{Life}
use Rattle.timeline.specs.declared.event.Event.{Event}
use Rattle.front_turns.specs.Paused.{Paused, HasClass}
use Rattle.front_turns.specs.Held.{IsState, life_in}
use Rattle.front_half.specs.Gated.{IsGatedMode}
use Rattle.front_half.specs.declared.half.Half.{Half}
use Rattle.front_half.specs.declared.half.Mode.{Mode as HeldMode}
use Rattle.front_half.specs.declared.half.Mode.TheVariants as held

-- What a contract sees of a front beside its log: its class, if its slot has an object of one; the front of the definitions, in which
-- its incarnation, what that was delivered and has said, and how it stands; the events that are deferred, in order; whether it
-- stands still at a notice or an event that no back and no switch sends.
pub record Stood : Type 0 where
  pub class : Option ℕ
  pub front : intake.Front
  pub deferred : List Event
  pub stuck : Bool

-- It has taken nothing yet.
abbrev pub fresh : Option ℕ → Option (ℤ × ℕ) → Stood
fresh class alarm = record { class = class; front = opened alarm; deferred = []; stuck = false }

-- The object's class, where it is known: before that any serves.
abbrev pub IsClass : Option ℕ → ℕ → Type 0
IsClass None c = Unit {0}
IsClass (Some class) c = class ≡ c

abbrev pub kind_in : Script → ℕ → Kind
kind_in script class = record { script = script; class = class }

-- These items lead from one front to another, and this was logged of them.
pub record IsTakenBy (k : Kind) (from : intake.Front) (taken : List Taken) (front : intake.Front) (log : Fronted) : Type 0 where
  pub at : front_after k from taken ≡ front
  pub gate : IsIntake k from taken
  pub sent : log.sent ≡ sent_by k from taken
  pub delivered : log.delivered ≡ delivered_in k from taken
  pub downed : log.downed ≡ downed_in k from taken
  pub ends : log.ends ≡ ends_in k from taken

-- The same where memory was wanting: of what the last item says only the first entries were sent, if any.
pub record IsCutShort (k : Kind) (from : intake.Front) (taken : List Taken) (log : Fronted) : Type 0 where
  pub gate : IsIntake k from taken
  pub sent : IsPrefix log.sent (sent_by k from taken)
  pub delivered : log.delivered ≡ delivered_in k from taken
  pub downed : log.downed ≡ downed_in k from taken
  pub ends : log.ends ≡ ends_in k from taken

abbrev pub IsMode : {T : Type 0} → (T → Paused) → Life → HeldMode T → Mode → Type 0
IsMode see l (held.Serves s) (serves st) = IsState see l s st
IsMode see l (held.Down call) (down waits) = call ≡ waits
IsMode see l mode other = ⊥

-- What a front holds, as long as memory wasn't wanting. Where the class isn't known, each class would do. Only the newest of its
-- object's tasks has its block open. The newest incarnation's part of the log begins within it, or at its end.
pub record IsHalf {T : Type 0} (see : T → Paused) (script : Script) (h : Half T) (st : Stood) : Type 0 where
  pub class : h.class ≡ st.class
  pub known : IfSome st.class (HasClass script)
  pub incarnation : h.incarnation ≡ st.front.incarnation
  pub count : h.count ≡ length st.front.said
  pub mode : (c : ℕ) → IsClass st.class c → IsMode see (life_in script c st.front.incarnation) h.mode st.front.mode
  pub gate : (c : ℕ) → IsClass st.class c → IsGatedMode (constructor_of script c) st.front.mode
  pub deferred : option_to_list h.due ++ h.deferred ≡ st.deferred
  pub stuck : h.stuck ≡ st.stuck
  pub delivered_from : h.first_delivered ≤ length h.log.delivered.items
  pub sent_from : h.first_sent ≤ length h.log.sent.items
  pub events : map (λ d. d.1) (drop h.first_delivered h.log.delivered.items) ≡ st.front.events
  pub said : map (λ e. e.body) (drop h.first_sent h.log.sent.items) ≡ st.front.said

-- Memory was wanting: nothing is done any more.
abbrev pub is_stopped_mode : {T : Type 0} → HeldMode T → Bool
is_stopped_mode held.Stopped = true
is_stopped_mode mode = false

abbrev pub is_stopped : {T : Type 0} → Half T → Bool
is_stopped h = is_stopped_mode h.mode

abbrev pub nothing_logged : Fronted
nothing_logged = record { delivered = []; downed = []; dropped = []; sent = []; ends = [] }
