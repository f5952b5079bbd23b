-- What one step of an object does, by its choice.
use Rattle.std.specs.Prelude.{◌≡◌, ◌⊎◌, ℕ, List, Bool, true, false, [], ◌∷◌, ◌++◌, Result, Ok, Err, OnErr, OnOk, Option}
use Rattle.std.specs.List.{list_any}
use Rattle.do_tree.specs.Tree.{Script}
use Rattle.do_value.specs.declared.fault.NoMemory.{NoMemory}
use Rattle.lane.specs.Lanes.{sent_on, StartsWith}
use Rattle.timeline.specs.declared.event.Event.{Event}
use Rattle.timeline.specs.declared.notice.Stepped.{Stepped}
use Rattle.timeline.specs.declared.notice.Stepped.TheVariants.{Did, Nothing}
use Rattle.object_front.specs.Evaluated.{seen}
use Rattle.front_half.specs.Standing as standing
use Rattle.front_half.specs.Standing.{Stood, IsHalf}
use Rattle.front_half.specs.Taking.{may_enter, waits}
use Rattle.front_half.specs.Turning as turning
use Rattle.front_half.specs.declared.turning.Turned.{Turned}
use Rattle.front_half.specs.declared.turning.Turned.TheVariants.{Ran, Idle}
use Rattle.output_gate.specs.Entering as entering
use Rattle.output_gate.specs.Flushing as flushing
use Rattle.output_gate.specs.Mending as mending
use Rattle.output_gate.specs.Releasing as releasing
use Rattle.output_gate.specs.Serving as serving
use Rattle.output_gate.specs.Taking.{may_take}
use Rattle.object_core.specs.declared.choice.Choice.{Choice}
use Rattle.object_core.specs.declared.choice.Choice.TheVariants.{Give, Turn, Take, Flush, Release, Mend}
use Rattle.object_core.specs.declared.object.Core.{Core}

-- What is answered where a half has answered so.
abbrev pub answer_of : Result Stepped NoMemory → Result Bool NoMemory
answer_of (Ok Did) = Ok true
answer_of (Ok Nothing) = Ok false
answer_of (Err fault) = Err fault

abbrev pub given_of : Result (Unit {0}) NoMemory → Result Bool NoMemory
given_of (Ok sent) = Ok true
given_of (Err fault) = Err fault

abbrev pub turn_of : Result Turned NoMemory → Result Bool NoMemory
turn_of (Ok Ran) = Ok true
turn_of (Ok Idle) = Ok false
turn_of (Err fault) = Err fault

-- A front that stands so has nothing to take of what waits for it: it is stuck; or no notice waits, and it waits for one, or no event
-- may enter of those that are deferred, and none other waits.
abbrev pub IsIdleAt : {D : Type 0} → Stood → Core D → Type 0
IsIdleAt st core = (st.stuck ≡ true)
    ⊎ ((core.notices.waiting ≡ []) × ((waits st.front.mode ≡ true) ⊎ ((list_any (may_enter st.front.mode) st.deferred ≡ false) × (core.inbox.waiting ≡ []))))

-- There is nothing to do for a choice: the half whose step it is answers that it is idle, or that there is nothing.
abbrev pub HasNothing : {D : Type 0} → Script → Core D → Choice → Type 0
HasNothing script core (Give event) = ⊥
HasNothing script core Turn = (st : Stood) × IsHalf seen script core.front.half st × IsIdleAt st core
HasNothing script core Take = (may_take core.back ≡ false) ⊎ (core.line.waiting ≡ [])
HasNothing script core Flush = core.back.before ≡ core.back.durable
HasNothing script core Release = releasing.may_release core.back ≡ false
HasNothing script core Mend = mending.may_mend core.back ≡ false

-- Memory was wanting at an earlier step of the half whose step it is.
abbrev pub IsHalted : {D : Type 0} → Core D → Choice → Type 0
IsHalted core (Give event) = ⊥
IsHalted core Turn = standing.is_stopped core.front.half ≡ true
IsHalted core Flush = ⊥
IsHalted core choice = serving.is_stopped core.back ≡ true

-- The half whose step it is, and the lanes that it uses, are all that a step touches.
abbrev pub Touches : {D : Type 0} → (old new : Core D) → Choice → Type 0
Touches old new (Give event) = new ≡ record old { inbox = new.inbox }
Touches old new Turn = new ≡ record old { front = new.front; inbox = new.inbox; line = new.line; notices = new.notices }
Touches old new Take = new ≡ record old { back = new.back; line = new.line; notices = new.notices }
Touches old new Flush = new ≡ record old { back = new.back }
Touches old new Release = new ≡ record old { back = new.back; notices = new.notices; out = new.out }
Touches old new Mend = new ≡ record old { back = new.back; notices = new.notices }

-- What is done where there was something to do: the event stands behind those that wait; the front has turned, or the back has made its step, by their
-- own contracts.
abbrev pub Does : {D : Type 0} → (D → ℕ) → (D → Option (List ℕ)) → (D → List ℕ → Type 0) → (D → ℕ) → Script → (old new : Core D) → Choice → Type 0
Does moment_of told image faults_of script old new (Give event) = new.inbox ≡ record old.inbox { waiting = old.inbox.waiting ++ event ∷ [] }
Does moment_of told image faults_of script old new Turn = (st : Stood) → IsHalf seen script old.front.half st
    → turning.Turns seen script old.front.half new.front.half st old.inbox.got new.inbox.got old.notices.got new.notices.got (sent_on old.notices)
Does moment_of told image faults_of script old new Take = entering.Takes told image old.back new.back old.line.got new.line.got (sent_on old.notices)
    (sent_on new.notices)
Does moment_of told image faults_of script old new Flush = flushing.Flushes faults_of old.back new.back
Does moment_of told image faults_of script old new Release =
    releasing.Releases moment_of old.back new.back (sent_on old.notices) (sent_on new.notices) (sent_on old.out) (sent_on new.out)
Does moment_of told image faults_of script old new Mend = mending.Mends faults_of old.back new.back (sent_on old.notices) (sent_on new.notices)

-- Memory was wanting: an event isn't given, and nothing is changed; or the half whose step it is, is stopped.
abbrev pub IsStoppedBy : {D : Type 0} → (old new : Core D) → Choice → Type 0
IsStoppedBy old new (Give event) = new ≡ old
IsStoppedBy old new Turn = standing.is_stopped new.front.half ≡ true
IsStoppedBy old new Flush = ⊥
IsStoppedBy old new choice = serving.is_stopped new.back ≡ true

-- The event that is given.
abbrev pub given_by : Choice → Result Bool NoMemory → List Event
given_by (Give event) (Ok did) = event ∷ []
given_by _ _ = []

-- What an object is given, and what it lets go: an event that is given stands behind the others, nothing is collected, and messages that
-- leave stand behind the others.
pub record Passes {D : Type 0} (old new : Core D) (choice : Choice) (result : Result Bool NoMemory) : Type 0 where
  pub given : sent_on new.inbox ≡ sent_on old.inbox ++ given_by choice result
  pub collected : new.out.got ≡ old.out.got
  pub left : StartsWith (sent_on new.out) (sent_on old.out)

-- A step answers false exactly where there is nothing to do, and then changes nothing; true where it did what its choice says; and
-- want of memory always behind an earlier one of its half.
pub record Steps {D : Type 0} (moment_of : D → ℕ) (told : D → Option (List ℕ)) (image : D → List ℕ → Type 0) (faults_of : D → ℕ) (script : Script)
    (old new : Core D) (choice : Choice)
    (result : Result Bool NoMemory) : Type 0 where
  pub touches : Touches old new choice
  pub passes : Passes old new choice result
  pub nothing : result ≡ Ok false → HasNothing script old choice × (new ≡ old)
  pub something : result ≡ Ok true → HasNothing script old choice → ⊥
  pub did : result ≡ Ok true → Does moment_of told image faults_of script old new choice
  pub wanting : OnErr result (IsStoppedBy old new choice)
  pub halted : IsHalted old choice → OnOk result ⊥ × (new ≡ old)
