-- What an object's logs show: what each incarnation said is what its script tells, and what left is what passes. Source: the
-- articles on input and output gates.
use Rattle.std.specs.Prelude.{◌≡◌, ◌⊎◌, ℕ, suc, ◌≤◌, ◌==◌, true, false, List, [], ◌∷◌, ◌++◌, length, map, drop, Some, None, Err}
use Rattle.std.specs.List.{All, Contains, flat_map, filter}
use Rattle.do_tree.specs.Tree.{Script}
use Rattle.storage_map.specs.Contents.{Contents}
use Rattle.timeline.specs.Eligible.{is_eligible}
use Rattle.timeline.specs.History.{Incarnation, History, history, of_number, batches_in, durable, is_halting, resets, said_in, start_after, IsKept}
use Rattle.timeline.specs.Logs.{Fronted, Backed}
use Rattle.timeline.specs.Object.{Life, State, idle, ended, begun}
use Rattle.timeline.specs.Passed.{Passed, is_mounted, is_said_down, passed}
use Rattle.timeline.specs.Told.{Said, message, spoken, spoken_in, told, by_map, told_from}
use Rattle.timeline.specs.declared.back_log.Missed.{Missed}
use Rattle.timeline.specs.declared.back_log.Release.{Release}
use Rattle.timeline.specs.declared.back_log.Stop.{Stop}
use Rattle.timeline.specs.declared.caller.Cause.{Cause}
use Rattle.timeline.specs.declared.caller.Failure.TheVariants as failure
use Rattle.timeline.specs.declared.entry.Body.TheVariants as body
use Rattle.timeline.specs.declared.event.Event.{Event}
use Rattle.timeline.specs.declared.event.Event.TheVariants as event
use Rattle.timeline.specs.declared.message.Message.{Message}
use Rattle.timeline.specs.declared.message.Message.TheVariants as sent

-- The first list begins the second; it may be the whole of it.
abbrev pub IsPrefix : {X : Type 0} → List X → List X → Type 0
IsPrefix {X} front whole = (rest : List X) × (front ++ rest ≡ whole)

-- The replies to the calls that were answered while an incarnation wasn't mounted: each with the counts of the mounting that
-- failed for it, the first mounting having had no call.
abbrev pub down_said : List Event → List Missed → List Said
down_said (event.Call from method args depth at ∷ calls) (missed ∷ later) =
    message (sent.Reply from (Err (failure.Down missed.before missed.after))) ∷ down_said calls later
down_said _ _ = []

-- What a list of parts tells, as far as it goes: something of a part stands only behind the whole of those before it.
abbrev pub IsSoFar : List (List Said) → List Said → Type 0
IsSoFar parts said = IsPrefix said (flat_map (λ part. part) parts)

-- The life of the newest of these incarnations.
abbrev pub life_of : Script → ℕ → Incarnation → Life
life_of script class i = record { script = script; class = class; incarnation = i.number }

-- The mountings that failed to begin an incarnation.
abbrev pub missed_of : ℕ → List Missed → List Missed
missed_of number missed = filter (λ m. m.incarnation == number) missed

-- What the newest incarnation says in all: the failures of the calls of the one before it, the replies while it wasn't mounted,
-- and what its script tells at the events that were delivered to it, over the map that it starts from.
abbrev pub told_to : Script → ℕ → Contents → Incarnation → History → List Said
told_to script class opened i older = told (life_of script class i) (start_after opened older) i.delivered

abbrev pub parts_of : Script → ℕ → Contents → Fronted → Backed → Incarnation → History → List (List Said)
parts_of script class opened front back i older =
    spoken_in (resets older)
    ∷ down_said (of_number i.number front.downed) (drop 1 (missed_of i.number back.downs))
    ∷ told_to script class opened i older ∷ []

-- Each incarnation said so, as far as it has come.
abbrev pub AreSaid : Script → ℕ → Contents → Fronted → Backed → History → Type 0
AreSaid script class opened front back [] = Unit {0}
AreSaid script class opened front back (i ∷ older) =
    IsSoFar (parts_of script class opened front back i older) (spoken i.sent) × AreSaid script class opened front back older

-- Where the newest incarnation stands at the end of its events.
abbrev pub state_of : Script → ℕ → Contents → Incarnation → History → State
state_of script class opened i older =
    let start = start_after opened older in (told_from by_map (life_of script class i) start (idle (begun start.alarm)) i.delivered).state

-- An end that a turn made is invented by nobody: over the events of its incarnation the script's object has ended by this cause, and the
-- halt of that turn was taken.
abbrev pub IsHalted : Script → ℕ → Contents → Incarnation → History → Cause → Type 0
IsHalted script class opened i older cause = (state_of script class opened i older ≡ ended cause) × Contains (said_in i.taken) (body.Halt cause)

abbrev pub AreHalted : Script → ℕ → Contents → History → Type 0
AreHalted script class opened [] = Unit {0}
AreHalted script class opened (i ∷ older) =
    ((stop : Stop) → i.stop ≡ Some stop → is_halting stop.cause ≡ true → IsHalted script class opened i older stop.cause)
    × AreHalted script class opened older

-- While the newest incarnation isn't mounted nothing is delivered to it, and it says messages and wishes to be mounted alone.
abbrev pub RestsUnmounted : History → Type 0
RestsUnmounted [] = Unit {0}
RestsUnmounted (i ∷ older) = is_mounted older ≡ false → (i.delivered ≡ []) × All (λ b. is_said_down b ≡ true) (said_in i.sent)

-- Each end kept what an end of its cause keeps.
abbrev pub KeepBy : History → Type 0
KeepBy [] = Unit {0}
KeepBy (i ∷ older) = ((stop : _) (kept : ℕ) → i.stop ≡ Some stop → i.kept ≡ Some kept → IsKept i stop kept) × KeepBy older

-- A release has a message that passes, with what it needs.
abbrev pub release_of : Release → Message × ℕ
release_of release = (release.message, release.needs)

abbrev pub pass_of : Passed → Message × ℕ
pass_of p = (p.message, p.needs)

-- What the logs of one slot show whenever they are looked at. Each incarnation that ended was followed by one that was mounted, with the
-- batches that were kept, but for the last one.
pub record IsHistory (script : Script) (class : ℕ) (opened : Contents) (front : Fronted) (back : Backed) : Type 0 where
  pub said : AreSaid script class opened front back (history front back)
  pub taken : IsPrefix back.taken front.sent
  pub kept : KeepBy (history front back)
  pub halted : AreHalted script class opened (history front back)
  pub mounted : length back.stops ≤ suc (length back.ends)
  pub unmounted : RestsUnmounted (history front back)
  pub ends : IsPrefix front.ends (map (λ stop. stop.cause) back.stops)
  pub followed : IsPrefix (map (λ end. end.cause) back.ends) (map (λ stop. stop.cause) back.stops)
  pub released : IsPrefix (map release_of back.released) (map pass_of (passed (history front back)))

-- At the end: nothing is under way in a slot. Its front knows of each end. Each post was delivered, answered by `Down`, dropped, or isn't
-- eligible.
abbrev pub AreSaidWhole : Script → ℕ → Contents → Fronted → Backed → History → Type 0
AreSaidWhole script class opened front back [] = Unit {0}
AreSaidWhole script class opened front back (i ∷ older) =
    spoken i.sent ≡ flat_map (λ part. part) (parts_of script class opened front back i older)

abbrev pub IsDeferred : State → Event → Type 0
IsDeferred (idle o) e = is_eligible o e ≡ false
IsDeferred _ e = ⊥

abbrev pub IsDeferredIn : Script → ℕ → Contents → History → Event → Type 0
IsDeferredIn script class opened [] e = ⊥
IsDeferredIn script class opened (i ∷ older) e = IsDeferred (state_of script class opened i older) e

abbrev pub AreDurable : History → Type 0
AreDurable [] = Unit {0}
AreDurable (i ∷ older) = (i.stop ≡ None) → durable i ≡ length (batches_in i.taken)

pub record IsQuiet (script : Script) (class : ℕ) (opened : Contents) (front : Fronted) (back : Backed)
    (posted : List Event) (sent_on : List Message) : Type 0 where
  pub ends : front.ends ≡ map (λ stop. stop.cause) back.stops
  pub taken : back.taken ≡ front.sent
  pub said : AreSaidWhole script class opened front back (history front back)
  pub durable : AreDurable (history front back)
  pub released : map release_of back.released ≡ map pass_of (passed (history front back))
  pub routed : sent_on ≡ map (λ release. release.message) back.released
  pub posts : All (λ e. Contains (map (λ d. d.1) front.delivered) e ⊎ Contains (map (λ d. d.1) front.downed) e ⊎ Contains front.dropped e
      ⊎ IsDeferredIn script class opened (history front back) e) posted
