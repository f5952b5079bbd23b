-- Who is answered and who is left: laws, each proved by a function of `laws`.
use Rattle.std.specs.Prelude.{◌≡◌, ◌≤◌, ◌+◌, ℕ, ℤ, suc, List, ◌++◌, length, map, Option}
use Rattle.std.specs.List.{All, Contains}
use Rattle.timeline.specs.History.{history}
use Rattle.timeline.specs.Intake.{IsIntake, Kind, Taken, delivered_in, downed_in, front_after, life, opened, sent_by, serves}
use Rattle.timeline.specs.Left.{left}
use Rattle.timeline.specs.Logs.{Backed, Fronted}
use Rattle.timeline.specs.Object.{Object, idle}
use Rattle.timeline.specs.Passed.{passed}
use Rattle.timeline.specs.Replies.{unanswered}
use Rattle.timeline.specs.declared.caller.Caller.{Caller}
use Rattle.timeline.specs.declared.entry.Entry.{Entry}
use Rattle.timeline.specs.declared.event.Event.{Event}
use Rattle.timeline.specs.declared.notice.Waits.{Waits}
use Rattle.object_messages.specs.Laws.{events, gone}
use Rattle.object_messages.specs.Naming.{called_in, messages_of, replied_in, times}

-- Of those whose call was delivered or answered by `Down`, once, each got one reply, or is left by the newest incarnation.
abbrev pub RepliesAreExact : Type 0
RepliesAreExact = (k : Kind) (alarm : Option (ℤ × ℕ)) (taken : List Taken) → IsIntake k (opened alarm) taken → (from : Caller)
    → times from (called_in (events (delivered_in k (opened alarm) taken) ++ events (downed_in k (opened alarm) taken))) ≤ 1
    → times from (replied_in (messages_of (sent_by k (opened alarm) taken)))
    + times from (unanswered (front_after k (opened alarm) taken).events (front_after k (opened alarm) taken).said)
    ≡ times from (called_in (events (delivered_in k (opened alarm) taken) ++ events (downed_in k (opened alarm) taken)))

-- The callers of calls that are left.
abbrev pub callers : List (Caller × Waits) → List Caller
callers left = map (λ (item : Caller × Waits). item.0) left

-- An idle object leaves each call that it hasn't answered, once, and then each that is deferred.
abbrev pub LeftIsEach : Type 0
LeftIsEach = (k : Kind) (alarm : Option (ℤ × ℕ)) (taken : List Taken) (o : Object) (deferred : List Event) → IsIntake k (opened alarm) taken
    → (front_after k (opened alarm) taken).mode ≡ serves (idle o)
    → callers (left (life k (front_after k (opened alarm) taken).incarnation) o (front_after k (opened alarm) taken).events
    (front_after k (opened alarm) taken).said deferred)
    ≡ unanswered (front_after k (opened alarm) taken).events (front_after k (opened alarm) taken).said ++ called_in deferred

-- Of what was taken of incarnations that there are each reply passes, as it is or as the failure that stands for it.
abbrev pub PassedIsAll : Type 0
PassedIsAll = (front : Fronted) (back : Backed)
    → All (λ (e : Entry). (1 ≤ e.incarnation) × (e.incarnation ≤ suc (length back.stops))) back.taken
    → (from : Caller) → times from (replied_in (gone (passed (history front back)))) ≡ times from (replied_in (messages_of back.taken))

-- Who is replied to is one who called by what was delivered or answered by `Down`, a request also by the number that its sender gave it.
abbrev pub RepliesNameCallers : Type 0
RepliesNameCallers = (k : Kind) (alarm : Option (ℤ × ℕ)) (taken : List Taken) (from : Caller)
    → Contains (replied_in (messages_of (sent_by k (opened alarm) taken))) from
    → Contains (called_in (events (delivered_in k (opened alarm) taken) ++ events (downed_in k (opened alarm) taken))) from

-- So does what passes: it replies to whom what was taken does.
abbrev pub PassedNamesTaken : Type 0
PassedNamesTaken = (front : Fronted) (back : Backed) (from : Caller)
    → Contains (replied_in (gone (passed (history front back)))) from → Contains (replied_in (messages_of back.taken)) from

-- Who called once got one reply or is left, once; and who got a reply or is left is one who called.
pub record IsServedOnce (called replied left : List Caller) : Type 0 where
  pub exact : (from : Caller) → times from called ≤ 1 → times from replied + times from left ≡ times from called
  pub named : (from : Caller) → Contains (replied ++ left) from → Contains called from
