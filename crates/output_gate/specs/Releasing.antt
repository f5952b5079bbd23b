-- What a release does, as its caller sees it.
use Rattle.std.specs.Prelude.{◌≡◌, ℕ, ◌+◌, nat_le, Bool, true, false, not, ◌&&◌, List, [], ◌∷◌, ◌++◌, length, ◌≤◌, Option, Some, Result, Ok, vec_len}
use Rattle.std.specs.Vec.{vec_capacity}
use Rattle.do_value.specs.declared.fault.NoMemory.{NoMemory}
use Rattle.storage_map.specs.declared.op.Op.{Op}
use Rattle.timeline.specs.Logs.{Backed, backed}
use Rattle.timeline.specs.Passed.{Passed}
use Rattle.timeline.specs.declared.back_log.BackLog.{BackLog}
use Rattle.timeline.specs.declared.back_log.Release.{Release}
use Rattle.timeline.specs.declared.caller.Cause.{Cause}
use Rattle.timeline.specs.declared.message.Message.{Message as Sent}
use Rattle.timeline.specs.declared.notice.Notice.{Notice}
use Rattle.timeline.specs.declared.notice.Notice.TheVariants as notice
use Rattle.timeline.specs.declared.notice.Stepped.{Stepped}
use Rattle.timeline.specs.declared.notice.Stepped.TheVariants.{Nothing}
use Rattle.output_gate.specs.Held.{is_read}
use Rattle.output_gate.specs.Serving.{alarm_of, halt_of, IsBackAs}
use Rattle.output_gate.specs.Storing.{IsDiskOf}
use Rattle.output_gate.specs.declared.back.Back.{Back}
use Rattle.output_gate.specs.declared.held.Held.{Held}
use Rattle.output_gate.specs.declared.held.HeldBody.{HeldBody}
use Rattle.output_gate.specs.declared.held.HeldBody.TheVariants.{Message, Sync, Halt}

abbrev pub release_at : ℕ → Passed → Release
release_at moment p = record { message = p.message; needs = p.needs; moment = moment }

-- the first of what is held has all that it needs
abbrev pub is_ready : List Held → (durable : ℕ) → Bool
is_ready [] durable = false
is_ready (held ∷ rest) durable = nat_le held.needs durable

abbrev pub may_release : {D : Type 0} → Back D → Bool
may_release back = not back.stuck && is_ready back.held.items back.durable

-- The log of a release: a message is logged, a halt ends the incarnation, of which all batches are kept, and a sync isn't logged.
abbrev pub released_log : {D : Type 0} → Back D → (moment : ℕ) → Held → HeldBody → Backed
released_log back moment held (Message sent) = record (backed back.log)
    { released = back.log.released.items ++ record { message = sent; needs = held.needs; moment = moment } ∷ [] }
released_log back moment held (Sync number) = backed back.log
released_log back moment held (Halt cause) =
    record (backed back.log)
    { stops = back.log.stops.items ++ halt_of back cause ∷ []; ends = back.log.ends.items ++ record { kept = back.own; cause = cause } ∷ [] }

-- what the front is told, and what leaves
abbrev pub released_notices : {D : Type 0} → Back D → HeldBody → List Notice
released_notices back (Message sent) = []
released_notices back (Sync number) = notice.Synced number ∷ []
released_notices back (Halt cause) = notice.Fresh (back.number + 1) (alarm_of back) cause ∷ []

abbrev pub released_messages : HeldBody → List Sent
released_messages (Message sent) = sent ∷ []
released_messages _ = []

-- Behind a halt the next message needs the batches of the incarnations so far, which are what was durable at the end; and one of the
-- incarnation that ended, which comes late, needs what the next message of that needed.
abbrev pub needs_released : {D : Type 0} → Back D → HeldBody → ℕ
needs_released back (Halt cause) = back.before
needs_released back _ = back.needs

abbrev pub settled_released : {D : Type 0} → Back D → HeldBody → ℕ
settled_released back (Halt cause) = back.before
settled_released back _ = back.settled

abbrev pub late_released : {D : Type 0} → Back D → HeldBody → Option ℕ
late_released back (Halt cause) = Some back.needs
late_released back _ = back.late

-- The first of what is held goes; the back stands and counts as before, over the same disk and map.
pub record Releases {D : Type 0} (moment_of : D → ℕ) (old new : Back D) (sent_before sent : List Notice) (out_before out : List Sent) : Type 0 where
  pub first : Held
  pub rest : List Held
  pub held : old.held.items ≡ first ∷ rest
  pub others : new.held.items ≡ rest
  pub told : sent ≡ sent_before ++ released_notices old first.body
  pub left : out ≡ out_before ++ released_messages first.body
  pub log : (disk : D) → IsDiskOf old.store disk → backed new.log ≡ released_log old (moment_of disk) first first.body
  pub store : new.store ≡ old.store
  pub cache : new.cache ≡ old.cache
  pub identity : new.identity ≡ old.identity
  pub stuck : new.stuck ≡ old.stuck
  pub mode : new.mode ≡ old.mode
  pub before : new.before ≡ old.before
  pub needs : new.needs ≡ needs_released old first.body
  pub durable : new.durable ≡ old.durable
  pub limit : new.limit ≡ old.limit
  pub settled : new.settled ≡ settled_released old first.body
  pub late : new.late ≡ late_released old first.body
  pub unflushed : new.unflushed ≡ old.unflushed

-- Nothing is done, and all is as before.
pub record IsIdleRelease {D : Type 0} (old new : Back D) (sent_before sent : List Notice) (out_before out : List Sent)
    (result : Result Stepped NoMemory) : Type 0 where
  pub nothing : result ≡ Ok Nothing
  pub back : new ≡ old
  pub told : sent ≡ sent_before
  pub left : out ≡ out_before

-- Memory was wanting: nothing is told, nothing leaves, and the log, what is held, how the back stands, what it counts and its disk are as
-- before.
pub record Stays {D : Type 0} (old new : Back D) (sent_before sent : List Notice) (out_before out : List Sent) : Type 0 where
  pub told : sent ≡ sent_before
  pub left : out ≡ out_before
  pub log : backed new.log ≡ backed old.log
  pub held : new.held ≡ old.held
  pub store : new.store ≡ old.store
  pub identity : new.identity ≡ old.identity
  pub stuck : new.stuck ≡ old.stuck
  pub mode : new.mode ≡ old.mode
  pub before : new.before ≡ old.before
  pub durable : new.durable ≡ old.durable
  pub limit : new.limit ≡ old.limit

-- What letting this go needs, and does.
pub record CanGo {D : Type 0} (moment_of : D → ℕ) (left_since : D → ℕ → List ℕ → Type 0) (told : D → Option (List ℕ)) (image : D → List ℕ → Type 0)
    (faults_of : D → ℕ)
    (old : Back D) (b : HeldBody) : Type 0 where
  pub start : List (List Op)
  pub opening : ℕ
  pub back : IsBackAs moment_of left_since told image faults_of start opening true old
  pub first : Held
  pub rest : List Held
  pub held : old.held.items ≡ first ∷ rest
  pub body : first.body ≡ b
  pub ready : first.needs ≤ old.durable

pub record Goes {D : Type 0} (moment_of : D → ℕ) (left_since : D → ℕ → List ℕ → Type 0) (told : D → Option (List ℕ)) (image : D → List ℕ → Type 0)
    (faults_of : D → ℕ)
    (old new : Back D) (sent_before sent : List Notice) (out_before out : List Sent) : Type 0 where
  pub releases : Releases moment_of old new sent_before sent out_before out
  pub back : (start : List (List Op)) (opening : ℕ) → IsBackAs moment_of left_since told image faults_of start opening true old
      → IsBackAs moment_of left_since told image faults_of start opening true new

pub record StaysPut {D : Type 0} (moment_of : D → ℕ) (left_since : D → ℕ → List ℕ → Type 0) (told : D → Option (List ℕ)) (image : D → List ℕ → Type 0)
    (faults_of : D → ℕ)
    (old new : Back D) (sent_before sent : List Notice) (out_before out : List Sent) : Type 0 where
  pub stays : Stays old new sent_before sent out_before out
  pub back : (start : List (List Op)) (opening : ℕ) → IsBackAs moment_of left_since told image faults_of start opening true old
      → IsBackAs moment_of left_since told image faults_of start opening false new

-- One more message has left.
pub record LogReleases (old new : BackLog) (release : Release) : Type 0 where
  pub log : backed new ≡ record (backed old) { released = old.released.items ++ release ∷ [] }
  pub flights : new.flights ≡ old.flights
  pub stops : new.stops ≡ old.stops

-- the log has the room of a stop and of what follows it
pub record HaltRoom (log : BackLog) : Type 0 where
  pub stops : vec_len log.stops + 1 ≤ vec_capacity log.stops
  pub ends : vec_len log.ends + 1 ≤ vec_capacity log.ends

-- An incarnation has ended by a halt, and is followed with all of its batches.
abbrev pub LogHalts : BackLog → BackLog → Cause → ℕ → Type 0
LogHalts old new c kept = backed new ≡ record (backed old) {
  stops = old.stops.items ++ record { cause = c; flights = length old.flights.items; batches = kept; read = is_read c } ∷ [];
  ends = old.ends.items ++ record { kept = kept; cause = c } ∷ [];
}
