-- What a front logs where an incarnation ends, and what it holds then.
use Rattle.std.specs.Prelude.{◌≡◌, ℕ, ◌+◌, List, [], ◌∷◌, ◌++◌, length, map, drop}
use Rattle.timeline.specs.Headline.{IsPrefix}
use Rattle.timeline.specs.Intake.{numbered}
use Rattle.timeline.specs.Logs.{fronted}
use Rattle.timeline.specs.Replies.{resets_of, unanswered}
use Rattle.timeline.specs.declared.caller.Cause.{Cause}
use Rattle.timeline.specs.declared.entry.Body.{Body}
use Rattle.timeline.specs.declared.entry.Entry.{Entry}
use Rattle.timeline.specs.declared.event.Event.{Event}
use Rattle.front_half.specs.declared.half.Half.{Half}

-- The failures of the calls that an incarnation leaves unanswered, to which this was delivered and which sent this.
abbrev pub resets_in : Cause → List (ℕ × Event) → List Entry → List Body
resets_in c delivered sent = resets_of c (unanswered (map (λ d. d.1) delivered) (map (λ e. e.body) sent))

abbrev pub resets_at : {T : Type 0} → Half T → Cause → List Body
resets_at h c = resets_in c (drop h.first_delivered h.log.delivered.items) (drop h.first_sent h.log.sent.items)

-- The incarnation has ended, and the next one has begun with its first entries, but for how the front stands then.
pub record EndsAt {T : Type 0} (old new : Half T) (c : Cause) : Type 0 where
  pub class : new.class ≡ old.class
  pub incarnation : new.incarnation ≡ 1 + old.incarnation
  pub count : new.count ≡ length (resets_at old c)
  pub due : new.due ≡ old.due
  pub deferred : new.deferred ≡ old.deferred
  pub stuck : new.stuck ≡ old.stuck
  pub delivered_from : new.first_delivered ≡ length old.log.delivered.items
  pub sent_from : new.first_sent ≡ length old.log.sent.items
  pub log : fronted new.log ≡ record (fronted old.log) {
    sent = old.log.sent.items ++ numbered (1 + old.incarnation) 1 (resets_at old c);
    ends = old.log.ends.items ++ c ∷ [];
  }

-- Memory was wanting: nothing was logged, or the end and the first of the next one's entries.
pub record EndsFirst {T : Type 0} (old new : Half T) (c : Cause) : Type 0 where
  pub sent : IsPrefix new.log.sent.items (old.log.sent.items ++ numbered (1 + old.incarnation) 1 (resets_at old c))
  pub log : fronted new.log ≡ record (fronted old.log) { sent = new.log.sent.items; ends = old.log.ends.items ++ c ∷ [] }
