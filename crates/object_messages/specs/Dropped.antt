-- What an answer is that a front drops: a law, proved by a function of `laws`.
use Rattle.std.specs.Prelude.{◌≡◌, ◌<◌, ◌⊎◌, ℕ, ℤ, true, List, Option}
use Rattle.std.specs.List.{All, Contains}
use Rattle.timeline.specs.Intake.{IsIntake, Kind, Taken, drops_in, front_after, opened}
use Rattle.timeline.specs.declared.event.Event.{Event}
use Rattle.object_messages.specs.Naming.{answered_by, answered_in}

-- An answer that a front drops is one of an ended incarnation, or this one was delivered an answer to the same call or fetch.
abbrev pub DropsAreAnswered : Type 0
DropsAreAnswered = (k : Kind) (alarm : Option (ℤ × ℕ)) (taken : List Taken) (e : Event) → IsIntake k (opened alarm) taken
    → drops_in (front_after k (opened alarm) taken).incarnation (front_after k (opened alarm) taken).mode e ≡ true
    → All (λ (asked : ℕ × ℕ). (asked.0 < (front_after k (opened alarm) taken).incarnation)
    ⊎ Contains (answered_in (front_after k (opened alarm) taken).events) asked) (answered_by e)
