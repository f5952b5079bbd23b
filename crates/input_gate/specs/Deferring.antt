-- Which of the events that wait may be delivered, and which of them is first. Source: the article on input and output gates, and
-- the documentation of `blockConcurrencyWhile`; that only an idle object is evicted is this project's profile.
use Rattle.std.specs.Prelude.{◌≡◌, ◌==◌, Bool, true, false, List, ◌∷◌, ◌++◌}
use Rattle.std.specs.List.{list_any}
use Rattle.timeline.specs.declared.event.Event.{Event}
use Rattle.timeline.specs.declared.event.Event.TheVariants.{Bind, Answer, Evict}
use Rattle.input_gate.specs.declared.deferred.Entering.{Entering}
use Rattle.input_gate.specs.declared.deferred.Entering.TheVariants.{Any, NoEviction, AnswerUnder, BindAlone}

abbrev pub may_enter : Entering → Event → Bool
may_enter Any event = true
may_enter NoEviction (Evict at) = false
may_enter NoEviction event = true
may_enter (AnswerUnder number) (Bind identity) = true
may_enter (AnswerUnder number) (Answer incarnation under result at) = under == number
may_enter (AnswerUnder number) event = false
may_enter BindAlone (Bind identity) = true
may_enter BindAlone event = false

-- None of the events may enter, and all wait on.
pub record NoneEnters (may : Event → Bool) (old new : List Event) : Type 0 where
  pub none : list_any may old ≡ false
  pub same : new ≡ old

-- This event may enter and none before it may; it waits no more, and the others wait on in their order.
pub record TakesFirst (may : Event → Bool) (old new : List Event) (event : Event) : Type 0 where
  pub before : List Event
  pub after : List Event
  pub was : old ≡ before ++ event ∷ after
  pub is : new ≡ before ++ after
  pub others : list_any may before ≡ false
  pub may_enter : may event ≡ true
