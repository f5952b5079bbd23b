-- After each turn a front can turn again.
use Rattle.std.proofs.Common.{◌≡◌, sym, refl, subst, true, List, Result, Ok, Err, OnOk, OnErr, inl, inr}
use Rattle.do_tree.specs.Tree.{Script}
use Rattle.timeline.specs.declared.event.Event.{Event}
use Rattle.timeline.specs.declared.notice.Notice.{Notice}
use Rattle.front_turns.specs.Paused.{Paused}
use Rattle.front_half.specs.Standing.{Stood, IsHalf, is_stopped}
use Rattle.front_half.specs.Turning.{CanTurn, Lanes, IsStill, Turns, Halts}
use Rattle.front_half.specs.declared.half.Half.{Half}
use Rattle.front_half.specs.declared.turning.Turned.{Turned}
use Rattle.front_half.specs.declared.turning.Turned.TheVariants.{Ran, Idle}

-- From what a turn says of each of its answers.
pub can_turn_again : {T E : Type 0} (see : T → Paused) (script : Script) (old new : Half T) (before after : Lanes)
    (events_before events : List Event) (notices_before notices told : List Notice) (r : Result Turned E)
    → (is_stopped old ≡ true → OnOk r ⊥ × IsStill old new before after)
    → (r ≡ Ok Idle → IsStill old new before after)
    → (r ≡ Ok Ran → (st : Stood) → IsHalf see script old st → Turns see script old new st events_before events notices_before notices told)
    → OnErr r ((st : Stood) → IsHalf see script old st → Halts script old new st events_before events notices_before notices told)
    → CanTurn see script old → CanTurn see script new
can_turn_again see script old new before after events_before events notices_before notices told r stopped still ran lost (inl was) =
    subst (λ (h : Half _). CanTurn see script h) (sym (stopped was).1.half) (inl was)
can_turn_again see script old new before after events_before events notices_before notices told (Ok Idle) stopped still ran lost (inr stands) =
    subst (λ (h : Half _). CanTurn see script h) (sym (still refl).half) (inr stands)
can_turn_again see script old new before after events_before events notices_before notices told (Ok Ran) stopped still ran lost (inr stands) =
    let turned = ran refl stands.0 stands.1 in inr (turned.led.stood, turned.moves.half)
can_turn_again see script old new before after events_before events notices_before notices told (Err e) stopped still ran lost (inr stands) =
    inl (lost stands.0 stands.1).stops.stopped
