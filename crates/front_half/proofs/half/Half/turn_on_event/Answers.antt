use Rattle.std.proofs.Common.{◌∙◌, sym, subst, inl, inr}
use Rattle.do_tree.specs.Checked.{tree_of as script_in}
use Rattle.front_half.proofs.Taking.{deferred_ran, deferred_lost, event_ran, event_lost, stands_without}
use Rattle.front_half.proofs.Held.{busy, free}
use Rattle.front_half.specs.Standing.{IsHalf}
use Rattle.front_half.proofs.half.Half.turn_on_event.Goals as goal

pub returns-then-waits-clause-idle : goal.returns-then-waits-clause-idle
returns-then-waits-clause-idle g c = λ ok st is.
    inl (busy g.T.Task.seen (script_in c.args.checked.now) c.args.self.now st is (sym c.waits.ensures ∙ c.if-waits.true))

pub take_deferred-requires : goal.take_deferred-requires
take_deferred-requires g c = let script = script_in c.args.checked.now in
    (script, c.requires.0, c.requires.1, free g.T.Task.seen script c.args.self.now c.requires.0 c.requires.1 (sym c.waits.ensures ∙ c.if-waits.false))

pub take_event-requires : goal.take_event-requires
take_event-requires g c = let script = script_in c.args.checked.now in
    stands_without g.T.Task.seen script c.take_deferred.new.self c.requires.0 c.in-Some.event
    (free g.T.Task.seen script c.args.self.now c.requires.0 c.requires.1 (sym c.waits.ensures ∙ c.if-waits.false))
    (c.in-Some.ensures.some script c.requires.0 c.requires.1)

pub turn_on_inbox-requires : goal.turn_on_inbox-requires
turn_on_inbox-requires g c = let script = script_in c.args.checked.now in (
  c.requires.0,
  subst (λ h. IsHalf g.T.Task.seen script h c.requires.0) (sym c.in-None.ensures.same) c.requires.1,
  free g.T.Task.seen script c.args.self.now c.requires.0 c.requires.1 (sym c.waits.ensures ∙ c.if-waits.false),
)

pub returns-in-Ok-clause-ran : goal.returns-in-Ok-clause-ran
returns-in-Ok-clause-ran g c = λ ok st is. let script = script_in c.args.checked.now in
    deferred_ran g.T.Task.seen script c.args.self.now c.take_deferred.new.self c.take_event.new.self st _ c.in-Some.event c.in-Some.ensures.log
    (free g.T.Task.seen script c.args.self.now st is (sym c.waits.ensures ∙ c.if-waits.false)) (c.in-Some.ensures.some script st is) c.in-Ok.ensures.moves

pub returns-in-Err-clause-lost : goal.returns-in-Err-clause-lost
returns-in-Err-clause-lost g c = λ st is. let script = script_in c.args.checked.now in
    deferred_lost g.T.Task.seen script c.args.self.now c.take_deferred.new.self c.take_event.new.self st _ c.in-Some.event c.in-Some.ensures.log
    (free g.T.Task.seen script c.args.self.now st is (sym c.waits.ensures ∙ c.if-waits.false)) (c.in-Some.ensures.some script st is) c.in-Err.ensures.stops

pub returns-in-Ok-turn_on_inbox-clause-idle : goal.returns-in-Ok-turn_on_inbox-clause-idle
returns-in-Ok-turn_on_inbox-clause-idle g c = λ ok st is. inr (c.in-None.ensures.none (script_in c.args.checked.now) st is, c.in-Ok-turn_on_inbox.ensures.idle ok)

pub returns-in-Ok-turn_on_inbox-clause-ran : goal.returns-in-Ok-turn_on_inbox-clause-ran
returns-in-Ok-turn_on_inbox-clause-ran g c = λ ok st is. let script = script_in c.args.checked.now in
    event_ran g.T.Task.seen script c.args.self.now c.take_deferred.new.self c.turn_on_inbox.new.self st _ _ c.in-None.ensures.same
    (free g.T.Task.seen script c.args.self.now st is (sym c.waits.ensures ∙ c.if-waits.false)) (c.in-None.ensures.none script st is) is
    (c.in-Ok-turn_on_inbox.ensures.ran ok)

pub returns-in-Err-turn_on_inbox-clause-lost : goal.returns-in-Err-turn_on_inbox-clause-lost
returns-in-Err-turn_on_inbox-clause-lost g c = λ st is. let script = script_in c.args.checked.now in
    event_lost g.T.Task.seen script c.args.self.now c.take_deferred.new.self c.turn_on_inbox.new.self st _ _ c.in-None.ensures.same
    (free g.T.Task.seen script c.args.self.now st is (sym c.waits.ensures ∙ c.if-waits.false)) (c.in-None.ensures.none script st is) is
    c.in-Err-turn_on_inbox.ensures.lost
