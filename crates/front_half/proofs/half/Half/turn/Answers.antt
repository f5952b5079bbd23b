use Rattle.std.proofs.Common.{◌∙◌, sym}
use Rattle.do_tree.specs.Checked.{tree_of as script_in}
use Rattle.front_half.proofs.Taking.{not_stopped, entered_turns, entered_halts}
use Rattle.front_half.proofs.half.Half.turn.Goals as goal

pub returns-then-is_stopped-clause-lost : goal.returns-then-is_stopped-clause-lost
returns-then-is_stopped-clause-lost g c = λ st is.
    elim (not_stopped g.T.Task.seen (script_in c.args.checked.now) c.args.self.now st is (sym c.is_stopped.ensures ∙ c.if-is_stopped.true)) [ ]

pub returns-in-Ok-turn_on_event-clause-ran : goal.returns-in-Ok-turn_on_event-clause-ran
returns-in-Ok-turn_on_event-clause-ran g c = λ ok st is.
    entered_turns g.T.Task.seen (script_in c.args.checked.now) c.args.self.now c.turn_on_event.new.self st _ _ _ _ _ c.if-self.false is c.in-None.ensures.none (c.in-Ok-turn_on_event.ensures.ran ok st is)

pub returns-in-Err-turn_on_event-clause-lost : goal.returns-in-Err-turn_on_event-clause-lost
returns-in-Err-turn_on_event-clause-lost g c = λ st is.
    entered_halts g.T.Task.seen (script_in c.args.checked.now) c.args.self.now c.turn_on_event.new.self st _ _ _ _ _ c.if-self.false is c.in-None.ensures.none (c.in-Err-turn_on_event.ensures.lost st is)
