use Rattle.std.proofs.Common.{◌∙◌, sym}
use Rattle.front_turns.specs.Held.{object_of}
use Rattle.front_half.proofs.Judging.{idle_stale, idle_delivers, idle_defers}
use Rattle.front_half.proofs.testing.at_idle.Goals as goal

pub returns-then-is_stale : goal.returns-then-is_stale
returns-then-is_stale g c = λ l ts held.
    c.stale.ensures ∙ sym (idle_stale c.args.now (object_of c.args.object.now ts) c.args.event.now (sym (c.is_stale.ensures l ts held) ∙ c.if-is_stale.true))

pub returns-then-is_eligible : goal.returns-then-is_eligible
returns-then-is_eligible g c = λ l ts held.
    sym (idle_delivers c.args.now (object_of c.args.object.now ts) c.args.event.now (sym (c.is_stale.ensures l ts held) ∙ c.if-is_stale.false)
    (sym (c.is_eligible.ensures l ts held) ∙ c.if-is_eligible.true))

pub returns : goal.returns
returns g c = λ l ts held.
    sym (idle_defers c.args.now (object_of c.args.object.now ts) c.args.event.now (sym (c.is_stale.ensures l ts held) ∙ c.if-is_stale.false)
    (sym (c.is_eligible.ensures l ts held) ∙ c.if-is_eligible.false))
