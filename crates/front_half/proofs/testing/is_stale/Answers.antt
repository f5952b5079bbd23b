use Rattle.std.proofs.Common.{◌∙◌, sym, ap, not}
use Rattle.front_turns.specs.Held.{object_of}
use Rattle.front_half.proofs.Judging.{stale_named, never_stale}
use Rattle.front_half.proofs.testing.is_stale.Goals as goal

pub returns-in-Some : goal.returns-in-Some
returns-in-Some g c = λ l ts held.
    ap not (c.is_waited_for.ensures l ts held)
    ∙ sym (stale_named c.args.now (object_of c.args.object.now ts) c.args.event.now c.in-Some.named (sym c.named_by.ensures ∙ c.in-Some.is))

pub returns-in-None : goal.returns-in-None
returns-in-None g c = λ l ts held. sym (never_stale c.args.now (object_of c.args.object.now ts) c.args.event.now (sym c.named_by.ensures ∙ c.in-None.is))
