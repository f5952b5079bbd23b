use Rattle.front_turns.proofs.Saying.{one_said}
use Rattle.std.proofs.Common.{subst, ◌∷◌, []}
use Rattle.std.specs.Prelude.{List, None}
use Rattle.storage_map.specs.declared.op.Op.{Op}
use Rattle.timeline.specs.Object.{idle}
use Rattle.timeline.specs.Steps.{batch, confirmed, wrote}
use Rattle.front_turns.specs.Held.{object_of, Says}
use Rattle.front_turns.specs.declared.object.State.TheVariants as state
use Rattle.front_turns.proofs.ends.handled.Goals as goal

pub returns-in-None : goal.returns-in-None
returns-in-None g c = λ l ts held. rw c.in-None.is (c.idles.ensures l ts _ held)

pub returns-in_ok-say-in-Some : goal.returns-in_ok-say-in-Some
returns-in_ok-say-in-Some g c = λ l ts held. rw (c.in-Some.is) (
    subst (λ (b : List Op). Says g.T.Task.seen l c.args.says.now.items c.say.new.says.items (state.Idle c.unhandled-object.result)
    (record { says = batch (confirmed b) ∷ []; state = idle (wrote (confirmed b ∷ []) (record (object_of c.args.object ts) { handler = None })) })) c.in_ok-batch-in-Some.ensures
    (one_said {o = c.unhandled-object.result} _ ts _ (c.unhandled-object.ensures.holds l ts held) (c.unhandled-object.ensures.object ts) c.in_ok-say-in-Some.ensures))
