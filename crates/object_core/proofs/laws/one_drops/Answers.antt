use Rattle.timeline.specs.Logs.{fronted}
use Rattle.timeline.specs.declared.event.Event.{Event}
use Rattle.object_front.specs.Came.{kept}
use Rattle.object_core.proofs.Becoming.{fitting_first}
use Rattle.object_core.proofs.Drops.{drops_only}
use Rattle.object_core.specs.Dropping.{AreFitting}
use Rattle.object_core.specs.One.{class_in}
use Rattle.std.proofs.Common.{List, subst}
use Rattle.object_core.proofs.laws.one_drops.Goals as goal

pub returns : goal.returns
returns g c script origin tells one all starts fit =
    let core = c.args.core.now in
    let first = class_in script origin.object in
    drops_only core.inbox.got all (fronted core.front.half.log) core.back.log.downs.items (kept one.st) one.has_got.lost starts one.has_got.come
    ((one.drops tells).dropped (fitting_first script first core.inbox.got starts.0 (subst (λ (es : List Event). AreFitting script first es) starts.1 fit)))
