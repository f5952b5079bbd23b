use Rattle.std.proofs.Common.{Some, refl, sym, ◌∙◌}
use Rattle.std.specs.Prelude.{Err}
use Rattle.std.proofs.lemmas.Option.{none-some}
use Rattle.do_tree.specs.Checked.{tree_of}
use Rattle.mailbox.proofs.Acting.{acts_stopped, acts_within}
use Rattle.mailbox.proofs.Keeping.{keeps_step}
use Rattle.mailbox.proofs.Takings.{inlets_none}
use Rattle.mailbox.proofs.switch.Switch.route.Goals as goal

pub returns-in-Some-clause-begun : goal.returns-in-Some-clause-begun
returns-in-Some-clause-begun g c = λ none. absurd (none-some c.in-Some.fault (sym none ∙ c.in-Some.is))

pub returns-in-Some-clause-acts : goal.returns-in-Some-clause-acts
returns-in-Some-clause-acts g c = acts_stopped g.S.Outlet.sent g.S.Outlet.outlet g.S.Outlet.left g.W.Sink.taken g.W.Sink.faults_of c.args.self.now c.args.inboxes.now c.in-Some.fault (Err c.in-Some.fault) c.in-Some.is

pub returns-in-Some-clause-lanes : goal.returns-in-Some-clause-lanes
returns-in-Some-clause-lanes g c = inlets_none g.O.Inlet.inlet g.O.Inlet.told c.args.outs.now

pub returns-in-Ok-clause-run : goal.returns-in-Ok-clause-run
returns-in-Ok-clause-run g c =
    keeps_step g.O.Inlet.got g.O.Inlet.told (tree_of c.args.checked.now) c.args.self.now c.route_next.new.self c.args.outs.now c.route_next.new.outs c.in-Ok.stepped c.in-Ok.ensures.routed c.in-Ok.ensures.nothing

pub returns-in-Err-clause-acts : goal.returns-in-Err-clause-acts
returns-in-Err-clause-acts g c =
    let s = c.args.self.now in
    let after = c.route_next.new.self in
    acts_within g.S.Outlet.sent g.S.Outlet.outlet g.S.Outlet.left g.W.Sink.taken g.W.Sink.faults_of s s after (record after { fault = Some c.in-Err.fault }) c.args.inboxes.now c.route_next.new.inboxes (Err c.in-Err.fault) (Err c.in-Err.fault)
    (record { posts = refl; lines = refl; out = refl; slots = refl }) refl (record { posts = refl; lines = refl; out = refl; slots = refl }) (λ f. f) (λ f. f) c.in-Err.ensures.acts
