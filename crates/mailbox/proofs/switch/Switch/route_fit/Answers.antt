use Rattle.std.proofs.Common.{Some, refl, sym, ◌∙◌}
use Rattle.std.specs.Prelude.{Err}
use Rattle.std.proofs.lemmas.Option.{none-some}
use Rattle.mailbox.proofs.Acting.{acts_stopped, acts_within}
use Rattle.mailbox.proofs.Takings.{inlets_none}
use Rattle.mailbox.proofs.switch.Switch.route_fit.Goals as goal

pub returns-in-Some-clause-begun : goal.returns-in-Some-clause-begun
returns-in-Some-clause-begun g c = λ none. absurd (none-some c.in-Some.fault (sym none ∙ c.in-Some.is))

pub returns-in-Some-clause-acts : goal.returns-in-Some-clause-acts
returns-in-Some-clause-acts g c = acts_stopped g.S.Outlet.sent g.S.Outlet.outlet g.S.Outlet.left g.W.Sink.taken g.W.Sink.faults_of c.args.self.now c.args.inboxes.now c.in-Some.fault (Err c.in-Some.fault) c.in-Some.is

pub returns-in-Some-clause-lanes : goal.returns-in-Some-clause-lanes
returns-in-Some-clause-lanes g c = inlets_none g.O.Inlet.inlet g.O.Inlet.told c.args.outs.now

pub returns-in-Err-clause-acts : goal.returns-in-Err-clause-acts
returns-in-Err-clause-acts g c =
    let s = c.args.self.now in
    let after = c.route_fit_next.new.self in
    acts_within g.S.Outlet.sent g.S.Outlet.outlet g.S.Outlet.left g.W.Sink.taken g.W.Sink.faults_of s s after (record after { fault = Some c.in-Err.fault }) c.args.inboxes.now c.route_fit_next.new.inboxes (Err c.in-Err.fault) (Err c.in-Err.fault)
    (record { posts = refl; lines = refl; out = refl; slots = refl }) refl (record { posts = refl; lines = refl; out = refl; slots = refl }) (λ f. f) (λ f. f) c.in-Err.ensures.acts
