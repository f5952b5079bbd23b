use Rattle.std.proofs.Common.{◌∙◌, sym}
use Rattle.std.specs.Prelude.{true, Ok}
use Rattle.std.proofs.lemmas.Result.{err_from_is_err_and}
use Rattle.host_core.proofs.Goings.{on_err_by}
use Rattle.host_core.proofs.Printings.{prints_failed, prints_on, ok_unfailed, ok_unfailed_at, was_false, answer_is, true_not}
use Rattle.host_core.proofs.settling.route_all.Goals as goal

pub returns-in_err-route_one-clause-served : goal.returns-in_err-route_one-clause-served
returns-in_err-route_one-clause-served g c =
    on_err_by c.from_residual.result (λ limit contents named serving. c.in_err-route_one.ensures.served limit contents named (c.loop.invariant.serving limit contents named serving))

pub returns-in_err-route_one-clause-prints : goal.returns-in_err-route_one-clause-prints
returns-in_err-route_one-clause-prints g c =
    let failed = err_from_is_err_and c.from_residual.result c.from_residual.ensures.1 in
    prints_failed g.W.Sink.taken g.W.Sink.faults_of c.args.switch.now c.loop.switch c.route_one.new.switch c.route_one.result c.from_residual.result c.in_err-route_one.field-0.0 failed.0
    c.loop.invariant.there.3.goes c.in_err-route_one.was failed.1 failed.2 c.loop.invariant.prints c.route_one.ensures.prints

pub returns-then-not-branch-clause-serving : goal.returns-then-not-branch-clause-serving
returns-then-not-branch-clause-serving g c limit contents named serving =
    c.in_ok-route_one.ensures.serving limit contents named (c.loop.invariant.serving limit contents named serving)

pub returns-then-not-branch-clause-resting : goal.returns-then-not-branch-clause-resting
returns-then-not-branch-clause-resting g c is script resting =
    c.route_one.ensures.resting (was_false c.route_one.result c.in_ok-route_one.field-0 c.in_ok-route_one.was c.if-not-branch.true) script
    (c.loop.invariant.resting (answer_is c.loop.routed is) script resting)

pub loop-preserved : goal.loop-preserved
loop-preserved g c =
    let i = c.loop.invariant in
    record {
      can_next = tt;
      there = (i.there.0, i.there.1, i.there.2, c.in_ok-route_one.ensures.serving i.there.0 i.there.1 i.there.2 i.there.3);
      serving = λ limit contents named serving. c.in_ok-route_one.ensures.serving limit contents named (i.serving limit contents named serving);
      cores = c.route_one.ensures.cores ∙ i.cores;
      resting = λ routed. absurd (true_not routed);
      accepted = c.route_one.ensures.accepted ∙ i.accepted;
      prints = prints_on g.W.Sink.taken g.W.Sink.faults_of c.args.switch.now c.loop.switch c.route_one.new.switch c.route_one.result (Ok true) i.there.3.goes
          (λ failed. absurd (ok_unfailed_at c.in_ok-route_one.field-0 (sym c.in_ok-route_one.was ∙ failed))) (λ failed. absurd (ok_unfailed failed)) i.prints c.route_one.ensures.prints;
      finite = tt;
    }
