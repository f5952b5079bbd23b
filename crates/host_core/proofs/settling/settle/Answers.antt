use Rattle.std.proofs.Common.{◌∙◌, sym}
use Rattle.std.specs.Prelude.{true, Ok}
use Rattle.std.proofs.lemmas.Result.{err_from_is_err_and}
use Rattle.host_core.proofs.Goings.{on_err_by}
use Rattle.host_core.proofs.Printings.{prints_failed, prints_on, ok_unfailed, ok_unfailed_at}
use Rattle.host_core.proofs.settling.settle.Goals as goal

pub returns-in_err-go_round-clause-served : goal.returns-in_err-go_round-clause-served
returns-in_err-go_round-clause-served g c =
    on_err_by c.from_residual.result (λ limit contents named serving. c.in_err-go_round.ensures.served limit contents named (c.loop.invariant.serving limit contents named serving))

pub returns-in_err-go_round-clause-prints : goal.returns-in_err-go_round-clause-prints
returns-in_err-go_round-clause-prints g c =
    let failed = err_from_is_err_and c.from_residual.result c.from_residual.ensures.1 in
    prints_failed g.W.Sink.taken g.W.Sink.faults_of c.args.switch.now c.loop.switch c.go_round.new.switch c.go_round.result c.from_residual.result c.in_err-go_round.field-0.0 failed.0
    c.loop.invariant.there.3.goes c.in_err-go_round.was failed.1 failed.2 c.loop.invariant.prints c.go_round.ensures.prints

pub returns-then-not-branch-clause-serving : goal.returns-then-not-branch-clause-serving
returns-then-not-branch-clause-serving g c limit contents named serving =
    c.in_ok-go_round.ensures.serving limit contents named (c.loop.invariant.serving limit contents named serving)

pub loop-preserved : goal.loop-preserved
loop-preserved g c =
    let i = c.loop.invariant in
    record {
      can_next = tt;
      there = (i.there.0, i.there.1, i.there.2, c.in_ok-go_round.ensures.serving i.there.0 i.there.1 i.there.2 i.there.3);
      serving = λ limit contents named serving. c.in_ok-go_round.ensures.serving limit contents named (i.serving limit contents named serving);
      many = c.go_round.ensures.many ∙ i.many;
      accepted = c.go_round.ensures.accepted ∙ i.accepted;
      prints = prints_on g.W.Sink.taken g.W.Sink.faults_of c.args.switch.now c.loop.switch c.go_round.new.switch c.go_round.result (Ok true) i.there.3.goes
          (λ failed. absurd (ok_unfailed_at c.in_ok-go_round.field-0 (sym c.in_ok-go_round.was ∙ failed))) (λ failed. absurd (ok_unfailed failed)) i.prints c.go_round.ensures.prints;
      finite = tt;
    }
