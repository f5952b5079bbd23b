use Rattle.std.proofs.Common.{◌<◌, Err, refl, ap, sym, subst, ◌∙◌, arith}
use Rattle.std.proofs.lemmas.Result.{err_from_is_err_and}
use Rattle.line_server.specs.Limits.{most_cut_bytes}
use Rattle.line_server.specs.declared.raw_line.RawLine.{RawLine}
use Rattle.line_server.proofs.Counts.{reads_ok, reads_stopped}
use Rattle.line_server.proofs.Taking.{IsTaking, stops, takes_at_end, takes_end, takes_room, taking_on}
use Rattle.line_server.proofs.cut.cut.Goals as goal

pub returns-in_err-give-clause-line : goal.returns-in_err-give-clause-line
returns-in_err-give-clause-line g c =
    let p = err_from_is_err_and c.from_residual.result c.from_residual.ensures.1 in
    rw p.1 (stops g.R.Source.left _ _ _ _ p.0 c.loop-line.invariant.taking c.in_err-give.ensures.stays.1 (λ failed. c.give.ensures.none_held (c.in_err-give.was ∙ ap Err (sym p.2 ∙ failed))) c.in_err-give.ensures.stays.0 c.loop-line-test.true)

pub returns-in_err-give-clause-reads : goal.returns-in_err-give-clause-reads
returns-in_err-give-clause-reads g c =
    let p = err_from_is_err_and c.from_residual.result c.from_residual.ensures.1 in
    rw (p.1, p.2) (reads_stopped _ _ _ _ _ c.in_err-give.was c.loop-line.invariant.steady c.give.ensures.faults)

pub returns-in-Rest-clause-line : goal.returns-in-Rest-clause-line
returns-in-Rest-clause-line g c =
    let adds = rw c.in-Rest.is at c.in_ok-give.ensures.adds in
    takes_at_end g.R.Source.left _ _ _ _ _ adds.0 c.loop-line.invariant.taking adds.1 adds.3 (omega (arith, adds.2, c.loop-line-test.true)) adds.4

pub loop-line-preserved : goal.loop-line-preserved
loop-line-preserved g c =
    let adds = rw c.in-Part.is at c.in_ok-give.ensures.adds in
    record {
      taking = taking_on g.R.Source.left _ _ _ _ _ adds.0 c.loop-line.invariant.taking adds.4 adds.1;
      going = adds.5;
      room = omega (arith, adds.1.length_is, adds.3, c.loop-line-test.true);
      steady = c.in_ok-give.ensures.faults.steady ∙ c.loop-line.invariant.steady;
    }

pub returns-in-Nothing-clause-line : goal.returns-in-Nothing-clause-line
returns-in-Nothing-clause-line g c =
    let adds = rw c.in-Nothing.is at c.in_ok-give.ensures.adds in
    takes_end g.R.Source.left c.args.bytes.now c.loop-line.bytes c.give.new.self c.give.new.line _ refl
    (subst (λ (raw : RawLine). IsTaking g.R.Source.left c.args.bytes.now c.loop-line.bytes raw) (sym adds.0) c.loop-line.invariant.taking) adds.1 adds.2 adds.3
    (subst (λ (raw : RawLine). raw.length < most_cut_bytes) (sym adds.0) c.loop-line-test.true)

pub returns-clause-line : goal.returns-clause-line
returns-clause-line g c = takes_room g.R.Source.left _ _ _ c.loop-line.invariant.taking (omega arith) c.loop-line.invariant.going

pub returns-clause-reads : goal.returns-clause-reads
returns-clause-reads g c = reads_ok _ _ _ c.loop-line.invariant.steady
