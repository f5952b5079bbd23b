use Rattle.std.proofs.Common.{◌+◌, inl, refl, sym, ◌∙◌, arith}
use Rattle.std.proofs.lemmas.Result.{err_from_is_err_and}
use Rattle.line_server.proofs.ReadOn.{stays_on, reads_again, reads_last, reads_line, reads_end, reads_none, reads_fault, reads_refused}
use Rattle.line_server.proofs.Counts.{reads_ok, reads_refused as counts_refused}
use Rattle.line_server.proofs.Taking.{still_going}
use Rattle.line_server.proofs.lines.Lines.read.Goals as goal

pub returns-then-self-clause-on : goal.returns-then-self-clause-on
returns-then-self-clause-on g c = reads_again g.R.Source.left c.args.self.now c.if-self.true (omega arith)

pub returns-in_err-some-clause-on : goal.returns-in_err-some-clause-on
returns-in_err-some-clause-on g c =
    let p = err_from_is_err_and c.from_residual.result c.from_residual.ensures.1 in
    rw p.1 (reads_fault g.R.Source.left c.args.self.now c.loop-self.self _ p.0 c.loop-self.invariant.stays (rw p.2 c.in_err-some.ensures.line) refl c.loop-self.invariant.counted)

pub returns-then-not-some-clause-on : goal.returns-then-not-some-clause-on
returns-then-not-some-clause-on g c =
    reads_end g.R.Source.left c.args.self.now c.loop-self.self _ c.loop-self.invariant.stays (rw c.if-not-some.true at c.in_ok-some.ensures.line) refl c.loop-self.invariant.good c.loop-self.invariant.counted (omega arith)

pub returns-in_err-body-clause-on : goal.returns-in_err-body-clause-on
returns-in_err-body-clause-on g c =
    let p = err_from_is_err_and c.from_residual-in_err-body.result c.from_residual-in_err-body.ensures.1 in
    let took = rw c.if-not-some.false at c.in_ok-some.ensures.line in
    rw p.1 (reads_refused g.R.Source.left c.args.self.now c.loop-self.self _ took.0 p.0 c.loop-self.invariant.stays took.2 refl c.loop-self.invariant.good p.2 c.loop-self.invariant.counted)

pub returns-in_err-body-clause-reads : goal.returns-in_err-body-clause-reads
returns-in_err-body-clause-reads g c =
    let p = err_from_is_err_and c.from_residual-in_err-body.result c.from_residual-in_err-body.ensures.1 in
    rw (p.1, p.2) (counts_refused _ _ (c.in_ok-some.ensures.reads.steady ∙ c.loop-self.invariant.steady))

pub returns-then-not-self-clause-on : goal.returns-then-not-self-clause-on
returns-then-not-self-clause-on g c =
    let took = rw c.if-not-some.false at c.in_ok-some.ensures.line in
    reads_line g.R.Source.left c.args.self.now c.loop-self.self _ took.0 _ c.loop-self.invariant.stays took.2 refl c.loop-self.invariant.good (sym took.1.blank ∙ c.if-not-self.true) refl (c.in_ok-body.ensures.body took.0 took.1) c.loop-self.invariant.counted

pub returns-then-not-self-clause-reads : goal.returns-then-not-self-clause-reads
returns-then-not-self-clause-reads g c = reads_ok _ _ _ (c.in_ok-some.ensures.reads.steady ∙ c.loop-self.invariant.steady)

pub returns-then-self-2-clause-on : goal.returns-then-self-2-clause-on
returns-then-self-2-clause-on g c =
    let took = rw c.if-not-some.false at c.in_ok-some.ensures.line in
    reads_last g.R.Source.left c.args.self.now c.loop-self.self _ took.0 c.loop-self.invariant.stays took.2 refl c.loop-self.invariant.good (sym took.1.blank ∙ c.if-not-self.false) c.if-self-2.true c.loop-self.invariant.counted (omega arith)

pub returns-then-self-2-clause-reads : goal.returns-then-self-2-clause-reads
returns-then-self-2-clause-reads g c = reads_ok _ _ _ (c.in_ok-some.ensures.reads.steady ∙ c.loop-self.invariant.steady)

pub loop-self-preserved : goal.loop-self-preserved
loop-self-preserved g c =
    let took = rw c.if-not-some.false at c.in_ok-some.ensures.line in
    record {
      stays = stays_on g.R.Source.left c.args.self.now c.loop-self.self (record c.loop-self.self { bytes = c.cut.new.bytes; raw = c.cut.new.line; count = c.loop-self.self.count + 1; counted = omega arith }) took.0 c.loop-self.invariant.stays took.2 refl c.loop-self.invariant.good (sym took.1.blank ∙ c.if-not-self.false);
      going = c.if-self-2.false;
      good = c.loop-self.invariant.good;
      counted = omega (arith, c.loop-self.invariant.counted);
      steady = c.in_ok-some.ensures.reads.steady ∙ c.loop-self.invariant.steady;
    }

pub returns-clause-on : goal.returns-clause-on
returns-clause-on g c =
    reads_none g.R.Source.left c.args.self.now c.loop-self.self c.loop-self.invariant.stays (inl (omega arith)) (λ going is. still_going c.loop-self.self.bytes.ended c.loop-self.invariant.going is)
    c.loop-self.invariant.counted (omega arith)
