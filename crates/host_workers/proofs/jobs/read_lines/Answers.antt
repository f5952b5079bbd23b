use Rattle.std.proofs.Common.{◌∙◌}
use Rattle.host_workers.proofs.jobs.read_lines.Goals as goal

pub loop-preserved : goal.loop-preserved
loop-preserved g c =
    let i = c.loop.invariant in
    record {
      keeps = λ whole is. c.read_line.ensures.cell whole (i.keeps whole is);
      counts = λ from counted. c.read_line.ensures.counts from (i.counts from counted);
      lane = c.read_line.ensures.lane ∙ i.lane;
      numbers = λ numbered. c.read_line.ensures.numbers (i.numbers numbered);
    }

pub returns-in-Some-clause-counts : goal.returns-in-Some-clause-counts
returns-in-Some-clause-counts g c from counted = c.read_line.ensures.counts from (c.loop.invariant.counts from counted)

pub returns-then-not-is_ready-clause-counts : goal.returns-then-not-is_ready-clause-counts
returns-then-not-is_ready-clause-counts g c from counted = c.read_line.ensures.counts from (c.loop.invariant.counts from counted)
