use Rattle.std.proofs.lemmas.Result.{on_ok_weaker}
use Rattle.host_core.proofs.Reading.{both_so, next_all, next_counts, next_reads}
use Rattle.host_core.proofs.serving.next_line.Goals as goal

pub returns-clause-reads : goal.returns-clause-reads
returns-clause-reads g c = λ whole given has.
    let e = c.next.ensures in
    next_reads g.R.Source.left whole given c.args.lines.now c.next.new.self c.next.result (on_ok_weaker c.next.result (λ reading. reading whole given) e.reading)
    (e.first whole given) (e.looked_at whole given) (λ failed. e.exact failed whole given) e.fault e.again has

pub returns-clause-all : goal.returns-clause-all
returns-clause-all g c = λ ended whole given has.
    let e = c.next.ensures in
    next_all g.R.Source.left whole given c.args.lines.now c.next.new.self c.next.result ended e.again (e.all ended whole given) (e.total ended whole given) has

pub returns-clause-number : goal.returns-clause-number
returns-clause-number g c = both_so c.next.result _ _ c.next.ensures.number c.next.ensures.further

pub returns-clause-counts : goal.returns-clause-counts
returns-clause-counts g c = λ from was.
    let e = c.next.ensures in
    next_counts g.R.Source.faults_of from c.args.lines.now c.next.new.self c.next.result e.again e.reads e.fault was
