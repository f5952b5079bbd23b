use Rattle.host_workers.proofs.Numbering.{numbered_on, numbered_still}
use Rattle.host_workers.proofs.Reading.{counts_on, good_answer, reads_one, went}
use Rattle.std.proofs.Common.{refl, subst, sym}
use Rattle.line_server.specs.Lines.{fault_of}
use Rattle.line_server.specs.declared.lines.Lines.{Lines}
use Rattle.host_workers.specs.Lines.{HasCounted, IsLinesCell, IsNumbered}
use Rattle.host_workers.specs.declared.lines_cell.LinesCell.{LinesCell}
use Rattle.host_workers.proofs.lines_cell.LinesCell.read.Goals as goal

pub returns-in-Ok-Some-clause-cell : goal.returns-in-Ok-Some-clause-cell
returns-in-Ok-Some-clause-cell g c whole is =
    let e = c.in-Ok-Some.ensures in
    let reading = rw c.in-Ok-Some.field-0-is at e.reading in
    let cell : LinesCell g.row.R.Denot g.row.T.Denot = record { lines = c.get_mut.result.now; send = c.args.self.now.send; stopped = c.args.self.now.stopped } in
    let was = subst (λ (l : Lines g.row.R.Denot). IsLinesCell {T = g.row.T.Denot} g.R.Source.left whole (record { lines = l; send = c.args.self.now.send; stopped = c.args.self.now.stopped })) (sym c.get_mut.ensures.value) is in
    reads_one g.R.Source.left whole cell c.next.new.self c.in-Ok-Some.line c.pass_on.new.self c.pass_on.result c.if-self.false
    (λ given so. reading whole given so) (good_answer _ (fault_of c.get_mut.result.now) (λ fault at. (e.again fault at).0)) c.pass_on.ensures was

pub returns-in-Ok-Some-clause-did : goal.returns-in-Ok-Some-clause-did
returns-in-Ok-Some-clause-did g c did = went _ c.pass_on.new.self c.in-Ok-Some.line c.pass_on.result c.pass_on.ensures did

pub returns-in-Ok-Some-clause-counts : goal.returns-in-Ok-Some-clause-counts
returns-in-Ok-Some-clause-counts g c from was =
    let e = c.next.ensures in
    subst (λ lines. HasCounted g.R.Source.faults_of from lines) (sym c.pass_on.ensures.lines) (counts_on g.R.Source.faults_of from c.get_mut.result.now c.next.new.self c.next.result (fault_of c.get_mut.result.now) refl e.again e.reads e.fault
    (subst (λ (l : Lines g.row.R.Denot). HasCounted g.R.Source.faults_of from l) (sym c.get_mut.ensures.value) was))

pub returns-in-Ok-None-clause-counts : goal.returns-in-Ok-None-clause-counts
returns-in-Ok-None-clause-counts g c from was =
    let e = c.next.ensures in
    (counts_on g.R.Source.faults_of from c.get_mut.result.now c.next.new.self c.next.result (fault_of c.get_mut.result.now) refl e.again e.reads e.fault
    (subst (λ (l : Lines g.row.R.Denot). HasCounted g.R.Source.faults_of from l) (sym c.get_mut.ensures.value) was))

pub returns-in-Err-clause-counts : goal.returns-in-Err-clause-counts
returns-in-Err-clause-counts g c from was =
    let e = c.next.ensures in
    (counts_on g.R.Source.faults_of from c.get_mut.result.now c.next.new.self c.next.result (fault_of c.get_mut.result.now) refl e.again e.reads e.fault
    (subst (λ (l : Lines g.row.R.Denot). HasCounted g.R.Source.faults_of from l) (sym c.get_mut.ensures.value) was))

pub returns-in-Ok-Some-clause-numbers : goal.returns-in-Ok-Some-clause-numbers
returns-in-Ok-Some-clause-numbers g c was =
    let e = c.in-Ok-Some.ensures in
    let number = rw c.in-Ok-Some.field-0-is at e.number in
    let further = rw c.in-Ok-Some.field-0-is at e.further in
    let cell : LinesCell g.row.R.Denot g.row.T.Denot = record { lines = c.get_mut.result.now; send = c.args.self.now.send; stopped = c.args.self.now.stopped } in
    let so = subst (λ (l : Lines g.row.R.Denot). IsNumbered {T = g.row.T.Denot} (record { lines = l; send = c.args.self.now.send; stopped = c.args.self.now.stopped })) (sym c.get_mut.ensures.value) was in
    numbered_on cell c.next.new.self c.in-Ok-Some.line c.pass_on.new.self c.pass_on.result number further c.pass_on.ensures so

pub returns-in-Ok-None-clause-numbers : goal.returns-in-Ok-None-clause-numbers
returns-in-Ok-None-clause-numbers g c was =
    let cell : LinesCell g.row.R.Denot g.row.T.Denot = record { lines = c.get_mut.result.now; send = c.args.self.now.send; stopped = c.args.self.now.stopped } in
    let so = subst (λ (l : Lines g.row.R.Denot). IsNumbered {T = g.row.T.Denot} (record { lines = l; send = c.args.self.now.send; stopped = c.args.self.now.stopped })) (sym c.get_mut.ensures.value) was in
    numbered_still cell _ refl c.next.ensures.count.0 so

pub returns-in-Err-clause-numbers : goal.returns-in-Err-clause-numbers
returns-in-Err-clause-numbers g c was =
    let cell : LinesCell g.row.R.Denot g.row.T.Denot = record { lines = c.get_mut.result.now; send = c.args.self.now.send; stopped = c.args.self.now.stopped } in
    let so = subst (λ (l : Lines g.row.R.Denot). IsNumbered {T = g.row.T.Denot} (record { lines = l; send = c.args.self.now.send; stopped = c.args.self.now.stopped })) (sym c.get_mut.ensures.value) was in
    numbered_still cell _ refl c.next.ensures.count.0 so
