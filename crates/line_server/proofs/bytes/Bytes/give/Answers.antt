use Rattle.std.proofs.Common.{refl, ◌∙◌}
use Rattle.line_server.proofs.Counts.{reads_ok}
use Rattle.line_server.proofs.Giving.{adds_part, adds_rest}
use Rattle.line_server.proofs.bytes.Bytes.give.Goals as goal

pub returns-in_ok-add-in-Whole-clause-adds : goal.returns-in_ok-add-in-Whole-clause-adds
returns-in_ok-add-in-Whole-clause-adds g c =
    adds_rest g.R.Source.left c.args.self.now c.read_where_none.new.self (record c.read_where_none.new.self { buffer = c.pass.new.self }) c.args.line.now c.add.new.self c.args.most c.in-Whole.count
    c.read_where_none.ensures.gives (rw c.held-held.ensures at c.in-Whole.ensures) refl c.pass.ensures (c.read_where_none.ensures.ended ∙ c.requires.going)
    (rw c.held-held.ensures at c.in_ok-add-in-Whole.ensures.length) (rw c.held-held.ensures at c.in_ok-add-in-Whole.ensures.more)

pub returns-in_ok-add-in-Part-clause-adds : goal.returns-in_ok-add-in-Part-clause-adds
returns-in_ok-add-in-Part-clause-adds g c =
    adds_part g.R.Source.left c.args.self.now c.read_where_none.new.self (record c.read_where_none.new.self { buffer = c.pass-in-Part.new.self }) c.args.line.now c.add-in-Part.new.self c.args.most c.in-Part.count
    c.read_where_none.ensures.gives (rw c.held-held.ensures at c.in-Part.ensures) refl c.pass-in-Part.ensures (c.read_where_none.ensures.ended ∙ c.requires.going)
    (rw c.held-held.ensures at c.in_ok-add-in-Part.ensures.length) (rw c.held-held.ensures at c.in_ok-add-in-Part.ensures.more)

pub returns-in_ok-add-in-Part-clause-faults : goal.returns-in_ok-add-in-Part-clause-faults
returns-in_ok-add-in-Part-clause-faults g c = reads_ok _ _ _ c.in_ok-read_where_none.ensures.faults.steady
