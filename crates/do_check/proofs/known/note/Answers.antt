use Rattle.do_check.proofs.Noted.{noted_in}
use Rattle.do_check.proofs.known.note.Goals.{in-Ok-insert, in-Err}
use Rattle.do_check.proofs.known.note.Goals as goal

pub returns-clause-noted : goal.returns-clause-noted
returns-clause-noted c = elim c.match-insert.branch [
  | in-Ok-insert w ↦
      rw w.result-is
      (noted_in c.in-Ok.owned c.args.text.now c.args.texts.now c.insert.new.self c.in-Ok.ensures.ok (rw w.in-Ok-insert.is at c.insert.ensures.updates))
  | in-Err w ↦ rw w.result-is tt
]
