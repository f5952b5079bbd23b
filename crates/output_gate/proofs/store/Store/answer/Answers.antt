use Rattle.std.proofs.Common.{◌∙◌, refl, sym, subst}
use Rattle.batch_journal.specs.declared.journal.Journal.{Journal}
use Rattle.batch_journal.specs.Rest.{IsAtRest}
use Rattle.output_gate.specs.Storing.{Reads}
use Rattle.output_gate.specs.declared.store.Store.TheVariants as store
use Rattle.output_gate.proofs.Stored.{same_journal}
use Rattle.output_gate.proofs.store.Store.answer.Goals as goal

pub answer-requires : goal.answer-requires
answer-requires g c =
    let r = c.requires in
    (r.2, subst (λ (j : Journal g.row.D.Denot). IsAtRest g.D.Disk.told g.D.Disk.image j r.2) (same_journal r.0 c.in-Journal.journal (sym r.1 ∙ c.in-Journal.is)) r.3, r.4)

pub returns : goal.returns
returns g c journal is =
    subst (λ (j : Journal g.row.D.Denot). Reads g.D.Disk.moment_of g.D.Disk.left_since g.D.Disk.told g.D.Disk.image g.D.Disk.faults_of j (store.Journal c.answer.new.journal) c.args.cache.now c.answer.new.cache
    c.args.ask.now c.answer.result)
    (same_journal c.in-Journal.journal journal (sym c.in-Journal.is ∙ is))
    (record { new = c.answer.new.journal; is = refl; reading = c.answer.ensures.reading; stays = c.answer.ensures.stays; counts = c.answer.ensures.counts })
