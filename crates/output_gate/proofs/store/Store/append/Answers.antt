use Rattle.std.proofs.Common.{◌∙◌, sym, subst}
use Rattle.batch_journal.specs.declared.journal.Journal.{Journal}
use Rattle.output_gate.specs.Storing.{Stores}
use Rattle.output_gate.proofs.Stored.{same_journal}
use Rattle.output_gate.proofs.store.Store.append.Goals as goal

pub returns-clause-stores : goal.returns-clause-stores
returns-clause-stores g c journal is =
    subst (λ (j : Journal g.row.D.Denot). Stores g.D.Disk.told g.D.Disk.image j c.args.cache.now c.append_to.new.cache c.append_to.result)
    (same_journal c.in-Journal.journal journal (sym c.in-Journal.is ∙ is)) c.append_to.ensures.stores
