use Rattle.std.proofs.Common.{◌∙◌, refl, sym, subst}
use Rattle.batch_journal.specs.declared.journal.Journal.{Journal}
use Rattle.output_gate.specs.Storing.{Stages, StagesOps}
use Rattle.output_gate.specs.declared.store.Store.TheVariants as store
use Rattle.output_gate.proofs.Stored.{same_journal}
use Rattle.output_gate.proofs.store.Store.stage.Goals as goal

pub returns : goal.returns
returns g c = record {
  staged = λ journal is.
      subst (λ (j : Journal g.row.D.Denot). Stages g.D.Disk.told g.D.Disk.image j (store.Journal c.take.new.journal) c.args.identity.now c.args.batch.now c.take.result)
      (same_journal c.in-Journal.journal journal (sym c.in-Journal.is ∙ is))
      (record {
        new = c.take.new.journal;
        is = refl;
        staged = c.take.ensures.staged.staged;
        same_staged = c.take.ensures.staged.same_staged;
        frames = c.take.ensures.staged.frames;
        disk = c.take.ensures.staged.disk;
        limit = c.take.ensures.staged.limit;
        end = c.take.ensures.staged.end;
      });
  stored = λ journal is.
      subst (λ (j : Journal g.row.D.Denot). StagesOps g.D.Disk.told g.D.Disk.image j c.args.cache.now c.take.new.cache c.args.identity.now c.args.batch.now c.take.result)
      (same_journal c.in-Journal.journal journal (sym c.in-Journal.is ∙ is))
      (record { stored = c.take.ensures.stored; kept = c.take.ensures.kept });
  counted = c.take.ensures.counted;
}
