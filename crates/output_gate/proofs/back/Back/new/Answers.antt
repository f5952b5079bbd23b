use Rattle.std.proofs.Common.{refl, sym, inl}
use Rattle.output_gate.proofs.Counts.{counts_new}
use Rattle.output_gate.proofs.Endings.{logged_new}
use Rattle.output_gate.proofs.Opens.{serves_new, safe_new}
use Rattle.output_gate.proofs.Reading.{reading_none}
use Rattle.output_gate.proofs.Stored.{limited_in}
use Rattle.output_gate.specs.declared.store.Store.TheVariants as store
use Rattle.output_gate.proofs.back.Back.new.Goals as goal

pub returns : goal.returns
returns g c = record {
  fresh = record {
    log = rw (c.new-3.ensures.items, c.new-4.ensures.items, c.new-5.ensures.items, c.new-6.ensures.items, c.new-7.ensures.items, c.new-8.ensures.items) refl;
    held = c.new-2.ensures.items;
    store = refl;
    limit = c.limit-limit.ensures;
    journal = limited_in (store.Journal c.args.mounted.journal) c.args.mounted.journal c.limit-limit.result refl (sym c.limit-limit.ensures);
    identity = refl;
    cache = c.in-Ok.ensures;
    stuck = refl;
    stopped = refl;
  };
  back = λ disk is. inl (record {
    journal = c.args.mounted.journal;
    safe = safe_new g.D.Disk.moment_of g.D.Disk.left_since g.D.Disk.told g.D.Disk.image disk c.args.mounted is c.requires c.args.alloc c.limit-limit.result c.in-Ok.cache c.new-2.result _ c.in-Ok.ensures
        c.new-2.ensures.items (rw (c.new-3.ensures.items, c.new-4.ensures.items, c.new-5.ensures.items, c.new-6.ensures.items, c.new-7.ensures.items, c.new-8.ensures.items) refl);
    serves = λ tells. serves_new g.D.Disk.moment_of g.D.Disk.left_since g.D.Disk.told g.D.Disk.image disk c.args.mounted is c.requires c.args.alloc c.limit-limit.result c.in-Ok.cache c.new-2.result _
        c.in-Ok.ensures c.new-2.ensures.items (rw (c.new-3.ensures.items, c.new-4.ensures.items, c.new-5.ensures.items, c.new-6.ensures.items, c.new-7.ensures.items, c.new-8.ensures.items) refl);
    logged = logged_new _ _ (rw (c.new-3.ensures.items, c.new-4.ensures.items, c.new-5.ensures.items, c.new-6.ensures.items, c.new-7.ensures.items, c.new-8.ensures.items) refl);
    counts = counts_new _ _ _ c.new-5.ensures.items c.new-8.ensures.items;
    reads = reading_none _ _ _ (rw c.new-2.ensures.items refl);
  });
  disk = tt;
}
