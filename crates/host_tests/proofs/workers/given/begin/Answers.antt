use Rattle.std.proofs.Common.{◌≡◌, ap, sym, subst, ℕ, ℤ, Option, None}
use Rattle.batch_journal.specs.Frames.{batches_in}
use Rattle.do_disk.specs.Disk.{next_count}
use Rattle.do_tree.specs.Checked.{tree_of}
use Rattle.storage_map.specs.Limits.{Object}
use Rattle.object_core.specs.One.{class_in}
use Rattle.object_front.specs.Evaluated.{seen}
use Rattle.front_half.specs.Standing.{IsHalf, fresh}
use Rattle.host_tests.proofs.workers.given.begin.Goals as goal

pub returns : goal.returns
returns g c =
    let script = tree_of c.args.checked.now in
    let front = c.new-front.result.half in
    let class : None ≡ class_in script c.args.mounted.identity = ap (λ (o : Option Object). class_in script o) (sym c.requires.none) in
    let stands : IsHalf seen script front (fresh (class_in script c.args.mounted.identity) c.args.mounted.index.alarm) =
    subst (λ (x : Option ℕ × Option (ℤ × ℕ)). IsHalf seen script front (fresh x.0 x.1)) (λ i. (class i, c.alarm.ensures i)) c.new-front.ensures.stands in
    let mount = c.requires.mount in
    record {
      fresh = c.halves_are_fresh.ensures script c.args.mounted front c.in-Ok.ensures.fresh stands c.new-front.ensures.log;
      some = (batches_in mount.1.frames, next_count (g.D.Disk.moment_of mount.0), c.in-Ok.ensures.back mount.0 mount.1);
    }
