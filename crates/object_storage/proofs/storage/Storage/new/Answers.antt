use Rattle.object_storage.proofs.Standing.{stands_mounted}
use Rattle.object_storage.proofs.storage.Storage.new.Goals as goal

pub returns-in-Ok-clause-stands : goal.returns-in-Ok-clause-stands
returns-in-Ok-clause-stands g c =
    stands_mounted g.D.Disk.told g.D.Disk.image (record { alloc = c.args.alloc; journal = c.args.journal; cache = c.in-Ok.cache }) c.args.index c.in-Ok.ensures
