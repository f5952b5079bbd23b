use Rattle.std.proofs.Common.{List, refl, subst}
use Rattle.batch_journal.specs.Frames.{Frame}
use Rattle.batch_journal.specs.Rest.{disk_in}
use Rattle.object_storage.specs.Reads.{CanBeRead}
use Rattle.object_storage.proofs.Answered.{read_of_place}
use Rattle.object_storage.proofs.Stays.{stays_same}
use Rattle.object_storage.proofs.value.read_held.Goals as goal

pub returns-in-Value-clause-stays : goal.returns-in-Value-clause-stays
returns-in-Value-clause-stays g c =
    stays_same g.D.Disk.told g.D.Disk.image g.D.Disk.moment_of g.D.Disk.left_since (λ (frames : List Frame). CanBeRead frames c.args.held) c.args.journal.now c.args.cache.now
    (λ x left. g.met.D.Disk.only_now (disk_in c.args.journal.now) x left)

pub returns-in-At-clause-value : goal.returns-in-At-clause-value
returns-in-At-clause-value g c = λ frames rest can some.
    rw c.in-At.is (read_of_place frames c.in-At.place c.read_at_place.result (subst (CanBeRead frames) c.in-At.is can)
    (λ v placed. c.read_at_place.ensures.value frames v rest placed some))

pub returns-in-At-clause-stays : goal.returns-in-At-clause-stays
returns-in-At-clause-stays g c =
    rw c.in-At.is c.read_at_place.ensures.stays

pub returns-in-Value-clause-calls : goal.returns-in-Value-clause-calls
returns-in-Value-clause-calls g c = rw c.in-Value.is refl

pub returns-in-At-clause-calls : goal.returns-in-At-clause-calls
returns-in-At-clause-calls g c = rw c.in-At.is c.read_at_place.ensures.calls
