use Rattle.std.specs.Prelude.{Result, Ok, Err, OnOk}
use Rattle.object_storage.proofs.Standing.{has_some, stands_read}
use Rattle.object_storage.proofs.storage.Storage.answer.Goals as goal

pub answer-requires : goal.answer-requires
answer-requires g c = has_some g.D.Disk.told g.D.Disk.image c.args.self.now c.requires

pub returns-clause-reading : goal.returns-clause-reading
returns-clause-reading g c = λ some frames object staged m is. c.answer.ensures.reading frames object staged m is.at_rest some is.stored (is.kept some)

pub returns-clause-stands : goal.returns-clause-stands
returns-clause-stands g c =
    let old = c.args.self.now in
    stands_read g.D.Disk.told g.D.Disk.image g.D.Disk.moment_of g.D.Disk.left_since old (record { alloc = old.alloc; journal = c.answer.new.journal; cache = c.answer.new.cache }) c.answer.ensures.stays

pub returns-clause-journal : goal.returns-clause-journal
returns-clause-journal g c = c.answer.ensures.stays.journal

when_ok : {A E P Q : Type 0} (r : Result A E) → (P → Q) → OnOk r P → OnOk r Q
when_ok (Ok x) f p = f p
when_ok (Err e) f p = tt

pub returns-clause-places : goal.returns-clause-places
returns-clause-places g c = λ some frames object staged m is.
    when_ok c.answer.result (λ read. record { held = read.0; asked = read.1; calls = read.2 }) (c.answer.ensures.places frames object staged m is.stored (is.kept some))
