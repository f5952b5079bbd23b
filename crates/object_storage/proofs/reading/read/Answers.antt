use Rattle.std.proofs.Common.{List, [], refl, sym, ap, ◌∙◌, subst}
use Rattle.std.proofs.lemmas.Result.{err_from_is_err_and}
use Rattle.batch_journal.specs.declared.read_stored.ReadFault.TheVariants.{DiskFailed}
use Rattle.storage_cache.specs.Looks.{GivesOwnPlaces, GivesInOrder, IsLook}
use Rattle.storage_cache.specs.declared.held.Look.{Look}
use Rattle.storage_map.specs.declared.answer.Reading.TheVariants.{Pairs}
use Rattle.storage_cache.proofs.InOrder.{same_order}
use Rattle.batch_journal.specs.Frames.{Frame}
use Rattle.batch_journal.specs.Rest.{disk_in}
use Rattle.object_storage.specs.Reads.{AllCanBeRead}
use Rattle.object_storage.specs.Stored.{HasSome}
use Rattle.object_storage.proofs.Counting.{ok_isnt, handed}
use Rattle.object_storage.proofs.Going.{agrees}
use Rattle.object_storage.proofs.Stays.{stays_looked, stays_on}
use Rattle.object_storage.proofs.Answered.{can_read, alarm_read, alarm_asked, are_asked, asked_of_pairs, GivesThese, get_read, pairs_read}
use Rattle.object_storage.proofs.reading.read.Goals as goal

pub returns-in_default-clause-stays : goal.returns-in_default-clause-stays
returns-in_default-clause-stays g c =
    stays_looked g.D.Disk.told g.D.Disk.image g.D.Disk.moment_of g.D.Disk.left_since (HasSome c.args.cache.now) c.args.journal.now c.args.cache.now c.look.new.self
    (λ x left. g.met.D.Disk.only_now (disk_in c.args.journal.now) x left) c.look.ensures.same

pub returns-in-Alarm-clause-stays : goal.returns-in-Alarm-clause-stays
returns-in-Alarm-clause-stays g c =
    stays_looked g.D.Disk.told g.D.Disk.image g.D.Disk.moment_of g.D.Disk.left_since (HasSome c.args.cache.now) c.args.journal.now c.args.cache.now c.look.new.self
    (λ x left. g.met.D.Disk.only_now (disk_in c.args.journal.now) x left) c.look.ensures.same

pub read_pairs-requires : goal.read_pairs-requires
read_pairs-requires g c =
    let own = subst (GivesOwnPlaces c.args.cache.now) c.in-Pairs.is c.in-Ok.ensures.places in
    (c.requires.0, c.requires.1, can_read c.requires.0 c.args.cache.now c.requires.2 c.in-Pairs.pairs.items own)

pub returns-in_err-read-in-Pairs-clause-stays : goal.returns-in_err-read-in-Pairs-clause-stays
returns-in_err-read-in-Pairs-clause-stays g c =
    let own = subst (GivesOwnPlaces c.args.cache.now) c.in-Pairs.is c.in-Ok.ensures.places in
    stays_on g.D.Disk.told g.D.Disk.image g.D.Disk.moment_of g.D.Disk.left_since (HasSome c.args.cache.now) (λ (frames : List Frame). AllCanBeRead frames c.in-Pairs.pairs.items)
    c.args.journal.now c.args.journal.now c.read_pairs.new.journal c.args.cache.now c.look.new.self c.read_pairs.new.cache
    (λ frames some. can_read frames c.args.cache.now some c.in-Pairs.pairs.items own)
    (stays_looked g.D.Disk.told g.D.Disk.image g.D.Disk.moment_of g.D.Disk.left_since (HasSome c.args.cache.now) c.args.journal.now c.args.cache.now c.look.new.self
    (λ x left. g.met.D.Disk.only_now (disk_in c.args.journal.now) x left) c.look.ensures.same)
    c.read_pairs.ensures.stays

pub returns-in-Get-clause-stays : goal.returns-in-Get-clause-stays
returns-in-Get-clause-stays g c =
    let own = subst (GivesOwnPlaces c.args.cache.now) c.in-Pairs.is c.in-Ok.ensures.places in
    stays_on g.D.Disk.told g.D.Disk.image g.D.Disk.moment_of g.D.Disk.left_since (HasSome c.args.cache.now) (λ (frames : List Frame). AllCanBeRead frames c.in-Pairs.pairs.items)
    c.args.journal.now c.args.journal.now c.read_pairs.new.journal c.args.cache.now c.look.new.self c.read_pairs.new.cache
    (λ frames some. can_read frames c.args.cache.now some c.in-Pairs.pairs.items own)
    (stays_looked g.D.Disk.told g.D.Disk.image g.D.Disk.moment_of g.D.Disk.left_since (HasSome c.args.cache.now) c.args.journal.now c.args.cache.now c.look.new.self
    (λ x left. g.met.D.Disk.only_now (disk_in c.args.journal.now) x left) c.look.ensures.same)
    c.read_pairs.ensures.stays

pub returns-in_default-ask-clause-stays : goal.returns-in_default-ask-clause-stays
returns-in_default-ask-clause-stays g c =
    let own = subst (GivesOwnPlaces c.args.cache.now) c.in-Pairs.is c.in-Ok.ensures.places in
    stays_on g.D.Disk.told g.D.Disk.image g.D.Disk.moment_of g.D.Disk.left_since (HasSome c.args.cache.now) (λ (frames : List Frame). AllCanBeRead frames c.in-Pairs.pairs.items)
    c.args.journal.now c.args.journal.now c.read_pairs.new.journal c.args.cache.now c.look.new.self c.read_pairs.new.cache
    (λ frames some. can_read frames c.args.cache.now some c.in-Pairs.pairs.items own)
    (stays_looked g.D.Disk.told g.D.Disk.image g.D.Disk.moment_of g.D.Disk.left_since (HasSome c.args.cache.now) c.args.journal.now c.args.cache.now c.look.new.self
    (λ x left. g.met.D.Disk.only_now (disk_in c.args.journal.now) x left) c.look.ensures.same)
    c.read_pairs.ensures.stays

pub new-requires : goal.new-requires
new-requires g c =
    same_order c.in-Pairs.pairs.items c.in_ok-read-in-Pairs.read.items c.in_ok-read-in-Pairs.ensures.keys (subst GivesInOrder c.in-Pairs.is c.in-Ok.ensures.order)

pub returns-in-Alarm-clause-reading : goal.returns-in-Alarm-clause-reading
returns-in-Alarm-clause-reading g c = λ frames object staged m rest some is keeps.
    alarm_read c.args.cache.now m c.args.ask.now c.in-Alarm.alarm
    (subst (IsLook c.args.cache.now m c.args.ask.now) c.in-Alarm.is (c.in-Ok.ensures.look m is.cache_of (agrees frames object staged c.args.cache.now m is keeps)))

pub returns-in-Get-clause-reading : goal.returns-in-Get-clause-reading
returns-in-Get-clause-reading g c = λ frames object staged m rest some is keeps.
    let cache = c.args.cache.now in
    let hs = c.in-Pairs.pairs.items in
    let own = subst (GivesOwnPlaces cache) c.in-Pairs.is c.in-Ok.ensures.places in
    let these : GivesThese c.in-Ok.look hs = subst (λ (l : Look). GivesThese l hs) (sym c.in-Pairs.is) refl in
    let asked = are_asked cache m c.args.ask.now c.in-Ok.look hs these (c.in-Ok.ensures.look m is.cache_of (agrees frames object staged cache m is keeps)) in
    let read = c.in_ok-read-in-Pairs.ensures.value frames rest (can_read frames cache (object, staged, m, is) hs own) some in
    get_read frames cache m c.args.ask.now c.in-Get.field-0 hs c.in_ok-read-in-Pairs.read.items c.only_value.result is.flushed c.in-Get.is asked read c.only_value.ensures

pub returns-in_default-ask-clause-reading : goal.returns-in_default-ask-clause-reading
returns-in_default-ask-clause-reading g c = λ frames object staged m rest some is keeps.
    let cache = c.args.cache.now in
    let hs = c.in-Pairs.pairs.items in
    let own = subst (GivesOwnPlaces cache) c.in-Pairs.is c.in-Ok.ensures.places in
    let these : GivesThese c.in-Ok.look hs = subst (λ (l : Look). GivesThese l hs) (sym c.in-Pairs.is) refl in
    let asked = are_asked cache m c.args.ask.now c.in-Ok.look hs these (c.in-Ok.ensures.look m is.cache_of (agrees frames object staged cache m is keeps)) in
    let read = c.in_ok-read-in-Pairs.ensures.value frames rest (can_read frames cache (object, staged, m, is) hs own) some in
    ap Pairs c.new.ensures ∙ pairs_read frames cache m c.args.ask.now hs c.in_ok-read-in-Pairs.read.items is.flushed c.in_default-ask.not-Get asked read

pub returns-in-Alarm-clause-places : goal.returns-in-Alarm-clause-places
returns-in-Alarm-clause-places g c = λ frames object staged m is keeps. (
  [],
  alarm_asked c.args.cache.now m c.args.ask.now c.in-Alarm.alarm
      (subst (IsLook c.args.cache.now m c.args.ask.now) c.in-Alarm.is (c.in-Ok.ensures.look m is.cache_of (agrees frames object staged c.args.cache.now m is keeps))),
  refl,
)

pub returns-in-Get-clause-places : goal.returns-in-Get-clause-places
returns-in-Get-clause-places g c = λ frames object staged m is keeps.
    let cache = c.args.cache.now in
    let hs = c.in-Pairs.pairs.items in
    let these : GivesThese c.in-Ok.look hs = subst (λ (l : Look). GivesThese l hs) (sym c.in-Pairs.is) refl in
    let asked = are_asked cache m c.args.ask.now c.in-Ok.look hs these (c.in-Ok.ensures.look m is.cache_of (agrees frames object staged cache m is keeps)) in
    (hs, asked_of_pairs cache m c.args.ask.now hs asked, c.in_ok-read-in-Pairs.ensures.calls)

pub returns-in_default-ask-clause-places : goal.returns-in_default-ask-clause-places
returns-in_default-ask-clause-places g c = λ frames object staged m is keeps.
    let cache = c.args.cache.now in
    let hs = c.in-Pairs.pairs.items in
    let these : GivesThese c.in-Ok.look hs = subst (λ (l : Look). GivesThese l hs) (sym c.in-Pairs.is) refl in
    let asked = are_asked cache m c.args.ask.now c.in-Ok.look hs these (c.in-Ok.ensures.look m is.cache_of (agrees frames object staged cache m is keeps)) in
    (hs, asked_of_pairs cache m c.args.ask.now hs asked, c.in_ok-read-in-Pairs.ensures.calls)

pub returns-in_err-read-in-Pairs-clause-steady : goal.returns-in_err-read-in-Pairs-clause-steady
returns-in_err-read-in-Pairs-clause-steady g c = λ isnt.
    let p = err_from_is_err_and c.from_residual.result c.from_residual.ensures.1 in
    c.in_err-read-in-Pairs.ensures.steady (λ is. isnt (handed c.from_residual.result p.0 _ DiskFailed p.1 p.2 is))

pub returns-in-Get-clause-steady : goal.returns-in-Get-clause-steady
returns-in-Get-clause-steady g c = λ isnt. c.in_ok-read-in-Pairs.ensures.steady (ok_isnt c.in_ok-read-in-Pairs.read DiskFailed)

pub returns-in_default-ask-clause-steady : goal.returns-in_default-ask-clause-steady
returns-in_default-ask-clause-steady g c = λ isnt. c.in_ok-read-in-Pairs.ensures.steady (ok_isnt c.in_ok-read-in-Pairs.read DiskFailed)
