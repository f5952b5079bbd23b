use Rattle.std.proofs.Common.{◌≡◌, Ok, sym, ap, ◌∙◌, subst}
use Rattle.std.specs.List.{AllByRecursion}
use Rattle.std.specs.FinMap.{entries}
use Rattle.do_value.specs.declared.value.Value.{Value}
use Rattle.batch_journal.specs.declared.read_stored.ReadFault.TheVariants.{BadValue, DiskFailed}
use Rattle.storage_map.specs.Kept.{HasShortKey}
use Rattle.storage_map.specs.Readings.{listed}
use Rattle.storage_map.specs.declared.options.Options.{Options}
use Rattle.storage_cache.proofs.Entries.{IsEntry}
use Rattle.storage_cache.proofs.Given.{all_listed}
use Rattle.batch_journal.specs.Places.{IsPlaceIn}
use Rattle.do_host.specs.Storage.{left_by}
use Rattle.do_host.proofs.Values.{each_entry, fault_isnt, left_read, next_entry, read_more, read_none, read_values, reads_more, reads_none, value_there}
use Rattle.do_host.proofs.stored.read_pairs.Goals as goal

pub loop-key-init : goal.loop-key-init
loop-key-init g c =
    let d = g.D.Disk in
    let places = entries c.args.index.now.places in
    let same : c.into_iter-key-iterator.result ≡ c.range-key-items.result = c.into_iter-key-iterator.ensures.into_iter_gives in
    let all : c.range-key-items.result ≡ places =
    c.range-key-items.ensures.listed ∙ ap (λ (o : Options). listed o places) c.every-every.ensures ∙ all_listed places in
    record {
      read = read_none _ places c.into_iter-key-iterator.result c.new-pairs.result.items (same ∙ all) c.new-pairs.ensures.items;
      short = subst (AllByRecursion HasShortKey) (sym same) c.range-key-items.ensures.short;
      reads = reads_none d.told d.image d.moment_of d.left_since d.faults_of c.args.journal.now (λ x left. g.met.D.Disk.only_now c.args.journal.now.disk x left);
    }

pub read_value-requires : goal.read_value-requires
read_value-requires g c =
    let i = c.loop-key.invariant in
    let index = c.args.index.now in
    let frames = c.requires.0 in
    let at = next_entry _ _ _ _ i.read (IsEntry index.places) (c.in-Some.key.now, c.in-Some.place.now) _ c.in-Some.ensures.steps (each_entry index) in
    let there = value_there (IsPlaceIn frames) index (left_by frames) c.requires.2 c.in-Some.key.now c.in-Some.place.now at in
    (frames, there.0, i.reads.frames frames c.requires.1, there.2)

pub loop-key-preserved : goal.loop-key-preserved
loop-key-preserved g c =
    let d = g.D.Disk in
    let i = c.loop-key.invariant in
    let index = c.args.index.now in
    let key = c.in-Some.key.now in
    let place = c.in-Some.place.now in
    let value = c.in_ok-value in
    let at = next_entry _ _ _ _ i.read (IsEntry index.places) (key, place) _ c.in-Some.ensures.steps (each_entry index) in
    record {
      read = read_more _ _ _ _ i.read key place value.value c.next.new.self c.add.new.pairs.items c.in-Some.ensures.steps c.in-Ok.ensures
          (λ frames good.
          let there = value_there (IsPlaceIn frames) index (left_by frames) good.1 key place at in
          subst (λ (v : Value). IsPlaceIn frames place v) (sym (value.ensures.value frames there.0 (i.reads.frames frames good.0) there.2
          (good.2.0, i.reads.reads.same ∙ good.2.1))) there.2);
      short = (subst (AllByRecursion HasShortKey) c.in-Some.ensures.steps i.short).1;
      reads = reads_more d.told d.image d.moment_of d.left_since d.faults_of c.args.journal.now c.loop-key.journal c.read_value.new.self (Ok tt) i.reads value.ensures.same_frames value.ensures.reads
          value.ensures.later (λ is. absurd (fault_isnt tt DiskFailed is)) (λ bad is. absurd (fault_isnt tt (BadValue bad) is));
    }

pub returns-clause-values : goal.returns-clause-values
returns-clause-values g c = λ frames rest stands told.
    left_read frames c.args.index.now c.loop-key.pairs.items stands (read_values _ _ _ _ c.loop-key.invariant.read c.in-None.ensures.steps.0 frames (rest, stands, told))
