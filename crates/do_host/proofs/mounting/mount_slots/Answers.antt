use Rattle.std.proofs.Common.{◌≡◌, ◌≢◌, ◌+◌, ◌-◌, ◌∙◌, ◌++◌, ◌∷◌, [], inl, inr, ℕ, List, Option, Err, length, refl, sym, ap, subst, arith, append_assoc}
use Rattle.std.proofs.lemmas.List.{append-nil, length-append, length-replicate}
use Rattle.std.proofs.lemmas.Result.{err_from_is_err_and}
use Rattle.do_disk.specs.Asks.{Ask, for_slot}
use Rattle.placement.specs.Slots.{Slots, IsOneEach, object_at}
use Rattle.host_core.specs.Begun.{OnlyAt}
use Rattle.host_core.specs.Opening.{StopsOpening, slot_asks}
use Rattle.host_core.specs.declared.opening.OpenEnd.TheVariants as opening
use Rattle.host_core.specs.declared.report.SlotReport.{SlotReport}
use Rattle.host_core.proofs.Opened.{asks_more, asks_on}
use Rattle.do_host.specs.Dump.{AreIdleRows}
use Rattle.do_host.specs.Mounted.{AreMounted, IsReadRow, StopsReading}
use Rattle.do_host.specs.Storage.{Storage}
use Rattle.do_host.proofs.Mounts.{idle_kept, mounted_none, mounted_put, no_object, none_each, none_named, stops_wanting}
use Rattle.do_host.proofs.Outcomes.{if_err}
use Rattle.do_host.proofs.mounting.mount_slots.Goals as goal

pub put-requires-clause-room : goal.put-requires-clause-room
put-requires-clause-room g c =
    let more = c.args.slots - c.loop-slot.slot in
    let room = c.loop-slot.invariant.room more (omega (arith, c.loop-slot-test.true)) in
    omega (arith, room, c.loop-slot-test.true)

pub put-requires-clause-storage_room : goal.put-requires-clause-storage_room
put-requires-clause-storage_room g c =
    let more = c.args.slots - c.loop-slot.slot in
    let room = c.loop-slot.invariant.storage_room more (omega (arith, c.loop-slot-test.true)) in
    omega (arith, room, c.loop-slot-test.true)

pub returns-in_err-mounted-clause-asked : goal.returns-in_err-mounted-clause-asked
returns-in_err-mounted-clause-asked g c =
    asks_on c.args.folder.now c.loop-slot.slot c.args.slots (g.P.Depot.asked c.args.depot.now) (g.P.Depot.asked c.loop-slot.depot) (g.P.Depot.asked c.mount_slot.new.depot)
    c.loop-slot-test.true c.loop-slot.invariant.asked c.mount_slot.ensures.asked

pub loop-slot-preserved : goal.loop-slot-preserved
loop-slot-preserved g c =
    let i = c.loop-slot.invariant in
    let folder = c.args.folder.now in
    let slot = c.loop-slot.slot in
    let d = g.P.Store.Disk in
    let rows = c.loop-slot.report.slots.items in
    let row = c.in_ok-row.row in
    let stored = c.in_ok-row.stored in
    let after = c.mount_slot.new.directory in
    let contents = g.P.Depot.slot_at c.args.depot.now folder in
    let mounted : AreMounted d.told d.left_since contents after (rows ++ row ∷ []) (c.loop-slot.storages.items ++ stored ∷ []) =
    mounted_put d.left_since d.told contents c.loop-slot.directory after rows c.loop-slot.storages.items row stored slot i.rows i.mounted c.mount_slot.ensures.only
    (subst (λ (x : Option (List ℕ)). IsReadRow d.told d.left_since x (object_at after slot) row stored) (i.later slot (omega arith))
    (c.in_ok-row.ensures.row _ _ _ c.in_ok-mounted.ensures.mounted c.in_ok-mounted.ensures.telling)) in
    record {
      rows = ap length c.put.ensures.rows ∙ length-append rows (row ∷ []) ∙ ap (λ (n : ℕ). n + 1) i.rows;
      mounted = subst (λ (rs : List (SlotReport g.row.P-Store.Denot)). AreMounted d.told d.left_since contents after rs c.put.new.storages.items) (sym c.put.ensures.rows)
          (subst (λ (xs : List Storage). AreMounted d.told d.left_since contents after (rows ++ row ∷ []) xs) (sym c.put.ensures.storages) mounted);
      room = λ more is. c.put.ensures.room more (i.room (more + 1) (omega (arith, is)));
      storage_room = λ more is. c.put.ensures.storage_room more (i.storage_room (more + 1) (omega (arith, is)));
      slots = c.mount_slot.ensures.only.many ∙ i.slots;
      one_each = c.mount_slot.ensures.only.one_each;
      asked = c.in_ok-mounted.ensures.all_asked ∙ ap (λ (asks : List Ask). asks ++ for_slot folder slot ∷ []) i.asked
          ∙ append_assoc (g.P.Depot.asked c.args.depot.now) _ (for_slot folder slot ∷ []) ∙ ap (λ (asks : List Ask). g.P.Depot.asked c.args.depot.now ++ asks) (sym (asks_more folder slot));
      later = λ other more. let differs : other ≢ slot = λ same. omega (arith, same, more) in c.mount_slot.ensures.other_slots other differs ∙ i.later other (omega (arith, more));
      steady = c.in_ok-mounted.ensures.steady ∙ i.steady;
      none_left = c.in_ok-row.ensures.none_left;
      switch = i.switch;
      lines = i.lines;
    }

pub returns-in_err-storages-clause-stops : goal.returns-in_err-storages-clause-stops
returns-in_err-storages-clause-stops g c =
    let p = err_from_is_err_and c.from_residual.result c.from_residual.ensures.1 in
    let d = g.P.Store.Disk in
    if_err c.from_residual.result opening.NoMemory _ (p.1 ∙ ap Err (p.2 ∙ c.in_err-storages.ensures.end))
    (stops_wanting d.told d.image d.moment_of d.left_since d.faults_of (g.P.Depot.slot_at c.args.depot.now c.args.folder.now) c.args.slots (g.P.Depot.faults_of c.args.depot.now)
    (record c.args.report.now { slots = c.make_room.new.rows }) (c.make_room.ensures.same ∙ c.requires.none) c.requires.none_left c.requires.some)

pub loop-slot-init : goal.loop-slot-init
loop-slot-init g c = record {
  rows = ap length (c.make_room.ensures.same ∙ c.requires.none);
  mounted = mounted_none g.P.Store.Disk.told g.P.Store.Disk.left_since (g.P.Depot.slot_at c.args.depot.now c.args.folder.now) c.new-directory.result c.make_room.new.rows.items c.in_ok-storages.storages.items
      (c.make_room.ensures.same ∙ c.requires.none) c.in_ok-storages.ensures.storages.0 (λ slot. ap (λ (named : Slots). object_at named slot) c.new-directory.ensures ∙ none_named c.args.slots slot);
  room = λ more is. omega (arith, is, c.in_ok-storages.ensures.rows);
  storage_room = λ more is. omega (arith, is, c.in_ok-storages.ensures.storages.1);
  slots = ap length c.new-directory.ensures ∙ length-replicate c.args.slots no_object;
  one_each = subst IsOneEach (sym c.new-directory.ensures) (none_each c.args.slots);
  asked = sym (append-nil (g.P.Depot.asked c.args.depot.now));
  later = λ slot more. refl;
  steady = refl;
  none_left = c.requires.none_left;
  switch = refl;
  lines = refl;
}

pub returns-in_err-mounted-clause-stops : goal.returns-in_err-mounted-clause-stops
returns-in_err-mounted-clause-stops g c =
    let p = err_from_is_err_and c.from_residual-in_err-mounted.result c.from_residual-in_err-mounted.ensures.1 in
    let d = g.P.Store.Disk in
    let i = c.loop-slot.invariant in
    let contents = g.P.Depot.slot_at c.args.depot.now c.args.folder.now in
    let only = c.mount_slot.ensures.only in
    let stop = c.in_err-mounted.ensures.stop contents (i.later c.loop-slot.slot (omega arith)) in
    if_err c.from_residual-in_err-mounted.result c.in_err-mounted.field-0.0 _ (p.1 ∙ ap Err p.2)
    (record {
      named = c.mount_slot.new.directory;
      all_slots = only.many ∙ i.slots;
      one_each = only.one_each;
      idle = subst (λ (named : Slots). AreIdleRows d.left_since contents named c.loop-slot.report.slots.items) (sym c.in_err-mounted.ensures.same) i.mounted.idle;
      fewer = omega (arith, i.rows, c.loop-slot-test.true);
      stops = inl (subst (λ (n : ℕ). StopsOpening d.told d.image d.moment_of d.left_since d.faults_of contents c.mount_slot.new.directory (length c.loop-slot.report.slots.items) n (g.P.Depot.faults_of c.mount_slot.new.depot)
          c.mount_slot.new.unopened c.in_err-mounted.field-0.0) i.steady
          (subst (λ (at : ℕ). StopsOpening d.told d.image d.moment_of d.left_since d.faults_of contents c.mount_slot.new.directory at (g.P.Depot.faults_of c.loop-slot.depot) (g.P.Depot.faults_of c.mount_slot.new.depot)
          c.mount_slot.new.unopened c.in_err-mounted.field-0.0) (sym i.rows) stop));
    })

pub returns-clause-asked : goal.returns-clause-asked
returns-clause-asked g c =
    let all : c.loop-slot.slot ≡ c.args.slots = omega (arith, c.loop-slot-test.false, c.loop-slot.auto.slot-end) in
    record {
      asked = slot_asks c.args.folder.now c.args.slots;
      added = c.loop-slot.invariant.asked ∙ ap (λ (n : ℕ). g.P.Depot.asked c.args.depot.now ++ slot_asks c.args.folder.now n) all;
      first = ([], append-nil (slot_asks c.args.folder.now c.args.slots));
    }

pub read_slot-requires-clause-mounted : goal.read_slot-requires-clause-mounted
read_slot-requires-clause-mounted g c = let mount = c.in_ok-mounted.ensures.mounted.mount in (mount.frames, mount.at_rest, mount.index)

pub returns-in_err-row-clause-asked : goal.returns-in_err-row-clause-asked
returns-in_err-row-clause-asked g c =
    asks_on c.args.folder.now c.loop-slot.slot c.args.slots (g.P.Depot.asked c.args.depot.now) (g.P.Depot.asked c.loop-slot.depot) (g.P.Depot.asked c.mount_slot.new.depot)
    c.loop-slot-test.true c.loop-slot.invariant.asked c.mount_slot.ensures.asked

pub returns-in_err-row-clause-stops : goal.returns-in_err-row-clause-stops
returns-in_err-row-clause-stops g c =
    let p = err_from_is_err_and c.from_residual-in_err-row.result c.from_residual-in_err-row.ensures.1 in
    let d = g.P.Store.Disk in
    let i = c.loop-slot.invariant in
    let contents = g.P.Depot.slot_at c.args.depot.now c.args.folder.now in
    let rows = c.loop-slot.report.slots.items in
    let after = c.mount_slot.new.directory in
    let only = c.mount_slot.ensures.only in
    let end = c.in_err-row.field-0.0 in
    let slot = c.loop-slot.slot in
    let unopened = c.read_slot.new.unopened in
    let stop : StopsReading d.told d.left_since d.faults_of (contents slot) (object_at after slot) slot unopened end =
    subst (λ (x : Option (List ℕ)). StopsReading d.told d.left_since d.faults_of x (object_at after slot) slot unopened end) (i.later slot (omega arith))
    (c.in_err-row.ensures.stops _ _ _ c.in_ok-mounted.ensures.mounted c.in_ok-mounted.ensures.telling) in
    if_err c.from_residual-in_err-row.result end _ (p.1 ∙ ap Err p.2)
    (record {
      named = after;
      all_slots = only.many ∙ i.slots;
      one_each = only.one_each;
      idle = idle_kept d.left_since contents c.loop-slot.directory after rows (subst (λ (n : ℕ). OnlyAt n c.loop-slot.directory after) (sym i.rows) only) i.mounted.idle;
      fewer = omega (arith, i.rows, c.loop-slot-test.true);
      stops = inr (subst (λ (n : ℕ). StopsReading d.told d.left_since d.faults_of (contents n) (object_at after n) n unopened end) (sym i.rows) stop);
    })
