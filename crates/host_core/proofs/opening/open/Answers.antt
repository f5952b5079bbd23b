use Rattle.std.proofs.Common.{◌≢◌, ◌+◌, ◌∙◌, ◌++◌, ◌∷◌, [], ℕ, List, Option, length, sym, ap, subst, arith, append_assoc}
use Rattle.std.proofs.lemmas.List.{length-append}
use Rattle.std.specs.Prelude.{string_bytes}
use Rattle.do_disk.specs.Asks.{Ask, for_slot}
use Rattle.do_tree.specs.Checked.{tree_of}
use Rattle.placement.specs.Slots.{object_at}
use Rattle.host_core.specs.Begun.{AreBegun, HasBegun}
use Rattle.host_core.proofs.Opened.{asks_more, asks_on, begun_below, begun_more}
use Rattle.host_core.proofs.opening.open.Goals as goal

pub returns-in_err-halves-clause-asked : goal.returns-in_err-halves-clause-asked
returns-in_err-halves-clause-asked g c =
    asks_on (string_bytes c.args.settings.now.folder) c.loop-slot.slot c.args.settings.now.slots (g.P.Depot.asked c.args.depot.now) (g.P.Depot.asked c.loop-slot.depot) (g.P.Depot.asked c.open_slot.new.depot)
    c.loop-slot-test.true c.loop-slot.invariant.asked c.open_slot.ensures.asked

pub push_halves-requires : goal.push_halves-requires
push_halves-requires g c = omega (arith, c.loop-slot-test.true, c.loop-slot.invariant.room, c.loop-slot.invariant.len)

pub loop-slot-preserved : goal.loop-slot-preserved
loop-slot-preserved g c =
    let i = c.loop-slot.invariant in
    let folder = string_bytes c.args.settings.now.folder in
    let slot = c.loop-slot.slot in
    record {
      many = ap length c.push_halves.ensures.items ∙ length-append c.loop-slot.slots.items (c.in_ok-halves.halves ∷ []) ∙ ap (λ (n : ℕ). n + 1) i.many;
      begun = subst (AreBegun g.P.Store.Disk.moment_of g.P.Store.Disk.left_since g.P.Store.Disk.told g.P.Store.Disk.image g.P.Store.Disk.faults_of
          c.args.settings.now.journal (tree_of c.args.checked.now) (g.P.Depot.slot_at c.args.depot.now folder) c.open_slot.new.directory) (sym c.push_halves.ensures.items)
          (begun_more g.P.Store.Disk.moment_of g.P.Store.Disk.left_since g.P.Store.Disk.told g.P.Store.Disk.image g.P.Store.Disk.faults_of c.args.settings.now.journal (tree_of c.args.checked.now)
          (g.P.Depot.slot_at c.args.depot.now folder) c.loop-slot.directory c.open_slot.new.directory c.loop-slot.slots.items slot c.in_ok-halves.halves i.many c.open_slot.ensures.only
          (subst (λ (content : Option (List ℕ)). HasBegun g.P.Store.Disk.moment_of g.P.Store.Disk.left_since g.P.Store.Disk.told g.P.Store.Disk.image g.P.Store.Disk.faults_of
          c.args.settings.now.journal (tree_of c.args.checked.now) content (object_at c.open_slot.new.directory slot) c.in_ok-halves.halves) (i.later slot (omega arith)) c.in_ok-halves.ensures.begun)
          i.begun);
      len = omega (arith, c.push_halves.ensures.len, i.len);
      room = omega (arith, c.push_halves.ensures.room, i.room);
      slots = c.open_slot.ensures.only.many ∙ i.slots;
      one_each = c.open_slot.ensures.only.one_each;
      free = λ other more. let differs : other ≢ slot = λ same. omega (arith, same, more) in c.open_slot.ensures.only.others other differs ∙ i.free other (omega (arith, more));
      asked = c.in_ok-halves.ensures.all_asked ∙ ap (λ (asks : List Ask). asks ++ for_slot folder slot ∷ []) i.asked
          ∙ append_assoc (g.P.Depot.asked c.args.depot.now) _ (for_slot folder slot ∷ []) ∙ ap (λ (asks : List Ask). g.P.Depot.asked c.args.depot.now ++ asks) (sym (asks_more folder slot));
      later = λ other more. let differs : other ≢ slot = λ same. omega (arith, same, more) in c.open_slot.ensures.other_slots other differs ∙ i.later other (omega (arith, more));
      steady = c.in_ok-halves.ensures.steady ∙ i.steady;
      none_left = c.in_ok-halves.ensures.none_left;
    }

pub returns-in_err-halves-clause-begun : goal.returns-in_err-halves-clause-begun
returns-in_err-halves-clause-begun g c =
    let i = c.loop-slot.invariant in
    begun_below g.P.Store.Disk.moment_of g.P.Store.Disk.left_since g.P.Store.Disk.told g.P.Store.Disk.image g.P.Store.Disk.faults_of c.args.settings.now.journal (tree_of c.args.checked.now)
    (g.P.Depot.slot_at c.args.depot.now (string_bytes c.args.settings.now.folder)) c.loop-slot.directory c.open_slot.new.directory c.loop-slot.slots.items c.loop-slot.slot i.many c.open_slot.ensures.only i.begun
