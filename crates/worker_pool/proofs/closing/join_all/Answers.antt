use Rattle.std.proofs.Common.{◌∙◌, refl, sym, [], ◌∷◌, ◌++◌, length, vec_capacity, le_trans}
use Rattle.std.proofs.lemmas.List.{nil_from_length}
use Rattle.std.specs.Vec.Iter.{into_iter_items}
use Rattle.worker_pool.proofs.Slots.{all_joined, are_as, has_room, long_as, next_of, none_joined}
use Rattle.worker_pool.proofs.closing.join_all.Goals as goal

pub loop-front-init : goal.loop-front-init
loop-front-init g c = record {
  so_far = λ slots are. record {
    done = [];
    rest = slots;
    all = refl;
    left = are_as slots _ _ _ _ _ _ _ _ c.into_iter-front-iterator.ensures.into_iter_gives.0 c.into_iter-backs.ensures.rest c.into_iter-outs.ensures.rest
        c.into_iter-inboxes.ensures.rest are;
    joined = none_joined g.D.Disk.moment_of g.D.Disk.left_since g.D.Disk.told g.D.Disk.image g.D.Disk.faults_of _ _ c.requires.none.0 c.requires.none.1;
  };
  cores = c.requires.room.0;
  apart = c.requires.room.1;
}

pub join_slot-requires-clause-room : goal.join_slot-requires-clause-room
join_slot-requires-clause-room g c =
    let i = c.loop-front.invariant in
    let slots = c.requires.slots.0 in
    let s = i.so_far slots c.requires.slots.1 in
    let n = next_of slots s.done s.rest c.loop-front.front-iterator c.next.new.self c.loop-front.backs c.next-back.new.self c.loop-front.outs c.next-messages.new.self
    c.loop-front.inboxes c.next-posts.new.self c.in-Some.front c.next-back.result c.next-messages.result c.next-posts.result s.all s.left c.in-Some.ensures.steps
    c.next-back.ensures.cases c.next-messages.ensures.cases c.next-posts.ensures.cases in
    has_room g.D.Disk.moment_of g.D.Disk.left_since g.D.Disk.told g.D.Disk.image g.D.Disk.faults_of slots s.done n.rest n.slot (length c.args.fronts.items)
    c.loop-front.room n.all (long_as slots _ _ _ _ c.requires.slots.1) s.joined i.cores i.apart

pub join_slot-requires-clause-slot : goal.join_slot-requires-clause-slot
join_slot-requires-clause-slot g c =
    let i = c.loop-front.invariant in
    let slots = c.requires.slots.0 in
    let s = i.so_far slots c.requires.slots.1 in
    let n = next_of slots s.done s.rest c.loop-front.front-iterator c.next.new.self c.loop-front.backs c.next-back.new.self c.loop-front.outs c.next-messages.new.self
    c.loop-front.inboxes c.next-posts.new.self c.in-Some.front c.next-back.result c.next-messages.result c.next-posts.result s.all s.left c.in-Some.ensures.steps
    c.next-back.ensures.cases c.next-messages.ensures.cases c.next-posts.ensures.cases in
    (n.slot, n.is_of)

pub loop-front-preserved : goal.loop-front-preserved
loop-front-preserved g c =
    let i = c.loop-front.invariant in record {
      so_far = λ slots are.
          let s = i.so_far slots are in
          let n = next_of slots s.done s.rest c.loop-front.front-iterator c.next.new.self c.loop-front.backs c.next-back.new.self c.loop-front.outs
          c.next-messages.new.self c.loop-front.inboxes c.next-posts.new.self c.in-Some.front c.next-back.result c.next-messages.result c.next-posts.result s.all
          s.left c.in-Some.ensures.steps c.next-back.ensures.cases c.next-messages.ensures.cases c.next-posts.ensures.cases in record {
            done = s.done ++ n.slot ∷ [];
            rest = n.rest;
            all = n.all;
            left = n.left;
            joined = c.join_slot.ensures.joined n.slot s.done n.is_of s.joined;
          };
      cores = le_trans {k = vec_capacity c.join_slot.new.room.cores} i.cores c.join_slot.ensures.room.0;
      apart = le_trans {k = vec_capacity c.join_slot.new.room.apart} i.apart c.join_slot.ensures.room.1;
    }

pub returns : goal.returns
returns g c slots are =
    let rest = c.loop-front.front-iterator.rest in
    all_joined g.D.Disk.moment_of g.D.Disk.left_since g.D.Disk.told g.D.Disk.image g.D.Disk.faults_of slots (into_iter_items c.loop-front.front-iterator)
    (into_iter_items c.loop-front.backs) (into_iter_items c.loop-front.outs) (into_iter_items c.loop-front.inboxes) c.loop-front.room
    (c.loop-front.invariant.so_far slots are) (nil_from_length rest.items (sym rest.ok.0 ∙ c.in-None.ensures.steps.0))
