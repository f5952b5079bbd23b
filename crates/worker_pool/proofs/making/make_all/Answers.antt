use Rattle.std.proofs.Common.{◌≡◌, ◌∙◌, ◌+◌, List, [], ◌∷◌, ◌++◌, length, slice_get, ℕ, Some, sym, ap, subst, append_assoc, append-nil, arith}
use Rattle.std.proofs.lemmas.List.{length-append, nil_from_length}
use Rattle.std.proofs.lemmas.List.Elements.{All-pop}
use Rattle.do_tree.specs.Checked.{tree_of}
use Rattle.host_workers.specs.declared.joining.Halves.{Halves}
use Rattle.worker_pool.specs.Making.{AreMade, AreNewEnds, HasRoom}
use Rattle.worker_pool.proofs.Rows.{made_more, made_none, next_at}
use Rattle.worker_pool.proofs.making.make_all.Goals as goal

pub loop-halves-init : goal.loop-halves-init
loop-halves-init g c =
    let gives = c.into_iter-halves-iterator.ensures.into_iter_gives.0 in
    record {
      all = sym gives;
      made = made_none g.D.Disk.moment_of g.D.Disk.left_since g.D.Disk.told g.D.Disk.image g.D.Disk.faults_of (tree_of c.args.checked.now) _
          c.requires.empty.fronts c.requires.empty.backs c.requires.empty.outs c.requires.empty.inboxes;
      many = c.requires.many ∙ ap (λ (l : List (Halves g.row.D.Denot)). length l) (sym gives);
      new = c.requires.new;
      room = subst (λ (l : List (Halves g.row.D.Denot)). HasRoom (length l) c.args.made) (sym gives) c.requires.room;
    }

pub make_slot-requires : goal.make_slot-requires
make_slot-requires g c =
    let i = c.loop-halves.invariant in
    let all = i.all ∙ ap (λ (xs : List (Halves g.row.D.Denot)). c.loop-halves.yielded ++ xs) c.in-Some.ensures.steps.0 in
    record {
      fresh = c.requires.fresh (length c.loop-halves.yielded) c.in-Some.halves
          (ap (λ (xs : List (Halves g.row.D.Denot)). slice_get xs (length c.loop-halves.yielded)) all ∙ next_at c.loop-halves.yielded c.in-Some.halves c.next.new.self.rest.items);
      new = (All-pop AreNewEnds c.loop-halves.ends.items c.pop.new.self.items (Some c.in-Some-pop.next) c.in-Some-pop.ensures.items i.new).1;
    }

pub loop-halves-preserved : goal.loop-halves-preserved
loop-halves-preserved g c =
    let i = c.loop-halves.invariant in
    let added = c.add.ensures in
    let rest = c.in-Some.ensures.steps.0 in
    let left = ap (λ (xs : List (Halves g.row.D.Denot)). length xs) rest in
    record {
      all = i.all ∙ ap (λ (xs : List (Halves g.row.D.Denot)). c.loop-halves.yielded ++ xs) rest
          ∙ sym (append_assoc c.loop-halves.yielded (c.in-Some.halves ∷ []) c.next.new.self.rest.items);
      made = made_more g.D.Disk.moment_of g.D.Disk.left_since g.D.Disk.told g.D.Disk.image g.D.Disk.faults_of (tree_of c.args.checked.now) c.loop-halves.yielded c.in-Some.halves
          c.loop-halves.made c.add.new.self c.make_slot.result i.made c.make_slot.ensures added.fronts added.backs added.outs added.inboxes;
      many =
          let popped = ap length c.in-Some-pop.ensures.items ∙ length-append c.pop.new.self.items (c.in-Some-pop.next ∷ []) in
          omega (arith, i.many, left, popped);
      new = (All-pop AreNewEnds c.loop-halves.ends.items c.pop.new.self.items (Some c.in-Some-pop.next) c.in-Some-pop.ensures.items i.new).0;
      room =
          let more : length c.loop-halves.halves-iterator.rest.items ≡ length c.next.new.self.rest.items + 1 = omega (arith, left) in
          added.room (length c.next.new.self.rest.items) (subst (λ (n : ℕ). HasRoom n c.loop-halves.made) more i.room);
    }

pub returns : goal.returns
returns g c =
    let i = c.loop-halves.invariant in
    let rest = c.loop-halves.halves-iterator.rest in
    let none : rest.items ≡ [] = nil_from_length rest.items (sym rest.ok.0 ∙ c.in-None.ensures.steps.0) in
    let all : c.args.slots.items ≡ c.loop-halves.yielded =
    i.all ∙ ap (λ (xs : List (Halves g.row.D.Denot)). c.loop-halves.yielded ++ xs) none ∙ append-nil c.loop-halves.yielded in
    subst (λ (slots : List (Halves g.row.D.Denot)). AreMade g.D.Disk.moment_of g.D.Disk.left_since g.D.Disk.told g.D.Disk.image g.D.Disk.faults_of (tree_of c.args.checked.now)
    slots c.loop-halves.made) (sym all) i.made
