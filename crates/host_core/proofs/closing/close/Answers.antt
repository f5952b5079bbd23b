use Rattle.std.proofs.Common.{◌≡◌, ◌∙◌, List, [], ◌∷◌, ◌++◌, length, Vec, Global, sym, ap, subst, arith, append_assoc, append-nil}
use Rattle.std.proofs.lemmas.List.{length-append, nil_from_length}
use Rattle.object_core.specs.declared.object.Core.{Core}
use Rattle.host_core.proofs.Remaining.{AreLeftBy, left_then, none_left}
use Rattle.host_core.proofs.Rows.{AreRowsOf, all_let_go, all_rows, all_settled, all_tell, next_can, no_rows, rows_more}
use Rattle.host_core.proofs.Servings.{on_ok_then}
use Rattle.host_core.specs.Quiet.{AreLeftIn}
use Rattle.host_core.proofs.closing.close.Goals as goal

pub loop-core-init : goal.loop-core-init
loop-core-init g c =
    let all : c.args.objects.cores.items ≡ c.into_iter-core-iterator.result.rest.items =
    ap (λ (cores : Vec (Core g.row.D.Denot) Global). cores.items) (sym c.into_cores-core-items.ensures) ∙ sym c.into_iter-core-iterator.ensures.into_iter_gives.0 in
    record {
      all = all;
      rows = no_rows g.D.Disk.moment_of g.D.Disk.left_since g.D.Disk.told g.D.Disk.image g.D.Disk.faults_of c.args.rows.now.items c.requires.none;
      left = none_left c.args.left.now.items c.requires.none_left;
      many = ap length c.requires.none;
      capacity = omega arith;
      room = omega (arith, c.requires.room, ap length all);
    }

pub close_slot-row-requires : goal.close_slot-row-requires
close_slot-row-requires g c =
    let i = c.loop-core.invariant in (
      c.requires.can.0,
      next_can g.D.Disk.moment_of g.D.Disk.left_since g.D.Disk.told g.D.Disk.image g.D.Disk.faults_of c.args.objects c.requires.can.0 c.loop-core.yielded c.next.new.self.rest.items c.in-Some.core
          (i.all ∙ ap (λ (xs : List (Core g.row.D.Denot)). c.loop-core.yielded ++ xs) c.in-Some.ensures.steps.0) c.requires.can.1,
    )

pub push_row-requires : goal.push_row-requires
push_row-requires g c = omega (arith, c.loop-core.invariant.room, ap length c.in-Some.ensures.steps.0)

pub loop-core-preserved : goal.loop-core-preserved
loop-core-preserved g c =
    let i = c.loop-core.invariant in
    let pushed = ap length c.push_row.ensures.rows ∙ length-append c.loop-core.rows.items (c.close_slot-row.result.0 ∷ []) in
    record {
      all = i.all ∙ ap (λ (xs : List (Core g.row.D.Denot)). c.loop-core.yielded ++ xs) c.in-Some.ensures.steps.0
          ∙ sym (append_assoc c.loop-core.yielded (c.in-Some.core ∷ []) c.next.new.self.rest.items);
      rows = rows_more g.D.Disk.moment_of g.D.Disk.left_since g.D.Disk.told g.D.Disk.image g.D.Disk.faults_of c.loop-core.yielded c.loop-core.rows.items c.push_row.new.rows.items
          c.in-Some.core c.close_slot-row.result.0 i.many c.push_row.ensures.rows
          (record { row_of = c.close_slot-row.ensures.row; let_go = c.close_slot-row.ensures.quiet; settled = c.close_slot-row.ensures.settled; tells = c.close_slot-row.ensures.tells }) i.rows;
      left = left_then c.loop-core.yielded c.in-Some.core c.loop-core.left.items c.close_slot-row.new.left.items c.len-slot.result c.loop-core.asked
          c.close_slot-row.result.1 (omega (arith, c.len-slot.ensures, c.loop-core.rows.ok, i.many)) i.left
          c.close_slot-row.ensures.left;
      many = omega (arith, pushed, i.many, length-append c.loop-core.yielded (c.in-Some.core ∷ []));
      capacity = omega (arith, i.capacity, c.push_row.ensures.room);
      room = omega (arith, i.room, ap length c.in-Some.ensures.steps.0, c.push_row.ensures.len, c.push_row.ensures.room);
    }

pub returns-clause-rows : goal.returns-clause-rows
returns-clause-rows g c =
    let i = c.loop-core.invariant in
    let rest = c.loop-core.core-iterator.rest in
    let none : rest.items ≡ [] = nil_from_length rest.items (sym rest.ok.0 ∙ c.in-None.ensures.steps.0) in
    let all : c.args.objects.cores.items ≡ c.loop-core.yielded =
    i.all ∙ ap (λ (xs : List (Core g.row.D.Denot)). c.loop-core.yielded ++ xs) none ∙ append-nil c.loop-core.yielded in
    all_rows g.D.Disk.moment_of g.D.Disk.left_since g.D.Disk.told g.D.Disk.image g.D.Disk.faults_of c.args.objects c.loop-core.rows.items
    (subst (λ (cores : List (Core g.row.D.Denot)). AreRowsOf g.D.Disk.moment_of g.D.Disk.left_since g.D.Disk.told g.D.Disk.image g.D.Disk.faults_of cores c.loop-core.rows.items) (sym all) i.rows)

pub returns-clause-quiet : goal.returns-clause-quiet
returns-clause-quiet g c =
    let i = c.loop-core.invariant in
    let rest = c.loop-core.core-iterator.rest in
    let none : rest.items ≡ [] = nil_from_length rest.items (sym rest.ok.0 ∙ c.in-None.ensures.steps.0) in
    let all : c.args.objects.cores.items ≡ c.loop-core.yielded =
    i.all ∙ ap (λ (xs : List (Core g.row.D.Denot)). c.loop-core.yielded ++ xs) none ∙ append-nil c.loop-core.yielded in
    all_let_go g.D.Disk.moment_of g.D.Disk.left_since g.D.Disk.told g.D.Disk.image g.D.Disk.faults_of c.args.objects c.loop-core.rows.items
    (subst (λ (cores : List (Core g.row.D.Denot)). AreRowsOf g.D.Disk.moment_of g.D.Disk.left_since g.D.Disk.told g.D.Disk.image g.D.Disk.faults_of cores c.loop-core.rows.items) (sym all) i.rows)

pub returns-clause-settled : goal.returns-clause-settled
returns-clause-settled g c =
    let i = c.loop-core.invariant in
    let rest = c.loop-core.core-iterator.rest in
    let none : rest.items ≡ [] = nil_from_length rest.items (sym rest.ok.0 ∙ c.in-None.ensures.steps.0) in
    let all : c.args.objects.cores.items ≡ c.loop-core.yielded =
    i.all ∙ ap (λ (xs : List (Core g.row.D.Denot)). c.loop-core.yielded ++ xs) none ∙ append-nil c.loop-core.yielded in
    on_ok_then c.loop-core.asked (λ left.
    all_settled g.D.Disk.moment_of g.D.Disk.left_since g.D.Disk.told g.D.Disk.image g.D.Disk.faults_of c.args.objects c.loop-core.rows.items c.loop-core.left.items
    (subst (λ (cores : List (Core g.row.D.Denot)). AreRowsOf g.D.Disk.moment_of g.D.Disk.left_since g.D.Disk.told g.D.Disk.image g.D.Disk.faults_of cores c.loop-core.rows.items) (sym all) i.rows)
    (subst (λ (cores : List (Core g.row.D.Denot)). AreLeftBy cores c.loop-core.left.items) (sym all) left)) i.left

pub returns-clause-left_in : goal.returns-clause-left_in
returns-clause-left_in g c =
    let i = c.loop-core.invariant in
    let rest = c.loop-core.core-iterator.rest in
    let none : rest.items ≡ [] = nil_from_length rest.items (sym rest.ok.0 ∙ c.in-None.ensures.steps.0) in
    let all : c.args.objects.cores.items ≡ c.loop-core.yielded =
    i.all ∙ ap (λ (xs : List (Core g.row.D.Denot)). c.loop-core.yielded ++ xs) none ∙ append-nil c.loop-core.yielded in
    on_ok_then c.loop-core.asked (λ left. subst (λ (cores : List (Core g.row.D.Denot)). AreLeftIn (length cores) c.loop-core.left.items) (sym all) left.within) i.left

pub returns-clause-many : goal.returns-clause-many
returns-clause-many g c =
    let i = c.loop-core.invariant in
    let rest = c.loop-core.core-iterator.rest in
    let none : rest.items ≡ [] = nil_from_length rest.items (sym rest.ok.0 ∙ c.in-None.ensures.steps.0) in
    i.many ∙ ap length (sym (i.all ∙ ap (λ (xs : List (Core g.row.D.Denot)). c.loop-core.yielded ++ xs) none ∙ append-nil c.loop-core.yielded))

pub returns-clause-room : goal.returns-clause-room
returns-clause-room g c = c.loop-core.invariant.capacity

pub returns-clause-tells : goal.returns-clause-tells
returns-clause-tells g c =
    let i = c.loop-core.invariant in
    let rest = c.loop-core.core-iterator.rest in
    let none : rest.items ≡ [] = nil_from_length rest.items (sym rest.ok.0 ∙ c.in-None.ensures.steps.0) in
    let all : c.args.objects.cores.items ≡ c.loop-core.yielded =
    i.all ∙ ap (λ (xs : List (Core g.row.D.Denot)). c.loop-core.yielded ++ xs) none ∙ append-nil c.loop-core.yielded in
    all_tell g.D.Disk.moment_of g.D.Disk.left_since g.D.Disk.told g.D.Disk.image g.D.Disk.faults_of c.args.objects c.loop-core.rows.items
    (subst (λ (cores : List (Core g.row.D.Denot)). AreRowsOf g.D.Disk.moment_of g.D.Disk.left_since g.D.Disk.told g.D.Disk.image g.D.Disk.faults_of cores c.loop-core.rows.items) (sym all) i.rows)
    (i.many ∙ ap length (sym all))
