use Rattle.std.proofs.Common.{◌≡◌, ◌∙◌, List, [], ◌∷◌, ◌++◌, length, sym, ap, subst, refl, arith, append_assoc, append-nil}
use Rattle.std.proofs.lemmas.List.{length-append, nil_from_length}
use Rattle.std.proofs.lemmas.List.Elements.{All-contains, Contains-append_left, Contains-append_right, Contains-push}
use Rattle.std.specs.List.{Contains}
use Rattle.output_gate.specs.Serving.{CanServe}
use Rattle.host_workers.specs.declared.joining.Halves.{Halves}
use Rattle.host_core.proofs.Apart.{AreRowsBehind, row_of_halves, rows_behind}
use Rattle.host_core.proofs.closing.close_apart.Goals as goal

pub loop-halves-init : goal.loop-halves-init
loop-halves-init g c =
    let all : c.args.apart.items ≡ c.into_iter-halves-iterator.result.rest.items = sym c.into_iter-halves-iterator.ensures.into_iter_gives.0 in
    record {
      all = all;
      rows = λ limit script contents named log are known. known;
      many = omega arith;
      room = omega (arith, c.requires.room, ap length all);
      same = λ none. refl;
    }

pub row_of-requires : goal.row_of-requires
row_of-requires g c =
    let all = c.loop-halves.invariant.all ∙ ap (λ (xs : List (Halves g.row.D.Denot)). c.loop-halves.yielded ++ xs) c.in-Some.ensures.steps.0 in
    All-contains (λ (halves : Halves g.row.D.Denot). CanServe g.D.Disk.moment_of g.D.Disk.left_since g.D.Disk.told g.D.Disk.image g.D.Disk.faults_of halves.back)
    c.args.apart.items c.in-Some.halves c.requires.can
    (subst (λ (xs : List (Halves g.row.D.Denot)). Contains xs c.in-Some.halves) (sym all)
    (Contains-append_right c.loop-halves.yielded (c.in-Some.halves ∷ c.next.new.self.rest.items) c.in-Some.halves
    (Contains-append_left (c.in-Some.halves ∷ []) c.next.new.self.rest.items c.in-Some.halves (Contains-push [] c.in-Some.halves))))

pub push_row-requires : goal.push_row-requires
push_row-requires g c = omega (arith, c.loop-halves.invariant.room, ap length c.in-Some.ensures.steps.0)

pub loop-halves-preserved : goal.loop-halves-preserved
loop-halves-preserved g c =
    let i = c.loop-halves.invariant in
    let pushed = ap length c.push_row.ensures.rows ∙ length-append c.loop-halves.rows.items (c.row_of.result ∷ []) in
    record {
      all = i.all ∙ ap (λ (xs : List (Halves g.row.D.Denot)). c.loop-halves.yielded ++ xs) c.in-Some.ensures.steps.0
          ∙ sym (append_assoc c.loop-halves.yielded (c.in-Some.halves ∷ []) c.next.new.self.rest.items);
      rows = rows_behind g.D.Disk.moment_of g.D.Disk.left_since g.D.Disk.told g.D.Disk.image g.D.Disk.faults_of c.args.rows.now.items c.loop-halves.rows.items c.push_row.new.rows.items
          c.loop-halves.yielded c.in-Some.halves c.row_of.result i.many c.push_row.ensures.rows
          (row_of_halves g.D.Disk.moment_of g.D.Disk.left_since g.D.Disk.told g.D.Disk.image g.D.Disk.faults_of c.all_show.ensures c.in-Some.halves c.row_of.result
          c.row_of.ensures.store c.row_of.ensures.identity c.row_of.ensures.front c.row_of.ensures.back) i.rows;
      many = omega (arith, pushed, i.many, length-append c.loop-halves.yielded (c.in-Some.halves ∷ []));
      room = omega (arith, i.room, ap length c.in-Some.ensures.steps.0, c.push_row.ensures.len, c.push_row.ensures.room);
      same = λ none. absurd (omega (arith, ap length none, length-append c.loop-halves.yielded (c.in-Some.halves ∷ [])));
    }

pub returns-clause-rows : goal.returns-clause-rows
returns-clause-rows g c =
    let i = c.loop-halves.invariant in
    let rest = c.loop-halves.halves-iterator.rest in
    let none : rest.items ≡ [] = nil_from_length rest.items (sym rest.ok.0 ∙ c.in-None.ensures.steps.0) in
    let all : c.args.apart.items ≡ c.loop-halves.yielded =
    i.all ∙ ap (λ (xs : List (Halves g.row.D.Denot)). c.loop-halves.yielded ++ xs) none ∙ append-nil c.loop-halves.yielded in
    subst (λ (apart : List (Halves g.row.D.Denot)). AreRowsBehind g.D.Disk.moment_of g.D.Disk.left_since g.D.Disk.told g.D.Disk.image g.D.Disk.faults_of c.args.rows.now.items apart c.loop-halves.rows.items)
    (sym all) i.rows

pub returns-clause-many : goal.returns-clause-many
returns-clause-many g c =
    let i = c.loop-halves.invariant in
    let rest = c.loop-halves.halves-iterator.rest in
    let none : rest.items ≡ [] = nil_from_length rest.items (sym rest.ok.0 ∙ c.in-None.ensures.steps.0) in
    let all : c.args.apart.items ≡ c.loop-halves.yielded =
    i.all ∙ ap (λ (xs : List (Halves g.row.D.Denot)). c.loop-halves.yielded ++ xs) none ∙ append-nil c.loop-halves.yielded in
    omega (arith, i.many, ap length all)

pub returns-clause-same : goal.returns-clause-same
returns-clause-same g c empty =
    let i = c.loop-halves.invariant in
    i.same (nil_from_length c.loop-halves.yielded (omega (arith, ap length (sym i.all ∙ empty), length-append c.loop-halves.yielded c.loop-halves.halves-iterator.rest.items)))
