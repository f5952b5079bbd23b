use Rattle.std.proofs.Common.{◌≡◌, ◌<◌, ◌∙◌, Some, true, is_some, map, slice_get, set, refl, ap, sym, subst}
use Rattle.std.proofs.lemmas.Option.{slice_get_read}
use Rattle.host_workers.specs.Board.{Places}
use Rattle.host_workers.proofs.Places.{front_leaves, within}
use Rattle.host_workers.proofs.board.Board.take_front.Goals as goal

pub invariant_of-self : goal.invariant_of-self
invariant_of-self g c =
    let cells = c.self.inside.cells in
    let there : slice_get (map is_some cells.fronts.items) c.args.slot ≡ Some true = subst (λ (p : Places). slice_get p.fronts c.args.slot ≡ Some true) (sym c.self.view_is) c.requires.there in
    let at = slice_get_read cells.fronts.items _ c.args.slot c.index_mut.result.now refl (within cells.fronts.items c.args.slot there) c.index_mut.ensures.value
    ∙ ap Some (sym c.take.ensures.value ∙ c.in-Some.is) in
    front_leaves g.L.Names.names g.D.Disk.moment_of g.D.Disk.left_since g.D.Disk.told g.D.Disk.image g.D.Disk.faults_of g.R.Source.left g.R.Source.faults_of
    g.W.Sink.taken g.W.Sink.faults_of _ _ _ _ c.args.slot cells _ c.in-Some.cell c.self.invariant at (ap (λ p. set cells.fronts.items c.args.slot p) c.take.ensures.after)
    c.add.ensures.total

pub returns-clause-cell : goal.returns-clause-cell
returns-clause-cell g c =
    let cells = c.self.inside.cells in
    let there : slice_get (map is_some cells.fronts.items) c.args.slot ≡ Some true = subst (λ (p : Places). slice_get p.fronts c.args.slot ≡ Some true) (sym c.self.view_is) c.requires.there in
    let inside = within cells.fronts.items c.args.slot there in
    let at = slice_get_read cells.fronts.items _ c.args.slot c.index_mut.result.now refl inside c.index_mut.ensures.value ∙ ap Some (sym c.take.ensures.value ∙ c.in-Some.is) in
    (subst (λ n. c.args.slot < n) c.self.invariant.named.each_front inside, c.self.invariant.named.fronts c.args.slot c.in-Some.cell at)
