use Rattle.std.proofs.Common.{◌<◌, ◌∙◌, Some, length, refl, ap, sym, subst}
use Rattle.std.proofs.lemmas.Option.{slice_get_read}
use Rattle.host_workers.proofs.Places.{front_comes, set_again}
use Rattle.host_workers.proofs.board.Board.put_front.Goals as goal

pub no_two_fronts-requires : goal.no_two_fronts-requires
no_two_fronts-requires g c =
    let cells = c.self.inside.cells in
    let inside : c.args.slot < length cells.fronts.items = subst (λ n. c.args.slot < n) (sym c.self.invariant.named.each_front) c.requires.place.0 in
    let at = slice_get_read cells.fronts.items _ c.args.slot c.index_mut.result.now refl inside c.index_mut.ensures.value ∙ ap Some (sym c.take.ensures.value ∙ c.in-Some.is) in
    c.requires.place.1.inbox ∙ sym (c.self.invariant.named.fronts c.args.slot c.in-Some.other at).inbox

pub invariant_of-self : goal.invariant_of-self
invariant_of-self g c =
    let cells = c.self.inside.cells in
    let inside : c.args.slot < length cells.fronts.items = subst (λ n. c.args.slot < n) (sym c.self.invariant.named.each_front) c.requires.place.0 in
    let at = slice_get_read cells.fronts.items _ c.args.slot c.index_mut.result.now refl inside c.index_mut.ensures.value ∙ ap Some (sym c.take.ensures.value ∙ c.in_default.is) in
    front_comes g.L.Names.names g.D.Disk.moment_of g.D.Disk.left_since g.D.Disk.told g.D.Disk.image g.D.Disk.faults_of g.R.Source.left g.R.Source.faults_of
    g.W.Sink.taken g.W.Sink.faults_of _ _ _ _ c.args.slot cells _ c.args.cell c.self.invariant at c.requires.place.1
    (set_again cells.fronts.items c.args.slot c.take.new.self (Some c.args.cell)) c.sub.ensures.total
