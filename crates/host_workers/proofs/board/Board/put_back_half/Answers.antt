use Rattle.std.proofs.Common.{◌<◌, ◌∙◌, Some, length, refl, ap, sym, subst}
use Rattle.std.proofs.lemmas.Option.{slice_get_read}
use Rattle.host_workers.proofs.Places.{back_comes, set_again}
use Rattle.host_workers.proofs.board.Board.put_back_half.Goals as goal

pub no_two_backs-requires : goal.no_two_backs-requires
no_two_backs-requires g c =
    let cells = c.self.inside.cells in
    let inside : c.args.slot < length cells.backs.items = subst (λ n. c.args.slot < n) (sym c.self.invariant.named.each_back) c.requires.place.0 in
    let at = slice_get_read cells.backs.items _ c.args.slot c.index_mut.result.now refl inside c.index_mut.ensures.value ∙ ap Some (sym c.take.ensures.value ∙ c.in-Some.is) in
    c.requires.place.1.line ∙ sym (c.self.invariant.named.backs c.args.slot c.in-Some.other at).line

pub invariant_of-self : goal.invariant_of-self
invariant_of-self g c =
    let cells = c.self.inside.cells in
    let inside : c.args.slot < length cells.backs.items = subst (λ n. c.args.slot < n) (sym c.self.invariant.named.each_back) c.requires.place.0 in
    let at = slice_get_read cells.backs.items _ c.args.slot c.index_mut.result.now refl inside c.index_mut.ensures.value ∙ ap Some (sym c.take.ensures.value ∙ c.in_default.is) in
    back_comes g.L.Names.names g.D.Disk.moment_of g.D.Disk.left_since g.D.Disk.told g.D.Disk.image g.D.Disk.faults_of g.R.Source.left g.R.Source.faults_of
    g.W.Sink.taken g.W.Sink.faults_of _ _ _ _ c.args.slot cells _ c.args.cell c.self.invariant at c.requires.place.1
    (set_again cells.backs.items c.args.slot c.take.new.self (Some c.args.cell)) c.sub.ensures.total
