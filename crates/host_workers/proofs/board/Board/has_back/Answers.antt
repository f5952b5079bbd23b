use Rattle.std.proofs.Common.{◌≡◌, ◌<◌, ◌∙◌, Some, true, length, refl, sym, ap, subst, slice_get}
use Rattle.std.proofs.lemmas.Option.{slice_get_read}
use Rattle.host_workers.specs.Board.{Places}
use Rattle.host_workers.proofs.Places.{seen_at}
use Rattle.host_workers.proofs.board.Board.has_back.Goals as goal

pub returns-in-Some : goal.returns-in-Some
returns-in-Some g c is =
    let backs = c.self.inside.cells.backs.items in
    let inside : c.args.slot < length c.deref.result.now = c.in-Some.ensures.lookup.3.0 in
    let at : slice_get c.deref.result.now c.args.slot ≡ Some c.in-Some.place.now = slice_get_read c.deref.result.now _ c.args.slot c.in-Some.place.now refl inside c.in-Some.ensures.lookup.1 in
    let is_at : slice_get backs c.args.slot ≡ Some c.in-Some.place.now = ap (λ l. slice_get l c.args.slot) (sym c.deref.ensures.value) ∙ at in
    subst (λ (p : Places). slice_get p.backs c.args.slot ≡ Some true) c.self.view_is (seen_at backs c.args.slot c.in-Some.place.now is_at (sym c.is_some.ensures ∙ is))
