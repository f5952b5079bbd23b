use Rattle.std.proofs.Common.{◌≡◌, ℕ, List, [], length, take, sym, subst, ◌∙◌, ap, arith}
use Rattle.std.proofs.lemmas.List.{with_items_is}
use Rattle.line_server.specs.Reader.{StartsWith}
use Rattle.line_server.proofs.Reading.{read_starts, nothing_left, nothing_read}
use Rattle.line_server.proofs.buffer.Buffer.fill.Goals as goal

pub returns-in-Ok-read-clause-read : goal.returns-in-Ok-read-clause-read
returns-in-Ok-read-clause-read g c = λ before told.
    let bytes = c.make_room.new.bytes in
    let kept : length c.read.new.into ≡ bytes.len = omega (arith, c.read.auto.into, c.deref_mut.ensures.len) in
    subst (λ (piece : List ℕ). StartsWith before (take c.in-Ok-read.count piece) (g.R.Source.left c.read.new.self)) (sym (with_items_is bytes c.read.new.into kept))
    (read_starts before c.read.new.into c.in-Ok-read.count _ _ told (c.in-Ok-read.ensures.given before told) c.in-Ok-read.ensures.left)

pub returns-in-Ok-read-clause-end : goal.returns-in-Ok-read-clause-end
returns-in-Ok-read-clause-end g c = λ empty rest told.
    let bytes = c.make_room.new.bytes in
    let kept : length c.read.new.into ≡ bytes.len = omega (arith, c.read.auto.into, c.deref_mut.ensures.len) in
    let room : length c.deref_mut.result.now ≡ bytes.len = omega (arith, c.deref_mut.ensures.len) in
    let same = with_items_is bytes c.read.new.into kept in
    let piece : take c.in-Ok-read.count c.read.new.into ≡ [] = ap (take c.in-Ok-read.count) (sym same) ∙ empty in
    let none = nothing_read c.in-Ok-read.count c.read.new.into piece (omega (arith, c.in-Ok-read.ensures.bound, c.read.auto.into)) in
    nothing_left _ _ rest (c.in-Ok-read.ensures.end none (omega (arith, room))) (sym c.in-Ok-read.ensures.left ∙ told)
