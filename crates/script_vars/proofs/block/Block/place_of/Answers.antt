use Rattle.std.proofs.Common.{◌≡◌, ◌-◌, get_or, false, sym, ap, ◌∙◌, arith}
use Rattle.std.specs.Str.{bytes_eq}
use Rattle.std.proofs.lemmas.List.{get_or_read}
use Rattle.script_vars.specs.Places.{no_name}
use Rattle.script_vars.proofs.Found.{none_from_name}
use Rattle.script_vars.proofs.block.Block.place_of.Goals as goal

pub loop-place-preserved : goal.loop-place-preserved
loop-place-preserved c =
    let names = c.self.inside.names.items in
    let place = c.loop-place.place in
    let one : c.index.result.now ≡ get_or names (place - 1) no_name =
    get_or_read names (place - 1) _ (omega (arith, c.loop-place-test.true, c.loop-place.auto.place, c.len-place.ensures, c.self.inside.names.ok)) c.index.ensures no_name in
    let other : bytes_eq (get_or names (place - 1) no_name).0 c.args.name.now ≡ false =
    ap (λ x. bytes_eq x.0 c.args.name.now) (sym one) ∙ ap (λ text. bytes_eq text c.args.name.now) (sym c.as_str.ensures) ∙ sym c.eq.ensures ∙ c.if-eq.false in
    none_from_name c.args.name.now names place (omega (arith, c.loop-place-test.true)) (omega (arith, c.loop-place.auto.place, c.len-place.ensures, c.self.inside.names.ok)) c.loop-place.invariant other
