use Rattle.std.proofs.Common.{◌≡◌, ◌<◌, ◌^◌, ap, ◌∙◌, arith, ℕ, List}
use Rattle.std.proofs.lemmas.Int.{ints}
use Rattle.std.specs.Fmt.{signed_decimal}
use Rattle.std.specs.Int.Signed.{mag}
use Rattle.std.proofs.lemmas.Grind.{common_steps}
use Rattle.do_tree.specs.Print.{Piece, number}
use Rattle.do_tree.specs.Written.{written_of}
use Rattle.do_tree.specs.declared.print_word.Edge.TheVariants as edge
use Rattle.do_tree.proofs.Numbers.{number_is}
use Rattle.do_tree.proofs.Writing.{same_piece}
use Rattle.do_tree.proofs.print_word.put_number.Goals as goal

pub returns : goal.returns
returns c =
    let e : c.as_str.result.now ≡ signed_decimal c.args.value = grind (arith, common_steps) in
    let small : mag c.args.value < 2 ^ 63 = omega (arith, ints) in
    let whole : List ℕ → Piece = λ text. record { edge = edge.Number; text = text } in
    same_piece c.put.result (written_of c.put.new.out) (written_of c.args.out.now) (whole c.as_str.result.now) (number c.args.value) c.put.ensures (ap whole (e ∙ number_is c.args.value small))
