use Rattle.std.proofs.Common.{ap, ◌∙◌, arith}
use Rattle.std.specs.Fmt.{signed_decimal}
use Rattle.std.proofs.lemmas.Int.{to_z-of_z}
use mir.Syntax.{w64}
use mir.Val.{SFits}
use Rattle.script_ops.proofs.Bounded.{short_number}
use Rattle.script_ops.proofs.texts.print.Goals as goal

pub returns-in_ok-to_string-in-Num-clause-short : goal.returns-in_ok-to_string-in-Num-clause-short
returns-in_ok-to_string-in-Num-clause-short c =
    let fits : SFits w64 c.get.result = record { sfits = omega arith } in
    λ _. short_number _ c.get.result (c.in_ok-to_string-in-Num.ensures.ok ∙ ap signed_decimal (to_z-of_z w64 c.get.result fits)) fits.sfits
