use Rattle.std.proofs.Common.{◌≡◌, Err, sym, subst, arith, rules}
use Rattle.std.proofs.lemmas.Int.{to_z-of_z}
use mir.Syntax.{w64}
use mir.Val.{SFits}
use Rattle.std.proofs.lemmas.Str.Pattern.{starts_char}
use Rattle.std.proofs.lemmas.Bool.Decides.{not_from_Decides}
use Rattle.script_ops.specs.Numbers.{in_range}
use Rattle.script_ops.specs.Texts.{number_in}
use Rattle.script_ops.specs.Answers.{Gives}
use Rattle.script_ops.proofs.Read.{reads}
use Rattle.script_ops.proofs.texts.parse.Goals as goal

pub returns-in-Ok : goal.returns-in-Ok
returns-in-Ok c =
    let plus = not_from_Decides _ (starts_char 43 c.args.text.now c.starts_with.result c.starts_with.ensures.cases (omega arith) (omega arith)) c.if-starts_with.false in
    let read : number_in c.args.text.now ≡ in_range c.in-Ok.n = rw c.in-Ok.is at (reads c.args.text.now c.parse.result c.parse.ensures.value.0 plus) in
    let fits : SFits w64 c.in-Ok.n = search rules in
    subst (λ meant. Gives meant c.ranged.result) (sym read) (subst (λ z. Gives (in_range z) c.ranged.result) (to_z-of_z w64 c.in-Ok.n fits) c.ranged.ensures)

pub returns-in-Err : goal.returns-in-Err
returns-in-Err c =
    let plus = not_from_Decides _ (starts_char 43 c.args.text.now c.starts_with.result c.starts_with.ensures.cases (omega arith) (omega arith)) c.if-starts_with.false in
    reads c.args.text.now (Err c.in-Err.field-0) c.in-Err.ensures.value.0 plus
