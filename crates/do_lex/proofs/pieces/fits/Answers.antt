use Rattle.std.proofs.lemmas.Bool.{false≢true}
use Rattle.do_lex.proofs.Digits.{IsUtf8-number, past_greatest}
use Rattle.do_lex.proofs.pieces.fits.Goals as goal

pub returns-in_default : goal.returns-in_default
returns-in_default c = absurd (c.in_default.ensures.cases.0 (IsUtf8-number c.args.digits.now c.requires))

pub returns-in-Err : goal.returns-in-Err
returns-in-Err c =
    let parsed = rw c.in-Ok.ensures.cases.0 at c.in-Err.ensures.value.0 in
    (λ fits. absurd (false≢true fits), λ small. absurd (past_greatest c.args.digits.now c.in-Err.field-0 c.requires parsed small))
