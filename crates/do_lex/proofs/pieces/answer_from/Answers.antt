use Rattle.std.proofs.Common.{◌≤◌, length, drop, arith}
use Rattle.std.proofs.lemmas.List.{take_rest, drop-drop, length-drop}
use Rattle.do_lex.specs.Next.{IsSeparator}
use Rattle.do_lex.specs.Next.Gives.{skip, here}
use Rattle.do_lex.proofs.pieces.answer_from.Goals as goal

pub loop-n-preserved : goal.loop-n-preserved
loop-n-preserved c =
    let at = c.loop-n.at in
    let text = c.args.text.now in
    let separator : IsSeparator (drop at text) c.in-Some.n = simp take_rest at c.in-Some.ensures.found in
    let short : c.in-Some.n ≤ length (drop at text) = simp take_rest at c.in-Some.ensures.within.1 in
    record {
      within = omega (arith, short, length-drop at text);
      skipped = λ answer given. c.loop-n.invariant.skipped answer (skip c.in-Some.n separator (rw drop-drop given));
    }

pub returns : goal.returns
returns c = c.loop-n.invariant.skipped _ (here (simp take_rest at c.answer_at.ensures))
