use Rattle.std.proofs.Common.{◌≡◌, ◌+◌, ◌-◌, subst, arith}
use Rattle.std.specs.Str.{IsCharBoundary}
use Rattle.std.proofs.lemmas.Str.{IsCharBoundary-after_ascii}
use Rattle.do_lex.proofs.tokens.part.Goals as goal

-- the last byte is ASCII, so the text may be cut behind it
pub range-requires-clause-end_boundary : goal.range-requires-clause-end_boundary
range-requires-clause-end_boundary c =
    let front = c.args.front.now in
    let end = c.args.end in
    let next : end - 1 + 1 ≡ end = omega arith in
    subst (IsCharBoundary front) next (IsCharBoundary-after_ascii front (end - 1) c.utf8.front (omega arith) c.requires.last)
