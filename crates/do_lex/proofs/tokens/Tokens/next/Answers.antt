use Rattle.std.proofs.Common.{◌≡◌, ◌≤◌, length, drop, Some, Ok, subst, ap, ◌∙◌, arith}
use Rattle.std.specs.List.{slice_range}
use Rattle.std.specs.Str.Lossy.{utf8_valid_len}
use Rattle.do_lex.specs.Next.{Gives, reach}
use Rattle.do_lex.specs.Place.{Cursor}
use Rattle.do_lex.proofs.Spans.{IsTokenOf, IsTokenOf-gives, IsTokenIn, IsTokenIn-front, slice_range-front}
use Rattle.do_lex.proofs.tokens.Tokens.next.Goals as goal
use Rattle.do_lex.proofs.tokens.Tokens.next.Goals.{In-Ok-Some}

-- the answer that was found
answer_is : (c : In-Ok-Some) → c.answer_from-answer.result ≡ Ok (Some c.in-Ok-Some.span)
answer_is c = c.in-Ok-Some.is ∙ ap Ok (rw c.in-Ok-Some.is at c.in-Ok-Some.field-0-is)

-- the token that was found
found : (c : In-Ok-Some) → IsTokenOf c.self.inside.text.now c.self.inside.at c.in-Ok-Some.span
found c =
    let invariant = c.self.invariant in
    IsTokenOf-gives c.self.inside.text.now c.self.inside.at c.in-Ok-Some.span (omega arith) (subst (Gives (drop c.self.inside.at c.self.inside.text.now) c.self.inside.at) (answer_is c) c.answer_from-answer.ensures)

-- it ends in the well-formed front
ends_in_front : (c : In-Ok-Some) → c.in-Ok-Some.span.end ≤ length c.self.inside.front.now
ends_in_front c =
    let through : c.reach.result ≡ c.in-Ok-Some.span.end = c.reach.ensures ∙ ap (reach (length c.self.inside.text.now)) (answer_is c) in
    omega (arith, c.if-malformed-reach.false)

-- so the front has it whole
in_front : (c : In-Ok-Some) → IsTokenIn c.self.inside.front.now c.in-Ok-Some.span
in_front c =
    let invariant = c.self.invariant in
    let ends = ends_in_front c in
    IsTokenIn-front c.self.inside.text.now c.self.inside.front.now (utf8_valid_len c.self.inside.text.now) c.self.inside.at c.in-Ok-Some.span invariant.0 (omega arith) (omega arith) (found c)

-- what the reader has is what contracts see
text_is : (c : In-Ok-Some) → c.self.inside.text.now ≡ c.args.self.now.text
text_is c = ap (λ (k : Cursor). k.text) c.self.view_is

at_is : (c : In-Ok-Some) → c.self.inside.at ≡ c.args.self.now.at
at_is c = ap (λ (k : Cursor). k.at) c.self.view_is

pub part-requires : goal.part-requires
part-requires c =
    let token = in_front (goal.at.part-requires c).In-Ok-Some in
    record { some = token.some; within = token.within; first = token.first; last = token.last }

pub overflow_cast-result-in-Ok-Some : goal.overflow_cast-result-in-Ok-Some
overflow_cast-result-in-Ok-Some c =
    let token = found (goal.at.overflow_cast-result-in-Ok-Some c).In-Ok-Some in
    let invariant = c.self.invariant in
    omega arith

pub returns-in-Ok-Some-clause-slice : goal.returns-in-Ok-Some-clause-slice
returns-in-Ok-Some-clause-slice c =
    let d = (goal.at.returns-in-Ok-Some-clause-slice c).In-Ok-Some in
    let token = found d in
    let ends = ends_in_front d in
    let invariant = c.self.invariant in
    c.part.ensures
    ∙ slice_range-front c.self.inside.text.now c.self.inside.front.now (utf8_valid_len c.self.inside.text.now) c.in-Ok-Some.span.at c.in-Ok-Some.span.end invariant.0 (omega arith) (omega arith)
    ∙ ap (λ xs. slice_range xs c.in-Ok-Some.span.at c.in-Ok-Some.span.end) (text_is d)

pub returns-in-Ok-Some-clause-ascends : goal.returns-in-Ok-Some-clause-ascends
returns-in-Ok-Some-clause-ascends c =
    let d = (goal.at.returns-in-Ok-Some-clause-ascends c).In-Ok-Some in
    omega (arith, (found d).behind, at_is d)

pub returns-in-Ok-Some-clause-some : goal.returns-in-Ok-Some-clause-some
returns-in-Ok-Some-clause-some c = (found (goal.at.returns-in-Ok-Some-clause-some c).In-Ok-Some).some
