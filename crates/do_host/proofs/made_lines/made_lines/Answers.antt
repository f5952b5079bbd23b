use Rattle.std.proofs.Common.{◌+◌, ◌++◌, ℕ, ap, ◌∙◌, arith}
use Rattle.do_host.specs.Generator.{call_line, made_lines}
use Rattle.do_host.proofs.Made.{made_all, made_more}
use Rattle.do_host.proofs.made_lines.made_lines.Goals as goal

pub loop-line-preserved : goal.loop-line-preserved
loop-line-preserved c =
    let line = c.loop-line.line in
    let after = c.add_call.new.bytes.items in
    rw c.next_number-number.ensures
    (made_more c.loop-line.number line c.args.count (made_lines c.args.seed c.args.count) c.loop-line.bytes.items after c.loop-line-test.true c.loop-line.invariant
    (c.in_ok-add_call.ensures ∙ ap (λ (n : ℕ). c.loop-line.bytes.items ++ call_line (line + 1) n) c.next_number-number.ensures))

pub returns : goal.returns
returns c =
    made_all c.loop-line.number c.loop-line.line c.args.count (made_lines c.args.seed c.args.count) c.loop-line.bytes.items (omega (arith, c.loop-line-test.false, c.loop-line.auto.line-end)) c.loop-line.invariant
