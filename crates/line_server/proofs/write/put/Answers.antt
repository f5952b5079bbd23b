use Rattle.std.proofs.Common.{◌≤◌, ◌∙◌, length, drop, arith}
use Rattle.std.proofs.lemmas.List.{length-drop}
use Rattle.line_server.proofs.Putting.{taken_on, rest_is}
use Rattle.line_server.proofs.write.put.Goals as goal

pub loop-at-preserved : goal.loop-at-preserved
loop-at-preserved g c =
    let piece : c.in_ok-at.field-0 ≤ length (drop c.loop-at.at c.args.bytes.now) = rw (rest_is c.loop-at.at c.args.bytes.now) at c.in_ok-at.ensures.bound in
    record {
      within = omega (arith, piece, length-drop c.loop-at.at c.args.bytes.now);
      taken = taken_on c.loop-at.at c.in_ok-at.field-0 c.args.bytes.now _ _ _ c.loop-at.invariant.taken (rw (rest_is c.loop-at.at c.args.bytes.now) at c.in_ok-at.ensures.taken);
      steady = c.in_ok-at.ensures.faults.steady ∙ c.loop-at.invariant.steady;
    }
