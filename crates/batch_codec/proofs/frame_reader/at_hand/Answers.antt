use Rattle.std.proofs.Common.{length, sym, arith}
use Rattle.std.proofs.lemmas.Bool.{eqb-true, eqb-false}
use Rattle.batch_codec.specs.Formats.{limits_of}
use Rattle.batch_codec.proofs.ToRead.{too_large, at_end, bytes_behind, no_count, zero_count, next_at_hand}
use Rattle.batch_codec.proofs.frame_reader.at_hand.Goals as goal

pub returns-then-hand-most_batch-clause-refused : goal.returns-then-hand-most_batch-clause-refused
returns-then-hand-most_batch-clause-refused c = λ refused. too_large (limits_of c.args.format) c.args.hand.left c.args.hand.more c.args.hand.begun c.args.hand.rest.now (omega arith) (omega arith)

pub returns-then-is_empty-clause-read : goal.returns-then-is_empty-clause-read
returns-then-is_empty-clause-read c =
    at_end (limits_of c.args.format) c.args.hand.left c.args.hand.more c.args.hand.begun c.args.hand.rest.now (omega arith) (omega arith) c.if-hand-eq0.true (eqb-true (length c.args.hand.rest.now) 0 (sym c.if-is_empty.ensures))

pub returns-else-is_empty-clause-refused : goal.returns-else-is_empty-clause-refused
returns-else-is_empty-clause-refused c = λ refused.
    bytes_behind (limits_of c.args.format) c.args.hand.left c.args.hand.more c.args.hand.begun c.args.hand.rest.now (omega arith) (omega arith) c.if-hand-eq0.true (eqb-false (length c.args.hand.rest.now) 0 (sym c.if-is_empty.ensures))

pub returns-in_default-clause-refused : goal.returns-in_default-clause-refused
returns-in_default-clause-refused c = λ refused.
    no_count (limits_of c.args.format) c.args.hand.left c.args.hand.more c.args.hand.begun c.args.hand.rest.now (omega arith) (omega arith) c.if-hand-eq0.false c.in_default.ensures

pub returns-then-count-eq0-clause-refused : goal.returns-then-count-eq0-clause-refused
returns-then-count-eq0-clause-refused c = λ refused.
    zero_count (limits_of c.args.format) c.args.hand.left c.args.hand.more c.args.hand.begun c.args.hand.rest.now c.in-Some.rest.now c.in-Some.count (omega arith) (omega arith) c.if-hand-eq0.false c.in-Some.ensures c.if-count-eq0.true

pub returns-clause-read : goal.returns-clause-read
returns-clause-read c =
    next_at_hand (limits_of c.args.format) c.args.hand.left c.args.hand.more c.args.hand.begun c.args.hand.rest.now c.in-Some.rest.now c.in-Some.count (omega arith) (omega arith) c.requires
    c.if-hand-eq0.false c.in-Some.ensures c.if-count-eq0.false
