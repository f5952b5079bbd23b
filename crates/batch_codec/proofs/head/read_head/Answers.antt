use Rattle.batch_codec.specs.Parsing.{batch_at}
use Rattle.batch_codec.proofs.Cutting.{some_no_count, some_zero}
use Rattle.batch_codec.proofs.Whole.{frame_no_class, frame_no_name, frame_no_some}
use Rattle.batch_codec.proofs.head.read_head.Goals as goal

pub returns-in_err-class : goal.returns-in_err-class
returns-in_err-class c = rw c.from_residual.ensures (λ format. frame_no_class format c.args.payload.now c.in_err-class.ensures)

pub returns-in_err-name : goal.returns-in_err-name
returns-in_err-name c =
    rw c.from_residual-in_err-name.ensures (λ format. frame_no_name format c.args.payload.now c.in_ok-class.class.now c.in_ok-class.rest.now c.in_ok-class.ensures c.in_err-name.ensures)

pub returns-in_err-count : goal.returns-in_err-count
returns-in_err-count c =
    rw c.from_residual-in_err-count.ensures (λ format. frame_no_some format c.args.payload.now c.in_ok-class.class.now c.in_ok-class.rest.now c.in_ok-name.name.now c.in_ok-name.rest.now c.in_ok-class.ensures c.in_ok-name.ensures
    (some_no_count (batch_at format) c.in_ok-name.rest.now c.in_err-count.ensures))

pub returns-then-count-eq0 : goal.returns-then-count-eq0
returns-then-count-eq0 c = λ format.
    frame_no_some format c.args.payload.now c.in_ok-class.class.now c.in_ok-class.rest.now c.in_ok-name.name.now c.in_ok-name.rest.now c.in_ok-class.ensures c.in_ok-name.ensures
    (some_zero (batch_at format) c.in_ok-name.rest.now c.in_ok-count.rest.now c.in_ok-count.count c.in_ok-count.ensures c.if-count-eq0.true)

pub returns : goal.returns
returns c = record {
  named = c.in_ok-class.rest.now;
  listed = c.in_ok-name.rest.now;
  is_class = c.in_ok-class.ensures;
  is_name = c.in_ok-name.ensures;
  is_count = c.in_ok-count.ensures;
  some = c.if-count-eq0.false;
}
