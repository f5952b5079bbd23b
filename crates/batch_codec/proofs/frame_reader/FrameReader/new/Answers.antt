use Rattle.std.proofs.Common.{◌≡◌, Some, None, sym, ap, ◌∙◌, arith}
use Rattle.batch_codec.specs.Formats.{limits_of}
use Rattle.batch_codec.specs.Parsing.{payload_at}
use Rattle.batch_codec.proofs.Formats.{allows_no_more}
use Rattle.batch_codec.proofs.ReadPayloads.{payload_again}
use Rattle.batch_codec.proofs.Begun.{begun, all_to_read}
use Rattle.batch_codec.proofs.frame_reader.FrameReader.new.Goals as goal

pub invariant_of-result : goal.invariant_of-result
invariant_of-result c = (
  all_to_read c.args.payload.now c.in-Some.class.now c.in-Some.name.now c.in-Some.rest.now c.in-Some.count (λ i. omega (arith, c.type_inv.payload i)) c.requires.short c.in-Some.ensures,
  (begun (limits_of c.args.format) (allows_no_more c.args.format) c.args.payload.now c.in-Some.class.now c.in-Some.name.now c.in-Some.rest.now c.in-Some.count (λ i. omega (arith, c.type_inv.payload i)) c.requires.short c.in-Some.ensures).object,
)

pub returns-in-Some-clause-begun : goal.returns-in-Some-clause-begun
returns-in-Some-clause-begun c =
    begun (limits_of c.args.format) (allows_no_more c.args.format) c.args.payload.now c.in-Some.class.now c.in-Some.name.now c.in-Some.rest.now c.in-Some.count (λ i. omega (arith, c.type_inv.payload i)) c.requires.short c.in-Some.ensures

pub returns-in-None-clause-refused : goal.returns-in-None-clause-refused
returns-in-None-clause-refused c = λ refused frame is same.
    let none : None ≡ payload_at (limits_of c.args.format) c.args.payload.now = sym (c.in-None.ensures (limits_of c.args.format)) in
    let read : payload_at (limits_of c.args.format) c.args.payload.now ≡ Some frame = ap (payload_at (limits_of c.args.format)) (sym same) ∙ payload_again (limits_of c.args.format) (allows_no_more c.args.format) frame is in
    let both : None ≡ Some frame = none ∙ read in
    cc
