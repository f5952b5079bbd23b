use Rattle.std.proofs.Common.{◌∙◌, ap, arith, length, get_or, List}
use Rattle.storage_map.specs.Ops.{op_bytes}
use Rattle.storage_map.specs.declared.op.Op.{Op}
use Rattle.output_gate.proofs.Batches.{bytes_more, size_fits, size_all}
use Rattle.output_gate.proofs.taking.batch_size.Goals as goal

pub overflow_add-size : goal.overflow_add-size
overflow_add-size c =
    let i = c.loop-op.invariant in
    let item = ap (λ (x : Op). length (op_bytes x)) (c.op-item.is ∙ ap (λ (ops : List Op). get_or ops c.loop-op.op-index c.op-item.result) i.1) in
    omega (
      arith,
      size_fits c.args.batch.now c.loop-op.size c.loop-op.op-index c.size-size.result c.op-item.result c.as_slice-op-items.ensures.batch
          (omega (arith, c.loop-op-test.true, ap (λ (ops : List Op). length ops) i.1)) i.0 (c.size-size.ensures ∙ item),
    )

pub loop-op-preserved : goal.loop-op-preserved
loop-op-preserved c =
    let i = c.loop-op.invariant in
    let item = ap (λ (x : Op). length (op_bytes x)) (c.op-item.is ∙ ap (λ (ops : List Op). get_or ops c.loop-op.op-index c.op-item.result) i.1) in
    (omega (arith, i.0, c.size-size.ensures ∙ item, bytes_more c.args.batch.now c.loop-op.op-index c.op-item.result (omega (arith, c.loop-op-test.true, ap (λ (ops : List Op). length ops) i.1))), i.1)

pub returns-clause-size : goal.returns-clause-size
returns-clause-size c =
    let i = c.loop-op.invariant in
    size_all c.args.batch.now c.loop-op.size c.loop-op.op-index (omega (arith, c.loop-op.auto.op-index-end, c.loop-op-test.false, ap (λ (ops : List Op). length ops) i.1)) i.0
