use Rattle.std.proofs.Common.{refl, arith}
use Rattle.do_value.proofs.Parts.{item_depth-lt, field_depth-lt}
use Rattle.test_rows.proofs.tell.+tell.Goals as goal

pub tell_list-tell_value-requires : goal.tell_list-tell_value-requires
tell_list-tell_value-requires t c =
    let less = item_depth-lt c.as_slice-part-items.result.now c.loop-part.part-index c.part-item.result refl c.as_slice-part-items.ensures.values c.loop-part-test.true c.part-item.is in
    (omega (arith, less, c.decreases), tt)

pub tell_record-tell_value-requires : goal.tell_record-tell_value-requires
tell_record-tell_value-requires t c =
    let less = field_depth-lt c.as_slice-key-items.result.now c.loop-key.key-index c.loop-key-item.result refl c.as_slice-key-items.ensures.pairs c.loop-key-test.true c.loop-key-item.is in
    (omega (arith, less, c.decreases), tt)
