use Rattle.std.proofs.Common.{sym, arith}
use Rattle.std.proofs.lemmas.Option.{slice_get_within}
use Rattle.do_value.specs.Seen.{tree_of}
use Rattle.do_value.proofs.Changed.{size_within}
use Rattle.script_places.proofs.Items.{none_past}
use Rattle.script_places.proofs.Sized.{sized_set}
use Rattle.script_places.proofs.size.size_with_place.Goals as goal

pub overflow_sub-size : goal.overflow_sub-size
overflow_sub-size c =
    omega (arith, size_within c.args.items.now c.args.place (tree_of c.in-Some.old.now) (sym c.in-Some.ensures), c.size.ensures.value, c.size-in-Some.ensures.value)

pub returns-in-Some : goal.returns-in-Some
returns-in-Some c =
    sized_set c.args.items.now c.args.place (tree_of c.in-Some.old.now) c.size.result c.size-in-Some.result c.args.size c.saturating_add.result
    (sym c.in-Some.ensures) (slice_get_within c.args.items.now c.args.place (tree_of c.in-Some.old.now) (sym c.in-Some.ensures)) c.size.ensures.value
    c.size-in-Some.ensures.value c.saturating_add.ensures

pub size_with_more-requires : goal.size_with_more-requires
size_with_more-requires c = none_past c.args.items.now c.args.place (sym c.in-None.ensures)
