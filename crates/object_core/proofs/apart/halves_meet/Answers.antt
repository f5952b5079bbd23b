use Rattle.object_core.proofs.Joined.{apart_meet}
use Rattle.object_core.proofs.apart.halves_meet.Goals as goal

pub returns : goal.returns
returns c script class first opened half st rear events got told sent taken line notices front back is_line is_told is_class =
    apart_meet c.front_begins.ensures c.turn_steps.ensures c.back_steps.ensures c.events_come.ensures c.early_is_unasked.ensures c.drops_are_answered.ensures script class first
    opened half st rear events got told sent taken line notices front back is_line is_told is_class
