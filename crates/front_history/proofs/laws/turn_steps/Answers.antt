use Rattle.object_front.specs.Evaluated.{seen}
use Rattle.front_history.proofs.Items.{turn_class}
use Rattle.front_history.proofs.Turning.{turns_keep, halts_keep, rests_keep}
use Rattle.front_history.proofs.laws.turn_steps.Goals as goal

pub returns : goal.returns
returns c = record {
  goes_on = λ script class opened old new st events_before events got_before got told rear line later_line notices later known runs paired way turns is_class.
      turns_keep seen c.logs_grow.ensures c.front_keeps_pair.ensures c.notices_fit.ensures script class opened old new st events_before events got_before got told
      rear line later_line notices later known runs paired way turns is_class;
  halts = λ script class opened old new st events_before events got_before got told rear line later_line notices later known runs paired way halts is_class.
      halts_keep seen c.logs_grow.ensures c.front_keeps_pair.ensures c.notices_fit.ensures script class opened old new st events_before events got_before got told
      rear line later_line notices later known runs paired way halts is_class;
  rests = λ k opened old new st before after rear line later_line notices later paired way still.
      rests_keep k opened old new st before after rear line later_line notices later paired way still;
  class = λ script class st events_before events got_before got told led taken is_class.
      turn_class script class st events_before events got_before got told led taken is_class;
}
