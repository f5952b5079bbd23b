use Rattle.object_messages.proofs.FrontsNumbering.{numbers_rise}
use Rattle.object_messages.proofs.laws.numbers_ascend.Goals as goal

pub returns : goal.returns
returns c = numbers_rise
