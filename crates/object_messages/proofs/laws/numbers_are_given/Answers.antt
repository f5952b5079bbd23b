use Rattle.object_messages.proofs.FrontsNumbering.{numbers_given}
use Rattle.object_messages.proofs.laws.numbers_are_given.Goals as goal

pub returns : goal.returns
returns c = numbers_given
