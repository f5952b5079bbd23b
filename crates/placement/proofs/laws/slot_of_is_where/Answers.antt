use Rattle.placement.proofs.Places.{is_slot_of, no_slot_of, stands_nowhere, stands_there}
use Rattle.placement.proofs.laws.slot_of_is_where.Goals as goal

pub returns : goal.returns
returns c = record {
  some = λ slots object slot one. (stands_there slots slot object, is_slot_of slots slot object one);
  none = λ slots object. (λ none slot. stands_nowhere slots slot object none, no_slot_of slots object);
}
