use Rattle.std.proofs.Common.{◌∙◌, sym, ap, true≢false, Option, option_to_list}
use Rattle.std.specs.List.{list_any}
use Rattle.timeline.specs.declared.event.Event.{Event}
use Rattle.front_half.specs.Taking.{may_enter}
use Rattle.front_half.proofs.First.{none_in_one}
use Rattle.front_half.proofs.choosing.is_due.Goals as goal

pub returns-in-Some-clause-yes : goal.returns-in-Some-clause-yes
returns-in-Some-clause-yes g c = λ may l m is. (c.in-Some.event, c.in-Some.is, sym (c.may_enter.ensures l m is) ∙ may)

pub returns-in-Some-clause-no : goal.returns-in-Some-clause-no
returns-in-Some-clause-no g c = λ none l m is. none_in_one (may_enter m) c.args.due.now c.in-Some.event c.in-Some.is (sym (c.may_enter.ensures l m is) ∙ none)

pub returns-in-None-clause-yes : goal.returns-in-None-clause-yes
returns-in-None-clause-yes g c = λ may l m is. absurd (true≢false (sym may))

pub returns-in-None-clause-no : goal.returns-in-None-clause-no
returns-in-None-clause-no g c = λ none l m is. ap (λ (o : Option Event). list_any (may_enter m) (option_to_list o)) c.in-None.is
