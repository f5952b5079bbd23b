use Rattle.std.proofs.Common.{Bool, List}
use Rattle.timeline.specs.declared.event.Event.{Event}
use Rattle.input_gate.specs.Deferring as gate
use Rattle.input_gate.specs.Deferring.{NoneEnters, TakesFirst}
use Rattle.front_half.specs.Taking.{may_enter}
use Rattle.front_half.proofs.First.{first_of_these, match_none, match_some, none_by, none_of_these}
use Rattle.front_half.proofs.choosing.take_entering.Goals as goal

pub returns-in-Some-clause-some : goal.returns-in-Some-clause-some
returns-in-Some-clause-some g c =
    let p : Event → Bool = gate.may_enter c.in-Some.entering in
    let old : List Event = c.args.deferred.now in
    match_some (NoneEnters p old c.take_first.new.self) (TakesFirst p old c.take_first.new.self) c.take_first.result c.take_first.ensures (λ e first l m constructor is gated.
    first_of_these (gate.may_enter c.in-Some.entering) (may_enter m) (c.in-Some.ensures.some l m constructor is gated) _ _ e first)

pub returns-in-Some-clause-none : goal.returns-in-Some-clause-none
returns-in-Some-clause-none g c =
    let p : Event → Bool = gate.may_enter c.in-Some.entering in
    let old : List Event = c.args.deferred.now in
    match_none (NoneEnters p old c.take_first.new.self) (TakesFirst p old c.take_first.new.self) c.take_first.result c.take_first.ensures (λ none l m constructor is gated.
    none_of_these (gate.may_enter c.in-Some.entering) (may_enter m) (c.in-Some.ensures.some l m constructor is gated) _ none.none)

pub returns-in-Some-clause-same : goal.returns-in-Some-clause-same
returns-in-Some-clause-same g c =
    let p : Event → Bool = gate.may_enter c.in-Some.entering in
    let old : List Event = c.args.deferred.now in
    match_none (NoneEnters p old c.take_first.new.self) (TakesFirst p old c.take_first.new.self) c.take_first.result c.take_first.ensures (λ none. none.same)

pub returns-in-None-clause-none : goal.returns-in-None-clause-none
returns-in-None-clause-none g c = λ l m constructor is gated. none_by (may_enter m) (c.in-None.ensures.none l m is) _
