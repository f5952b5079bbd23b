use Rattle.std.proofs.Common.{◌∙◌, sym, refl, ap, List, Option}
use Rattle.std.proofs.lemmas.Option.{IfSome_then, none-some}
use Rattle.timeline.specs.declared.event.Event.{Event}
use Rattle.input_gate.specs.Deferring.{TakesFirst}
use Rattle.front_half.specs.Taking.{may_enter}
use Rattle.front_half.specs.declared.half.Half.{Half}
use Rattle.front_half.proofs.First.{due_taken, first_behind, first_taken, gate_for, if_none, if_none_then, if_some, mode_for, none_taken, same_due}
use Rattle.front_half.proofs.half.Half.take_deferred.Goals as goal

pub returns-then-is_due-clause-some : goal.returns-then-is_due-clause-some
returns-then-is_due-clause-some g c = if_some c.take.result (λ e is. λ script st half.
    let h : Half g.row.T.Denot = c.args.self.now in
    let m = mode_for g.T.Task.seen script h st half in
    let due = c.is_due.ensures.yes c.if-is_due.true m.0 st.front.mode m.1 in
    due_taken g.T.Task.seen script h (record h { due = c.take.new.self }) st e half
    (record {
      class = refl;
      incarnation = refl;
      count = refl;
      mode = refl;
      first_delivered = refl;
      first_sent = refl;
      delivered = refl;
      sent = refl;
      downed = refl;
      ends = refl;
    }) refl (same_due (may_enter st.front.mode) h.due due.0 e due.1 (sym c.take.ensures.value ∙ is) due.2) (sym c.take.ensures.value ∙ is) c.take.ensures.after refl)

pub returns-then-is_due-clause-none : goal.returns-then-is_due-clause-none
returns-then-is_due-clause-none g c = if_none c.take.result (λ is. λ script st half.
    let m = mode_for g.T.Task.seen script c.args.self.now st half in
    let due = c.is_due.ensures.yes c.if-is_due.true m.0 st.front.mode m.1 in
    absurd (none-some due.0 (sym is ∙ c.take.ensures.value ∙ due.1)))

pub returns-then-is_due-clause-same : goal.returns-then-is_due-clause-same
returns-then-is_due-clause-same g c = if_none c.take.result (λ is.
    ap (λ (o : Option Event). record c.args.self.now { due = o }) (c.take.ensures.after ∙ sym is ∙ c.take.ensures.value))

pub returns-clause-some : goal.returns-clause-some
returns-clause-some g c = IfSome_then c.take_entering.result c.take_entering.ensures.some (λ e takes script st half.
    let h : Half g.row.T.Denot = c.args.self.now in
    let m = mode_for g.T.Task.seen script h st half in
    let gate = gate_for g.T.Task.seen script h st half in
    let first : TakesFirst (may_enter st.front.mode) h.deferred c.take_entering.new.deferred e = takes m.0 st.front.mode gate.0 m.1 gate.1 in
    let behind = first_behind (may_enter st.front.mode) h.due h.deferred c.take_entering.new.deferred e (c.is_due.ensures.no c.if-is_due.false m.0 st.front.mode m.1) first in
    first_taken g.T.Task.seen script h (record h { deferred = c.take_entering.new.deferred }) st e _ half
    (record {
      class = refl;
      incarnation = refl;
      count = refl;
      mode = refl;
      first_delivered = refl;
      first_sent = refl;
      delivered = refl;
      sent = refl;
      downed = refl;
      ends = refl;
    }) refl first.may_enter behind behind.rest)

pub returns-clause-none : goal.returns-clause-none
returns-clause-none g c = if_none_then c.take_entering.result c.take_entering.ensures.none (λ none script st half.
    let h : Half g.row.T.Denot = c.args.self.now in
    let m = mode_for g.T.Task.seen script h st half in
    let gate = gate_for g.T.Task.seen script h st half in
    none_taken g.T.Task.seen script h st half (c.is_due.ensures.no c.if-is_due.false m.0 st.front.mode m.1) (none m.0 st.front.mode gate.0 m.1 gate.1))

pub returns-clause-same : goal.returns-clause-same
returns-clause-same g c = if_none_then c.take_entering.result c.take_entering.ensures.same (λ same.
    ap (λ (ds : List Event). record c.args.self.now { deferred = ds }) same)
