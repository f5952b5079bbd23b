use Rattle.std.proofs.Common.{ℕ, sym, ap, ◌∙◌}
use Rattle.std.specs.Prelude.{◌||◌}
use Rattle.object_calls.specs.Numbered.{under}
use Rattle.input_gate.specs.Deferring.{may_enter}
use Rattle.input_gate.specs.Doors.{staying, bind, answer, stands, lets_through, is_among}
use Rattle.input_gate.specs.declared.deferred.Entering.{Entering}
use Rattle.input_gate.proofs.Least.{among_either, among_same, answer_or_bind, bind_alone, no_eviction, same_least}
use Rattle.input_gate.proofs.deferred.first_of.Goals as goal

pub returns-in-NoEviction : goal.returns-in-NoEviction
returns-in-NoEviction c =
    same_least (λ k. stands c.args.doors.now staying k) (λ k. is_among (may_enter c.args.entering) (under k c.args.events.now.entries)) c.staying.result
    (λ k. c.requires staying k ∙ among_same (lets_through staying) (may_enter c.args.entering) (under k c.args.events.now.entries)
    (λ e. no_eviction e ∙ ap (λ (w : Entering). may_enter w e) (sym c.in-NoEviction.is)))
    c.staying.ensures

pub returns-in-AnswerUnder : goal.returns-in-AnswerUnder
returns-in-AnswerUnder c =
    let n : ℕ = c.in-AnswerUnder.number in
    same_least (λ k. stands c.args.doors.now (answer n) k || stands c.args.doors.now bind k) (λ k. is_among (may_enter c.args.entering) (under k c.args.events.now.entries)) c.earlier.result
    (λ k. (λ i. c.requires (answer n) k i || c.requires bind k i)
    ∙ among_either (lets_through (answer n)) (lets_through bind) (may_enter c.args.entering) (under k c.args.events.now.entries)
    (λ e. answer_or_bind n e ∙ ap (λ (w : Entering). may_enter w e) (sym c.in-AnswerUnder.is)))
    (c.earlier.ensures (λ k. stands c.args.doors.now (answer n) k) (λ k. stands c.args.doors.now bind k) c.answer.ensures c.bind.ensures)

pub returns-in-BindAlone : goal.returns-in-BindAlone
returns-in-BindAlone c =
    same_least (λ k. stands c.args.doors.now bind k) (λ k. is_among (may_enter c.args.entering) (under k c.args.events.now.entries)) c.bind-in-BindAlone.result
    (λ k. c.requires bind k ∙ among_same (lets_through bind) (may_enter c.args.entering) (under k c.args.events.now.entries)
    (λ e. bind_alone e ∙ ap (λ (w : Entering). may_enter w e) (sym c.in-BindAlone.is)))
    c.bind-in-BindAlone.ensures
