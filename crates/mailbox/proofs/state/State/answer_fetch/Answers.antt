use Rattle.std.proofs.Common.{rules, ◌≡◌, ◌∷◌, [], length, None, Some, w64, FitsSigned, to_z, of_z, refl, sym, ap, subst, ◌∙◌, arith}
use Rattle.std.specs.Prelude.{ℤ}
use Rattle.std.proofs.lemmas.Int.{to_z-of_z}
use Rattle.line_server.specs.declared.out_line.OutLine.TheVariants.{Refused}
use Rattle.line_server.specs.declared.out_line.Why.TheVariants as why
use Rattle.object_calls.specs.Fetched.{Asker}
use Rattle.object_calls.specs.Numbered.{Numbered, under, others}
use Rattle.timeline.specs.Lines as line
use Rattle.timeline.specs.Switch as switch
use Rattle.timeline.specs.Switch.{Switch, answers_fetch, posts, prints}
use Rattle.timeline.specs.declared.event.Event.TheVariants.{Answer}
use Rattle.mailbox.specs.States.{switch_of, IsSound}
use Rattle.mailbox.proofs.Accepted.{none_open, one_open, closed_none}
use Rattle.mailbox.proofs.Answered.{if_post, is_line, on_ok}
use Rattle.mailbox.proofs.OpenFetches.{sound_closed, slot_there}
use Rattle.mailbox.proofs.state.State.answer_fetch.Goals as goal

pub invariant_of-self : goal.invariant_of-self
invariant_of-self c =
    let i = c.self.inside in
    subst (IsSound i.directory) (sym c.close.ensures.others) (sound_closed i.directory i.fetches c.args.k c.self.invariant)

pub returns-in_default-clause-given : goal.returns-in_default-clause-given
returns-in_default-clause-given c =
    let i = c.self.inside in
    let s = switch_of i.directory i.fetches i.tick in
    let none : under c.args.k i.fetches.waiting ≡ None = first_of (search rules, grind arith) in
    let wanted : answers_fetch c.args.self.now c.args.line c.args.k c.args.outcome ≡ prints s (line.refused c.args.line line.no_fetch) =
    sym (ap (λ (w : Switch). answers_fetch w c.args.line c.args.k c.args.outcome) c.self.view_is)
    ∙ none_open i.directory i.fetches i.tick c.args.line c.args.k c.args.outcome none in
    is_line c.line.result s (answers_fetch c.args.self.now c.args.line c.args.k c.args.outcome) (Refused c.args.line why.Fetch) (line.refused c.args.line line.no_fetch)
    wanted refl c.line.ensures.posts c.line.ensures.line

pub returns-in_default-clause-after : goal.returns-in_default-clause-after
returns-in_default-clause-after c =
    let i = c.self.inside in
    let none : under c.args.k i.fetches.waiting ≡ None = first_of (search rules, grind arith) in
    ap (λ (fetches : Numbered Asker). switch_of i.directory fetches i.tick) (c.close.ensures.others ∙ closed_none i.fetches c.args.k none)
    ∙ sym (ap (λ (g : switch.Given). g.after) (none_open i.directory i.fetches i.tick c.args.line c.args.k c.args.outcome none))
    ∙ ap (λ (w : Switch). (answers_fetch w c.args.line c.args.k c.args.outcome).after) c.self.view_is

pub invariant_of-self-2 : goal.invariant_of-self-2
invariant_of-self-2 c =
    let i = c.self.inside in
    subst (IsSound i.directory) (sym c.close.ensures.others) (sound_closed i.directory i.fetches c.args.k c.self.invariant)

pub returns-clause-given : goal.returns-clause-given
returns-clause-given c =
    let i = c.self.inside in
    let a : Asker = (c.in-Some.slot, c.in-Some.incarnation, c.in-Some.number) in
    let open_now : under c.args.k i.fetches.waiting ≡ Some a = first_of (search rules, grind arith) in
    let now = switch_of i.directory (record i.fetches { waiting = others c.args.k i.fetches.waiting }) i.tick in
    let moment = to_z w64 (of_z w64 i.tick) in
    let fits : FitsSigned w64 i.tick = first_of (search rules, assumption) in
    let wanted : answers_fetch c.args.self.now c.args.line c.args.k c.args.outcome ≡ posts now ((a.0, Answer a.1 a.2 c.args.outcome moment) ∷ []) =
    sym (ap (λ (w : Switch). answers_fetch w c.args.line c.args.k c.args.outcome) c.self.view_is)
    ∙ one_open i.directory i.fetches i.tick c.args.line c.args.k c.args.outcome a c.self.invariant.ascending open_now
    ∙ ap (λ (t : ℤ). posts now ((a.0, Answer a.1 a.2 c.args.outcome t) ∷ [])) (sym (to_z-of_z w64 i.tick fits)) in
    if_post c.post.result (answers_fetch c.args.self.now c.args.line c.args.k c.args.outcome) a.0 (Answer a.1 a.2 c.args.outcome moment) now wanted
    (slot_there (length i.directory) c.args.k a i.fetches.waiting c.self.invariant.there open_now) c.post.ensures.posts c.post.ensures.line

pub returns-clause-after : goal.returns-clause-after
returns-clause-after c =
    let i = c.self.inside in
    let a : Asker = (c.in-Some.slot, c.in-Some.incarnation, c.in-Some.number) in
    let open_now : under c.args.k i.fetches.waiting ≡ Some a = first_of (search rules, grind arith) in
    on_ok c.post.result
    (ap (λ (fetches : Numbered Asker). switch_of i.directory fetches i.tick) c.close.ensures.others
    ∙ sym (ap (λ (g : switch.Given). g.after) (one_open i.directory i.fetches i.tick c.args.line c.args.k c.args.outcome a c.self.invariant.ascending open_now))
    ∙ ap (λ (w : Switch). (answers_fetch w c.args.line c.args.k c.args.outcome).after) c.self.view_is)
