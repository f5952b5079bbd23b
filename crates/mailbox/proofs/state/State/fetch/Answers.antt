use Rattle.std.proofs.Common.{rules, ◌≡◌, ◌+◌, ◌<◌, Option, Some, length, refl, sym, ap, subst, ◌∙◌, arith}
use Rattle.std.proofs.lemmas.Option.{same_Some}
use Rattle.line_server.specs.declared.out_line.OutLine.TheVariants as out
use Rattle.placement.specs.Slots as slots
use Rattle.timeline.specs.Lines as line
use Rattle.timeline.specs.Lines.{Identity}
use Rattle.timeline.specs.Switch as switch
use Rattle.timeline.specs.Switch.{Switch, fetches_from}
use Rattle.mailbox.specs.States.{switch_of, IsSound}
use Rattle.mailbox.proofs.Answered.{is_line}
use Rattle.mailbox.proofs.OpenFetches.{sound_issued}
use Rattle.mailbox.proofs.Placing.{object_is, object_within}
use Rattle.mailbox.proofs.state.State.fetch.Goals as goal

pub invariant_of-self-2 : goal.invariant_of-self-2
invariant_of-self-2 c =
    let i = c.self.inside in
    let there : c.args.slot < length i.directory =
    subst (λ (w : Switch). c.args.slot < length w.objects) (sym c.self.view_is) (object_within c.args.self.now c.args.slot c.requires) in
    subst (IsSound i.directory) (sym c.in_ok-k.ensures.issued)
    (sound_issued i.directory i.fetches (c.args.slot, c.args.incarnation, c.args.number) there c.self.invariant)

pub returns-clause-given : goal.returns-clause-given
returns-clause-given c = λ object at.
    let i = c.self.inside in
    let s = c.args.self.now in
    let named : ◌≡◌ {A = Option Identity} (Some c.in-Some.object.now) (slots.object_at i.directory c.args.slot) = first_of (search rules, grind arith) in
    let is_object : c.in-Some.object.now ≡ object =
    same_Some c.in-Some.object.now object
    (named ∙ object_is (switch_of i.directory i.fetches i.tick) c.args.slot ∙ ap (λ (w : Switch). switch.object_at w c.args.slot) c.self.view_is ∙ at) in
    let class : c.in_ok-class.class ≡ c.in-Some.object.now.0 = first_of (search rules, grind arith) in
    let name : c.in_ok-name.name ≡ c.in-Some.object.now.1 = first_of (search rules, grind arith) in
    let value : c.in_ok-value.value ≡ c.args.value.now = first_of (search rules, grind arith) in
    let number : c.in_ok-k.k ≡ s.fetches + 1 = c.in_ok-k.ensures.number ∙ ap (λ (w : Switch). w.fetches + 1) c.self.view_is in
    let same : line.fetch c.in_ok-k.k (c.in_ok-class.class, c.in_ok-name.name) c.in_ok-value.value ≡ line.fetch (s.fetches + 1) object c.args.value.now =
    λ j. line.fetch (number j) ((class ∙ ap (λ (o : Identity). o.0) is_object) j, (name ∙ ap (λ (o : Identity). o.1) is_object) j) (value j) in
    let wanted = fetches_from s c.args.slot c.args.incarnation c.args.number c.args.value.now object in
    is_line c.line.result wanted.after wanted (out.Fetch c.in_ok-k.k c.in_ok-class.class c.in_ok-name.name c.in_ok-value.value)
    (line.fetch (s.fetches + 1) object c.args.value.now) refl same c.line.ensures.posts c.line.ensures.line
