use Rattle.std.proofs.Common.{◌≡◌, ◌≢◌, ◌<◌, ℕ, length, cond, Option, Some, None, nat_eq, sym, ap, subst, ◌∙◌}
use Rattle.std.specs.Map.{lookup}
use Rattle.indexmap.specs.IndexMap.{get}
use Rattle.storage_map.specs.Limits.{Object}
use Rattle.placement.specs.Slots.{Slots, slot_of, object_at, with_object}
use Rattle.placement.specs.Numbers.{listed, number_of, same_numbers, IsIndex}
use Rattle.placement.proofs.Places.{stands_nowhere}
use Rattle.placement.proofs.Numbering.{Grown, grown_noted, grown_twice}
use Rattle.placement.proofs.Indexes.{length-listed, object_at_is, listed_with, index_grown, index_with}
use Rattle.placement.proofs.directory.Directory.put.Goals as goal

pub invariant_of-self-in_err-name : goal.invariant_of-self-in_err-name
invariant_of-self-in_err-name c =
    let i = c.self.inside in
    let first : Grown i.texts c.note.new.self = subst (Grown i.texts) (sym c.in_ok-class.ensures.noted) (grown_noted i.texts c.class.result.now) in
    let grown : Grown i.texts c.note-2.new.self = subst (Grown i.texts) (sym c.in_err-name.ensures.same) first in
    index_grown i.slots i.passed i.texts (get same_numbers i.named) (get nat_eq i.objects) c.self.invariant c.note-2.new.self grown

pub invariant_of-self-in_default : goal.invariant_of-self-in_default
invariant_of-self-in_default c =
    let i = c.self.inside in
    let more = c.note-2.new.self in
    let first : Grown i.texts c.note.new.self = subst (Grown i.texts) (sym c.in_ok-class.ensures.noted) (grown_noted i.texts c.class.result.now) in
    let second : Grown c.note.new.self more = subst (Grown c.note.new.self) (sym c.in_ok-name.ensures.noted) (grown_noted c.note.new.self c.name.result.now) in
    let index = index_grown i.slots i.passed i.texts (get same_numbers i.named) (get nat_eq i.objects) c.self.invariant more (grown_twice i.texts c.note.new.self more first second) in
    let same : get same_numbers i.named ≡ get same_numbers c.reserve.new.self = (λ j q. lookup (same_numbers q) (sym c.reserve.ensures.entries j)) in
    subst (λ (named : ℕ × ℕ → Option ℕ). IsIndex i.slots i.passed more named (get nat_eq i.objects)) same index

pub invariant_of-self-in_default-insert : goal.invariant_of-self-in_default-insert
invariant_of-self-in_default-insert c =
    let i = c.self.inside in
    let more = c.note-2.new.self in
    let first : Grown i.texts c.note.new.self = subst (Grown i.texts) (sym c.in_ok-class.ensures.noted) (grown_noted i.texts c.class.result.now) in
    let second : Grown c.note.new.self more = subst (Grown c.note.new.self) (sym c.in_ok-name.ensures.noted) (grown_noted c.note.new.self c.name.result.now) in
    let index = index_grown i.slots i.passed i.texts (get same_numbers i.named) (get nat_eq i.objects) c.self.invariant more (grown_twice i.texts c.note.new.self more first second) in
    let same : get same_numbers i.named ≡ get same_numbers c.reserve.new.self = (λ j q. lookup (same_numbers q) (sym c.reserve.ensures.entries j)) in
    let all : get nat_eq i.objects ≡ get nat_eq c.insert.new.self = (λ j q. lookup (nat_eq q) (sym c.in_default-insert.ensures.err j)) in
    subst (λ (objects : ℕ → Option Object). IsIndex i.slots i.passed more (get same_numbers c.reserve.new.self) objects) all
    (subst (λ (named : ℕ × ℕ → Option ℕ). IsIndex i.slots i.passed more named (get nat_eq i.objects)) same index)

pub invariant_of-self-2 : goal.invariant_of-self-2
invariant_of-self-2 c =
    let i = c.self.inside in
    let object = c.args.identity in
    let slot = c.args.slot in
    let named = get same_numbers i.named in
    let objects = get nat_eq i.objects in
    let more = c.note-2.new.self in
    let first : Grown i.texts c.note.new.self = subst (Grown i.texts) (sym c.in_ok-class.ensures.noted) (grown_noted i.texts c.class.result.now) in
    let second : Grown c.note.new.self more = subst (Grown c.note.new.self) (sym c.in_ok-name.ensures.noted) (grown_noted c.note.new.self c.name.result.now) in
    let index = index_grown i.slots i.passed i.texts named objects c.self.invariant more (grown_twice i.texts c.note.new.self more first second) in
    let class : number_of more object.0 ≡ Some c.in_ok-class.class =
    ap (number_of more) (sym c.class.ensures) ∙ second.keeps c.class.result.now c.in_ok-class.class c.in_ok-class.ensures.number in
    let name : number_of more object.1 ≡ Some c.in_ok-name.name = ap (number_of more) (sym c.name.ensures) ∙ c.in_ok-name.ensures.number in
    let at = object_at_is objects i.slots c.self.invariant.within in
    let empty : objects slot ≡ None = sym (at slot) ∙ ap (λ (all : Slots). object_at all slot) c.self.view_is ∙ c.requires.free.empty in
    let absent : slot_of (listed objects i.slots) object ≡ None = ap (λ (all : Slots). slot_of all object) c.self.view_is ∙ c.requires.absent in
    let nowhere : (s : ℕ) → objects s ≢ Some object = λ s e. stands_nowhere (listed objects i.slots) s object absent (at s ∙ e) in
    let long : length c.args.self.now ≡ i.slots = ap length (sym c.self.view_is) ∙ length-listed objects i.slots in
    let less : slot < i.slots = subst (λ (n : ℕ). slot < n) long c.requires.free.there in
    index_with i.slots i.passed more named objects index object slot c.in_ok-class.class c.in_ok-name.name class name empty nowhere less
    (get same_numbers c.insert-2.new.self)
    (λ q. c.in-Ok-insert-2.ensures.updates.0 q
    ∙ ap (λ es. cond (same_numbers (c.in_ok-class.class, c.in_ok-name.name) q) (Some slot) (lookup (same_numbers q) es)) c.reserve.ensures.entries)
    (get nat_eq c.insert.new.self) c.in-Ok-insert.ensures.updates.0

pub returns-clause-put : goal.returns-clause-put
returns-clause-put c =
    let i = c.self.inside in
    let objects = get nat_eq i.objects in
    let long : length c.args.self.now ≡ i.slots = ap length (sym c.self.view_is) ∙ length-listed objects i.slots in
    let less : c.args.slot < i.slots = subst (λ (n : ℕ). c.args.slot < n) long c.requires.free.there in
    listed_with objects (get nat_eq c.insert.new.self) i.slots c.args.slot c.args.identity less c.in-Ok-insert.ensures.updates.0
    ∙ ap (λ (all : Slots). with_object all c.args.slot c.args.identity) c.self.view_is
