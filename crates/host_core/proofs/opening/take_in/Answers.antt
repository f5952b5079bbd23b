use Rattle.std.proofs.Common.{◌≡◌, ◌<◌, ◌∙◌, ap, sym, subst, Option, Some, Bor, option_copied}
use Rattle.placement.specs.Slots.{object_at}
use Rattle.storage_map.specs.Limits.{Object}
use Rattle.host_core.proofs.Adopting.{twice_before}
use Rattle.host_core.proofs.opening.take_in.Goals as goal

pub returns-in-Err-Twice-clause-why : goal.returns-in-Err-Twice-clause-why
returns-in-Err-Twice-clause-why c =
    let named = c.args.directory.now in
    let copied : Option Object = option_copied c.args.identity in
    let is : copied ≡ Some c.in-Some.identity.now = ap (λ (o : Option (Bor Object)). option_copied o) c.in-Some.is in
    let same : c.in-Ok.copy ≡ c.in-Some.identity.now = c.in-Ok.ensures in
    let whole = twice_before named c.args.slot c.in-Ok.copy c.in-Err-Twice.a c.in-Err-Twice.b c.in-Err-Twice.field-0 c.in-Err-Twice.field-0-is c.slot_of_is_where.ensures c.requires.one_each c.requires.free
    c.in-Err-Twice.ensures.twice c.in-Err-Twice.ensures.once in
    subst (λ (o : Option Object). (c.in-Err-Twice.b ≡ c.args.slot) × (c.in-Err-Twice.a < c.args.slot) × ((x : Object) × (o ≡ Some x) × (object_at named c.in-Err-Twice.a ≡ Some x)))
    (sym (is ∙ ap (λ (o : Object). Some o) (sym same))) whole
