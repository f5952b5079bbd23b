use Rattle.std.proofs.Common.{rules, ◌≡◌, Some, None, nat_eq, sym, ap, subst, ◌∙◌}
use Rattle.indexmap.specs.IndexMap.{get}
use Rattle.placement.specs.Slots.{Slots, slot_of, IsOneEach}
use Rattle.placement.specs.Numbers.{number_of, same_numbers, under}
use Rattle.placement.proofs.Indexes.{found_is, one_each_listed}
use Rattle.placement.proofs.directory.Directory.find.Goals as goal

pub returns-in_err-class-clause-found : goal.returns-in_err-class-clause-found
returns-in_err-class-clause-found c =
    let i = c.self.inside in
    let o = c.args.identity.now in
    let named = get same_numbers i.named in
    let class : number_of i.texts o.0 ≡ None = search rules in
    let answer : c.from_residual.result ≡ None = search rules in
    answer ∙ sym (λ k. under named (class k) (number_of i.texts o.1))
    ∙ found_is i.slots i.passed i.texts named (get nat_eq i.objects) c.self.invariant o
    ∙ ap (λ (all : Slots). slot_of all o) c.self.view_is

pub returns-in_err-class-clause-one_each : goal.returns-in_err-class-clause-one_each
returns-in_err-class-clause-one_each c =
    let i = c.self.inside in
    subst IsOneEach c.self.view_is (one_each_listed i.slots i.passed i.texts (get same_numbers i.named) (get nat_eq i.objects) c.self.invariant)

pub returns-in_err-name-clause-found : goal.returns-in_err-name-clause-found
returns-in_err-name-clause-found c =
    let i = c.self.inside in
    let o = c.args.identity.now in
    let named = get same_numbers i.named in
    let class : number_of i.texts o.0 ≡ Some c.in_ok-class.class = search rules in
    let name : number_of i.texts o.1 ≡ None = search rules in
    let answer : c.from_residual-in_err-name.result ≡ None = search rules in
    answer ∙ sym (λ k. under named (class k) (name k))
    ∙ found_is i.slots i.passed i.texts named (get nat_eq i.objects) c.self.invariant o
    ∙ ap (λ (all : Slots). slot_of all o) c.self.view_is

pub returns-in_err-name-clause-one_each : goal.returns-in_err-name-clause-one_each
returns-in_err-name-clause-one_each c =
    let i = c.self.inside in
    subst IsOneEach c.self.view_is (one_each_listed i.slots i.passed i.texts (get same_numbers i.named) (get nat_eq i.objects) c.self.invariant)

pub returns-clause-found : goal.returns-clause-found
returns-clause-found c =
    let i = c.self.inside in
    let o = c.args.identity.now in
    let named = get same_numbers i.named in
    let class : number_of i.texts o.0 ≡ Some c.in_ok-class.class = search rules in
    let name : number_of i.texts o.1 ≡ Some c.in_ok-name.name = search rules in
    let answer : c.copied.result ≡ named (c.in_ok-class.class, c.in_ok-name.name) = search rules in
    answer ∙ sym (λ k. under named (class k) (name k))
    ∙ found_is i.slots i.passed i.texts named (get nat_eq i.objects) c.self.invariant o
    ∙ ap (λ (all : Slots). slot_of all o) c.self.view_is

pub returns-clause-one_each : goal.returns-clause-one_each
returns-clause-one_each c =
    let i = c.self.inside in
    subst IsOneEach c.self.view_is (one_each_listed i.slots i.passed i.texts (get same_numbers i.named) (get nat_eq i.objects) c.self.invariant)
