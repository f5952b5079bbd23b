use Rattle.std.proofs.Common.{◌≡◌, ℕ, List, Option, sym, ◌∙◌, ap, Bool}
use Rattle.std.specs.Prelude.{codes}
use Rattle.std.specs.List.{position}
use Rattle.std.proofs.lemmas.Bool.{cond-false}
use Rattle.do_tree.specs.Lookup.{is_constructor, is_named}
use Rattle.do_tree.specs.Seen.{method_of}
use Rattle.do_tree.specs.Tree as tree
use Rattle.do_tree.specs.declared.script.Method.{Method}
use Rattle.do_tree.proofs.Lookups.{method_seen}
use Rattle.do_tree.proofs.checked.Checked.method.Goals as goal

pub returns-in-Some : goal.returns-in-Some
returns-in-Some c =
    let p : tree.Method → Bool = is_named c.args.name.now in
    sym c.in-Some.is ∙ c.method_place.ensures
    ∙ ap (position (λ (m : Method). p (method_of m))) c.methods.ensures.methods
    ∙ method_seen p c.args.self.now c.args.class
    ∙ sym (cond-false _ _ _ (sym c.eq.ensures ∙ c.if-eq.false))

pub returns-in-None : goal.returns-in-None
returns-in-None c =
    let p : tree.Method → Bool = is_named c.args.name.now in
    sym c.in-None.is ∙ c.method_place.ensures
    ∙ ap (position (λ (m : Method). p (method_of m))) c.methods.ensures.methods
    ∙ method_seen p c.args.self.now c.args.class
    ∙ sym (cond-false _ _ _ (sym c.eq.ensures ∙ c.if-eq.false))
