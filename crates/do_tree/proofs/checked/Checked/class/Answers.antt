use Rattle.std.proofs.Common.{◌≡◌, ℕ, List, Option, sym, ◌∙◌, ap}
use Rattle.std.specs.List.{position}
use Rattle.std.specs.Str.{bytes_eq}
use Rattle.do_tree.specs.declared.script.Class.{Class}
use Rattle.do_tree.proofs.Lookups.{class_seen}
use Rattle.do_tree.proofs.checked.Checked.class.Goals as goal

pub returns-in-Some : goal.returns-in-Some
returns-in-Some c =
    sym c.in-Some.is ∙ c.class_place.ensures
    ∙ ap (position (λ (k : Class). bytes_eq k.name.text c.args.name.now)) c.deref.ensures.value
    ∙ class_seen c.args.self.now c.args.name.now

pub returns-in-None : goal.returns-in-None
returns-in-None c =
    sym c.in-None.is ∙ c.class_place.ensures
    ∙ ap (position (λ (k : Class). bytes_eq k.name.text c.args.name.now)) c.deref.ensures.value
    ∙ class_seen c.args.self.now c.args.name.now
