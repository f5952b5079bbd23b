use Rattle.std.proofs.Common.{◌≡◌, subst}
use Rattle.do_tree.specs.Checked.{tree_of}
use Rattle.script_tests.specs.Waits.{class_or}
use Rattle.script_tests.proofs.Found.{has_class}
use Rattle.script_tests.proofs.tasks.given.Running.go_on.Goals as goal

pub resume-requires-clause-class : goal.resume-requires-clause-class
resume-requires-clause-class c =
    let s = c.args.self in
    has_class (tree_of s.checked) s.class _ s.there (subst (λ o. class_or s.class o ≡ s.class) c.in-Paused.is s.kept)
