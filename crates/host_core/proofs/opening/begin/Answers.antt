use Rattle.std.proofs.Common.{◌≡◌, ◌∙◌, ap, subst, ℕ, ℤ, Option}
use Rattle.do_tree.specs.Checked.{tree_of}
use Rattle.storage_map.specs.Limits.{Object}
use Rattle.object_core.specs.One.{class_in}
use Rattle.object_front.specs.Evaluated.{seen}
use Rattle.front_half.specs.Standing.{IsHalf, fresh}
use Rattle.host_core.proofs.Beginning.{has_begun, known_as}
use Rattle.host_core.proofs.opening.begin.Goals as goal

pub new-front-requires : goal.new-front-requires
new-front-requires g c =
    let script = tree_of c.args.checked.now in
    known_as script c.args.mounted.identity c.class_of-class.result (c.class_of-class.ensures ∙ ap (λ (o : Option Object). class_in script o) c.as_ref.ensures.value)

pub returns-in-Ok-clause-halves : goal.returns-in-Ok-clause-halves
returns-in-Ok-clause-halves g c limit content named at =
    let script = tree_of c.args.checked.now in
    let front = c.new-front.result.half in
    let class : c.class_of-class.result ≡ class_in script c.args.mounted.identity =
    c.class_of-class.ensures ∙ ap (λ (o : Option Object). class_in script o) c.as_ref.ensures.value in
    let stands : IsHalf seen script front (fresh (class_in script c.args.mounted.identity) c.args.mounted.index.alarm) =
    subst (λ (x : Option ℕ × Option (ℤ × ℕ)). IsHalf seen script front (fresh x.0 x.1)) (λ i. (class i, c.alarm.ensures i)) c.new-front.ensures.stands in
    has_begun g.D.Disk.moment_of g.D.Disk.left_since g.D.Disk.told g.D.Disk.image g.D.Disk.faults_of limit script content named c.args.mounted
    (record { front = c.new-front.result; back = c.in-Ok.back }) at c.in-Ok.ensures.fresh c.in-Ok.ensures.back
    (c.halves_are_fresh.ensures script c.args.mounted front c.in-Ok.ensures.fresh stands c.new-front.ensures.log)
