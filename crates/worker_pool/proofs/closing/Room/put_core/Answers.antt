use Rattle.std.proofs.Common.{◌≡◌, refl, rules, arith, [], ◌∷◌, ◌++◌}
use Rattle.std.proofs.lemmas.Grind.{common_steps}
use Rattle.worker_pool.specs.Joined.{as_core}
use Rattle.worker_pool.proofs.closing.Room.put_core.Goals as goal

pub returns-then-is_empty-clause-put : goal.returns-then-is_empty-clause-put
returns-then-is_empty-clause-put g c =
    let none : c.args.self.now.apart.items ≡ [] = first_of (search rules, grind (arith, common_steps)) in
    let more : c.push.new.self.items ≡ c.args.self.now.cores.items ++ c.args.core ∷ [] = rw c.unwrap.ensures at c.push.ensures.items in
    as_core c.args.core refl none more refl
