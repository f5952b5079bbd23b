-- Both halves of a slot that was just mounted, by what their makers say.
use Rattle.std.proofs.Common.{◌≡◌, ap, sym, refl, subst, ℕ, Option, Some, None}
use Rattle.std.specs.Prelude.{ℤ}
use Rattle.do_tree.specs.Tree.{Script}
use Rattle.storage_map.specs.Limits.{Object}
use Rattle.batch_journal.specs.declared.mount.Mounted.{Mounted}
use Rattle.timeline.specs.Logs.{fronted}
use Rattle.object_front.proofs.Coming.{mode_goes}
use Rattle.object_front.specs.Evaluated.{seen}
use Rattle.front_half.specs.Standing.{IsClass, IsHalf, fresh, nothing_logged}
use Rattle.object_front.specs.declared.evaluated.Evaluated.{Evaluated}
use Rattle.front_half.specs.declared.half.Half.{Half}
use Rattle.output_gate.specs.Logs.{IsFresh}
use Rattle.output_gate.specs.declared.back.Back.{Back}
use Rattle.object_core.specs.One.{AreFresh, class_in}

-- A class that a front may have.
some_class : (class : Option ℕ) → (c : ℕ) × IsClass class c
some_class None = (0, tt)
some_class (Some class) = (class, refl)

pub are_fresh : {D : Type 0} (script : Script) (mounted : Mounted D) (front : Half Evaluated) (back : Back D) → IsFresh mounted back
    → IsHalf seen script front (fresh (class_in script mounted.identity) mounted.index.alarm) → fronted front.log ≡ nothing_logged → AreFresh script front back
are_fresh script mounted front back made stands unlogged =
    let k = some_class (class_in script mounted.identity) in
    record {
      stands = subst (λ (x : Option Object × Option (ℤ × ℕ)). IsHalf seen script front (fresh (class_in script x.0) x.1))
          (λ i. (sym made.identity i, ap (λ c. c.index.alarm) (sym made.cache) i)) stands;
      goes = mode_goes seen _ front.mode _ (stands.mode k.0 k.1);
      front_log = unlogged;
      back_log = made.log;
      held = made.held;
      free = made.stuck;
      serves = made.stopped;
      limit = made.journal;
    }
