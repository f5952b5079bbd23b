use Rattle.std.proofs.Common.{◌≡◌, ℕ, List, map, take}
use Rattle.do_value.specs.Tree.{text}
use Rattle.do_value.specs.Seen.{trees_in}
use Rattle.do_value.specs.declared.value.Value.{Value}
use Rattle.script_ops.proofs.lists.list_keys.Given as goal

abbrev pub invariant-loop-key : goal.invariant-loop-key
invariant-loop-key l = trees_in l.texts.items ≡ map (λ (p : List ℕ × Value). text p.0) (take l.key-index l.key-items)
