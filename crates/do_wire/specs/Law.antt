-- The law that JSON keeps values.
use Rattle.std.specs.Prelude.{◌≡◌, Ok}
use Rattle.do_value.specs.Tree.{Tree, undefined, null, boolean, number, text, list, rec, Trees, no_trees, tree, Pairs, no_pairs, pair}
use Rattle.do_value.specs.Sound.{IsValue}
use Rattle.do_wire.specs.Json.{json_of}
use Rattle.do_wire.specs.Reading.{reading_of}

-- Neither the value nor a part of it is `undefined`.
abbrev mutual
  pub IsDefined : Tree → Type 0
  IsDefined undefined = ⊥
  IsDefined null = Unit {0}
  IsDefined (boolean b) = Unit {0}
  IsDefined (number z) = Unit {0}
  IsDefined (text bytes) = Unit {0}
  IsDefined (list ts) = AreDefined ts
  IsDefined (rec ps) = ArePairsDefined ps

  pub AreDefined : Trees → Type 0
  AreDefined no_trees = Unit {0}
  AreDefined (tree t ts) = IsDefined t × AreDefined ts

  pub ArePairsDefined : Pairs → Type 0
  ArePairsDefined no_pairs = Unit {0}
  ArePairsDefined (pair k t ps) = IsDefined t × ArePairsDefined ps

-- A value without `undefined` is read from its own JSON (this project's profile).
abbrev pub JsonReadsBack : Type 0
JsonReadsBack = (t : Tree) → IsValue t → IsDefined t → reading_of (json_of t) ≡ Ok t
