-- Steps and writes as the code holds them, in the words of the meaning of scripts.
use Rattle.std.specs.Prelude.{ℕ, ◌+◌, ℤ, pos, negsuc, List, map, Option, Some, None}
use Rattle.do_value.specs.Tree.{depth_of}
use Rattle.do_value.specs.Seen.{tree_of}
use Rattle.script_mean.specs.Places as places
use Rattle.script_mean.specs.Places.{Change, put, push}
use Rattle.script_places.specs.declared.step.Step.{Step}
use Rattle.script_places.specs.declared.step.Step.TheVariants.{Named, Indexed}
use Rattle.script_places.specs.declared.step.Write.{Write}
use Rattle.script_places.specs.declared.step.Write.TheVariants.{Put, Push}

-- A step, and several, in the words of the meaning.
abbrev pub step_of : Step → places.Step
step_of (Named name) = places.named name
step_of (Indexed index) = places.indexed (tree_of index)

abbrev pub steps_in : List Step → List places.Step
steps_in ss = map step_of ss

-- What a write does at the end of its steps, in the words of the meaning.
abbrev pub change_of : Write → Change
change_of (Put v) = put (tree_of v)
change_of (Push v) = push (tree_of v)

-- How many levels nest in what the write puts there: those of the value, and for `push` that of the list.
abbrev pub levels_of : Write → ℕ
levels_of (Put v) = depth_of (tree_of v)
levels_of (Push v) = 1 + depth_of (tree_of v)

-- The place of an item that a number names, counted from 0.
abbrev pub place_of : ℤ → Option ℕ
place_of (pos i) = Some i
place_of (negsuc i) = None
