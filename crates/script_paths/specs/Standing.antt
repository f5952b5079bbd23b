-- What places have as they stand.
use Rattle.std.specs.Prelude.{List, Option, Some, None, Result, Ok, Err}
use Rattle.do_value.specs.Keyed.{value_at}
use Rattle.do_value.specs.Tree.{Tree, undefined}
use Rattle.script_mean.specs.Places.{Root, variable, own, Step, part_at, or_undefined, ◌then◌}
use Rattle.script_mean.specs.Task.{Env, Fields}
use Rattle.script_mean.specs.Turn.{bound}
use Rattle.script_vars.specs.Seen.{value_of}

-- A value that a checked script has.
abbrev pub or_nowhere : Option Tree → Result Tree Tree
or_nowhere None = Err undefined
or_nowhere (Some v) = Ok v

-- What a place begins with, where these are the variables and the fields of the object itself.
abbrev pub root_in : Env → Fields → Root → Result Tree Tree
root_in env ps (variable name) = or_nowhere (value_of (bound name env))
root_in env ps (own name) = Ok (or_undefined (value_at name ps))

-- What the place has, or what is thrown where it can't be read.
abbrev pub place_in : Env → Fields → Root → List Step → Result Tree Tree
place_in env ps root ss = root_in env ps root then part_at ss
