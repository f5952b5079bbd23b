-- What the variables mean: the blocks that they are, and what happens to one whose value is taken.
use Rattle.std.specs.Prelude.{ℕ, List, map, reverse, Option, Some, None}
use Rattle.do_value.specs.Tree.{Tree, undefined}
use Rattle.do_value.specs.Seen.{tree_of}
use Rattle.do_value.specs.declared.value.Value.TheVariants.{Undefined}
use Rattle.script_mean.specs.Task as task
use Rattle.script_mean.specs.Task.{Scope, Env}
use Rattle.script_mean.specs.Turn.{bound, rebound}
use Rattle.script_vars.specs.declared.bound.Bound.{Bound}
use Rattle.script_vars.specs.declared.bound.Bound.TheVariants.{Value, Handle, Context, Environment}

-- What a name stands for, the value with all its parts.
abbrev pub bound_of : Bound → task.Bound
bound_of (Value v) = task.value (tree_of v)
bound_of Handle = task.handle
bound_of Context = task.context
bound_of Environment = task.environment

-- The names of a block that is kept the latest last: the latest first.
abbrev pub named : List ℕ × Bound → List ℕ × task.Bound
named p = (p.0, bound_of p.1)

abbrev pub scope_of : List (List ℕ × Bound) → Scope
scope_of names = map named (reverse names)

-- The blocks that are kept the innermost last: the innermost first.
abbrev pub env_of : List (List (List ℕ × Bound)) → Env
env_of blocks = map scope_of (reverse blocks)

-- The value that a name stands for, if it stands for one.
abbrev pub value_in : task.Bound → Option Tree
value_in (task.value v) = Some v
value_in task.handle = None
value_in task.context = None
value_in task.environment = None

abbrev pub value_of : Option task.Bound → Option Tree
value_of None = None
value_of (Some b) = value_in b

-- A variable whose value is taken is `undefined`; what isn't a variable stays.
abbrev pub emptied : Bound → Bound
emptied (Value v) = Value Undefined
emptied Handle = Handle
emptied Context = Context
emptied Environment = Environment

-- The variables once the value of one of them is taken, if it has one.
abbrev pub emptied_where : Option Tree → List ℕ → Env → Env
emptied_where None name env = env
emptied_where (Some v) name env = rebound name undefined env

abbrev pub emptied_in : List ℕ → Env → Env
emptied_in name env = emptied_where (value_of (bound name env)) name env
