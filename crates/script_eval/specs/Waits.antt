-- That a read through a transaction finds one has at most one proof.
use Rattle.std.specs.Prelude.{List, Option, Some, None}
use Rattle.std.specs.Coded.{Unit-prop}
use Rattle.storage_map.specs.declared.op.Op.{Op}
use Rattle.script_mean.specs.Task as task
use Rattle.script_mean.specs.Task.{Wait}
use Rattle.script_state.specs.Ends.{IsMade, IsOpenFor}

-- There is a transaction that wasn't rolled back.
made_prop : (made : Option (Option (List Op))) → IsProp (IsMade made)
made_prop (Some (Some ops)) = Unit-prop
made_prop (Some None) = λ x y. absurd x
made_prop None = λ x y. absurd x

-- A wait that reads through it finds it.
pub open_prop : (w : Wait) (made : Option (Option (List Op))) → IsProp (IsOpenFor w made)
open_prop task.reads made = Unit-prop
open_prop (task.views ops a) made = made_prop made
open_prop (task.finds ops a) made = made_prop made
open_prop (task.completes tail c) made = Unit-prop
open_prop task.syncs made = Unit-prop
open_prop task.outside made = Unit-prop
