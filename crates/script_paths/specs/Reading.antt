-- Parts of a script that read the variables or the fields of the object itself as they are unfolded.
use Rattle.std.specs.Prelude.{◌≡◌, false}
use Rattle.do_tree.specs.Tree.{Expr}
use Rattle.do_value.specs.Tree.{Tree}
use Rattle.script_mean.specs.Answers.{gave}
use Rattle.script_mean.specs.Calls.{Calls}
use Rattle.script_mean.specs.Meaning.{value}
use Rattle.script_mean.specs.Task.{Env, Fields}
use Rattle.script_mean.specs.Turn.{Run, Next, State, ends}
use Rattle.script_steps.specs.Seen.{charged, move_run}
use Rattle.script_steps.specs.declared.focus.Move.{Move}

-- With these variables the part is the move.
abbrev pub UnfoldsIn : Env → (Calls → Run) → Move → Type 0
UnfoldsIn env part m = (calls : Calls) (next : Next) (st : State) → part calls env next st ≡ move_run calls m env next st

-- With these fields the part is the move, whatever the variables are.
abbrev pub UnfoldsOn : Fields → (Calls → Run) → Move → Type 0
UnfoldsOn fields part m = (calls : Calls) (env : Env) (next : Next) (st : State) → st.fields ≡ fields → part calls env next st ≡ move_run calls m env next st

-- With these variables and these fields the part is the move.
abbrev pub UnfoldsWith : Env → Fields → (Calls → Run) → Move → Type 0
UnfoldsWith env fields part m = (calls : Calls) (next : Next) (st : State) → st.fields ≡ fields → part calls env next st ≡ move_run calls m env next st

-- With these variables the expression gives this value once its step is charged.
abbrev pub GivesIn : Env → Expr → Tree → Type 0
GivesIn env e v = (calls : Calls) (next : Next) (st : State) → value false calls e env next st ≡ charged 1 (ends (gave v)) env next st
