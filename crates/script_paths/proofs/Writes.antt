-- How writes go on once their place is found.
use Rattle.std.proofs.Common.{◌≡◌, ℤ, false, List, Option, Some, None, Result, Ok, Err, refl, ap, ◌∙◌}
use Rattle.do_value.specs.Tree.{Tree}
use Rattle.do_value.specs.declared.operator.BinOp.{BinOp}
use Rattle.do_tree.specs.Tree as tree
use Rattle.script_mean.specs.Answers.{threw}
use Rattle.script_mean.specs.Calls.{Calls}
use Rattle.script_mean.specs.Frames.{to_update}
use Rattle.script_mean.specs.Meaning.{value, updated, moved_by}
use Rattle.script_mean.specs.Places.{Root, variable, own, Step, root_value, place_value, value_bound, part_at, put, write, moved, ◌then◌}
use Rattle.script_mean.specs.Task as task
use Rattle.script_mean.specs.Task.{Bound, Env, Fields}
use Rattle.script_mean.specs.Turn.{Run, Next, State, ends, of, on_value, bound, ◌>>=◌}
use Rattle.script_paths.specs.Standing.{or_nowhere, root_in, place_in}
use Rattle.script_steps.specs.Seen.{framed}
use Rattle.script_vars.specs.Seen.{value_of}

-- A name gives its value, or none.
bound_is : (b : Option Bound) → value_bound b ≡ of (or_nowhere (value_of b))
bound_is None = refl
bound_is (Some (task.value v)) = refl
bound_is (Some task.handle) = refl
bound_is (Some task.context) = refl
bound_is (Some task.environment) = refl

-- What a place begins with gives what it has.
root_is : (root : Root) (env : Env) (next : Next) (st : State) → root_value root env next st ≡ of (root_in env st.fields root) env next st
root_is (variable name) env next st = ap (λ (r : Run). r env next st) (bound_is (bound name env))
root_is (own name) env next st = refl

-- Two answers after each other are one.
then_is : (r : Result Tree Tree) (f : Tree → Result Tree Tree) (part : Tree → Run) (env : Env) (next : Next) (st : State)
    → of r env (on_value (λ v. of (f v) >>= part) next) st ≡ of (r then f) env (on_value part next) st
then_is (Ok v) f part env next st = refl
then_is (Err e) f part env next st = refl

-- The same where nothing follows.
part_is : (r : Result Tree Tree) (f : Tree → Result Tree Tree) (env : Env) (next : Next) (st : State)
    → of r env (on_value (λ v. of (f v)) next) st ≡ of (r then f) env next st
part_is (Ok v) f env next st = refl
part_is (Err e) f env next st = refl

-- A place gives what it has.
place_is : (root : Root) (ss : List Step) (env : Env) (next : Next) (st : State) → place_value root ss env next st ≡ of (place_in env st.fields root ss) env next st
place_is root ss env next st = root_is root env (on_value (λ v. of (part_at ss v)) next) st ∙ part_is (root_in env st.fields root) (part_at ss) env next st

-- The same with these fields and this answer.
place_gives : (root : Root) (ss : List Step) (ps : Fields) (r : Result Tree Tree) (env : Env) (next : Next) (st : State)
    → st.fields ≡ ps → place_in env ps root ss ≡ r → place_value root ss env next st ≡ of r env next st
place_gives root ss ps r env next st e f = place_is root ss env next st ∙ ap (λ z. of (place_in env z root ss) env next st) e ∙ ap (λ z. of z env next st) f

module _ (calls : Calls) (root : Root) (ss : List Step) (ps : Fields) (env : Env) (next : Next) (st : State) where
  -- `+=` and `-=` go on with their right side once the place is read.
  pub update_reads : (o : BinOp) (right : tree.Expr) (old : Tree) → st.fields ≡ ps → place_in env ps root ss ≡ Ok old
      → updated root ss o (value false calls right) env next st ≡ framed calls (to_update root ss o old) (value false calls right) env next st
  update_reads o right old e f = place_gives root ss ps (Ok old) env _ st e f

  -- They throw where the place can't be read.
  pub update_throws : (o : BinOp) (right : tree.Expr) (error : Tree) → st.fields ≡ ps → place_in env ps root ss ≡ Err error
      → updated root ss o (value false calls right) env next st ≡ ends (threw error) env next st
  update_throws o right error e f = place_gives root ss ps (Err error) env _ st e f

  -- What `++` and `--` make of the place.
  move_is : (n : ℤ) (r : Result Tree Tree) → st.fields ≡ ps → (place_in env ps root ss then moved n) ≡ r
      → moved_by n root ss env next st ≡ of r env (on_value (λ new. write root ss (put new)) next) st
  move_is n r e f =
      place_gives root ss ps (place_in env ps root ss) env (on_value (λ old. of (moved n old) >>= (λ new. write root ss (put new))) next) st e refl
      ∙ then_is (place_in env ps root ss) (moved n) (λ new. write root ss (put new)) env next st
      ∙ ap (λ z. of z env (on_value (λ new. write root ss (put new)) next) st) f

  -- `++` and `--` write the number that comes next.
  pub move_writes : (n : ℤ) (new : Tree) → st.fields ≡ ps → (place_in env ps root ss then moved n) ≡ Ok new
      → moved_by n root ss env next st ≡ write root ss (put new) env next st
  move_writes n new e f = move_is n (Ok new) e f

  -- They throw where there is none.
  pub move_throws : (n : ℤ) (error : Tree) → st.fields ≡ ps → (place_in env ps root ss then moved n) ≡ Err error
      → moved_by n root ss env next st ≡ ends (threw error) env next st
  move_throws n error e f = move_is n (Err error) e f
