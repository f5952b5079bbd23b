-- How the blocks of an object's tasks stand between its inputs: only the task that waits under the newest number may have its block
-- open, so that answers under that number alone may enter. After the documentation of `blockConcurrencyWhile`.
use Rattle.std.specs.Prelude.{◌≡◌, ◌⊎◌, ◌<◌, ◌≤◌, ℕ, true, false, List, [], ◌∷◌, Option, None}
use Rattle.timeline.specs.Intake.{Mode, serves, down}
use Rattle.timeline.specs.Object.{Object, OpenTask, State, idle, waiting, ended, is_blocked}

-- The tasks wait under numbers that ascend from past the first of these to the newest, under which alone a block may be open.
abbrev pub AreGated : (past newest : ℕ) → List OpenTask → Type 0
AreGated past newest [] = Unit {0}
AreGated past newest (t ∷ ts) = (past < t.number) × (t.number ≤ newest) × (t.block ≡ true → t.number ≡ newest) × AreGated t.number newest ts

-- So do those of an object whose class has this constructor, or none; and an event waits for the constructor only until that has run.
pub record IsGated (constructor : Option ℕ) (o : Object) : Type 0 where
  pub tasks : AreGated 0 o.made o.tasks
  pub parked : (o.started ≡ true) ⊎ (constructor ≡ None) → o.parked ≡ None

-- While a task waits for the storage, no other one has its block open.
abbrev pub IsGatedState : (constructor : Option ℕ) → State → Type 0
IsGatedState constructor (idle o) = IsGated constructor o
IsGatedState constructor (waiting o t b) = IsGated constructor o × (is_blocked o ≡ false)
IsGatedState constructor (ended cause) = Unit {0}

abbrev pub IsGatedMode : (constructor : Option ℕ) → Mode → Type 0
IsGatedMode constructor (serves st) = IsGatedState constructor st
IsGatedMode constructor (down call) = Unit {0}
