-- What the newest incarnation of a front has said where the answers that it had are those of its map. Source: the articles on input
-- and output gates.
use Rattle.std.specs.Prelude.{◌≡◌, ℕ, List, [], ◌++◌}
use Rattle.storage_map.specs.Contents.{Contents}
use Rattle.timeline.specs.Intake.{Kind, Front, life, serves, Taken, front_after}
use Rattle.timeline.specs.Laws.{front_at, AreTheMaps}
use Rattle.timeline.specs.Object.{State, idle, begun}
use Rattle.timeline.specs.Told.{asking, written}
use Rattle.timeline.specs.declared.entry.Body.{Body}

-- It begins to serve: these were said before, and it starts from this map.
abbrev pub begins_at : ℕ → List Body → Contents → Front
begins_at incarnation before start = front_at incarnation [] before (idle (begun start.alarm))

-- What was said before writes nothing. Since then it has taken these, their answers being those of the map after all that was said
-- before the entry that was waited for; it has told so much, and the entry that it waits for.
pub record Tells (k : Kind) (start : Contents) (before : List Body) (f : Front) : Type 0 where
  pub silent : (m : Contents) → written m before ≡ m
  pub state : State
  pub mode : f.mode ≡ serves state
  pub taken : List Taken
  pub at : front_after k (begins_at f.incarnation before start) taken ≡ f
  pub told : List Body
  pub said : f.said ≡ before ++ told ++ asking state
  pub goes : (more : List Taken) → AreTheMaps (life k f.incarnation) (written start told) state more
      → AreTheMaps (life k f.incarnation) start (idle (begun start.alarm)) (taken ++ more)
