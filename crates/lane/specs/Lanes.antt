-- What a clause sees of a lane: a queue without a bound that has one end which sends and one which takes.
use Rattle.std.specs.Prelude.{◌≡◌, List, ◌++◌}
use Rattle.std.specs.declared.alloc.Global.{Global}
use Rattle.crossbeam_queue.specs.SegTies.{SegId}

-- Which lane it is.
abbrev pub LaneId : Type 0
LaneId = SegId Global

-- The lane of a queue of one thread: it has no other end.
abbrev pub nowhere : LaneId
nowhere = record { web = (0, 0); heap = record { memory = record { seal = tt } } }

-- The list begins with these, and may be no longer.
abbrev pub StartsWith : {T : Type 0} → List T → List T → Type 0
StartsWith {T} list first = (rest : List T) × (list ≡ first ++ rest)

-- A queue of one thread: what was taken from it, and what waits, oldest first.
pub record Both (T : Type 0) : Type 0 where
  pub got : List T
  pub waiting : List T

-- What was sent on it.
abbrev pub sent_on : {T : Type 0} → Both T → List T
sent_on queue = queue.got ++ queue.waiting

-- The end that sends: which lane it is of, and what was sent.
pub record Sending (T : Type 0) : Type 0 where
  pub lane : LaneId
  pub sent : List T

-- The end that takes: which lane it is of, what it was told was sent, and what was taken.
pub record Taking (T : Type 0) : Type 0 where
  pub lane : LaneId
  pub told : List T
  pub got : List T
