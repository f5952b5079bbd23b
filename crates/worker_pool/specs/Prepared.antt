-- What a run takes memory for before its halves are moved.
use Rattle.std.specs.Prelude.{◌≡◌, ◌≤◌, ℕ, [], length}
use Rattle.std.specs.List.{All}
use Rattle.std.specs.Vec.{vec_capacity}
use Rattle.worker_pool.specs.Making.{AreNewEnds, HasRoom, IsEmpty}
use Rattle.worker_pool.specs.declared.running.Prepared.{Prepared}

-- The lanes of the lines and of so many slots, through which nothing went, and room for the slots' cells and for what is left of each.
pub record IsPrepared {D T : Type 0} (slots : ℕ) (p : Prepared D T) : Type 0 where
  pub lines : (p.send.lane ≡ p.take.lane) × (p.send.sent ≡ []) × (p.take.got ≡ [])
  pub ends : (length p.ends.items ≡ slots) × All AreNewEnds p.ends.items
  pub made : IsEmpty p.made × HasRoom slots p.made
  pub cores : (p.room.cores.items ≡ []) × (slots ≤ vec_capacity p.room.cores)
  pub apart : (p.room.apart.items ≡ []) × (slots ≤ vec_capacity p.room.apart)
