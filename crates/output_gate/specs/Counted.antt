-- The counts of the disk's faults that a log keeps.
use Rattle.std.specs.Prelude.{ℕ, suc, ◌≤◌, List, [], ◌∷◌, ◌++◌, length, map}
use Rattle.std.specs.List.{All}
use Rattle.do_disk.specs.Disk.{HasRisen}
use Rattle.timeline.specs.Headline.{missed_of}
use Rattle.timeline.specs.Logs.{Backed}
use Rattle.timeline.specs.declared.back_log.Missed.{Missed}
use Rattle.timeline.specs.declared.back_log.Stop.{Stop}
use Rattle.timeline.specs.declared.caller.Cause.{Cause}
use Rattle.timeline.specs.declared.caller.Cause.TheVariants as cause

-- The disk's count before a call and after it: of an end by the disk, and of each mounting that failed to begin an incarnation.
abbrev pub stop_counts : Cause → List (ℕ × ℕ)
stop_counts (cause.Disk before after) = (before, after) ∷ []
stop_counts _ = []

abbrev pub missed_counts : Missed → ℕ × ℕ
missed_counts m = (m.before, m.after)

-- The ends from a number on, each in front of the mountings that failed behind it.
abbrev pub counts_from : ℕ → List Stop → List Missed → List (ℕ × ℕ)
counts_from number [] downs = []
counts_from number (stop ∷ stops) downs = stop_counts stop.cause ++ map missed_counts (missed_of (suc number) downs) ++ counts_from (suc number) stops downs

abbrev pub counts_in : Backed → List (ℕ × ℕ)
counts_in back = counts_from 1 back.stops back.downs

-- Each count before is at least the count after that stands in front of it, and the last count after is at most the disk's.
abbrev pub AreRising : ℕ → List (ℕ × ℕ) → ℕ → Type 0
AreRising from [] now = from ≤ now
AreRising from (counts ∷ later) now = (from ≤ counts.0) × AreRising counts.1 later now

-- the count rose meanwhile, or stands at u64's greatest value
abbrev pub HasRisenIn : ℕ × ℕ → Type 0
HasRisenIn counts = HasRisen counts.0 counts.1

-- A mounting that failed is of an incarnation behind an end: of the second at least, and of the one behind the last end at most.
pub record IsBehindEnd (ends : ℕ) (m : Missed) : Type 0 where
  pub second : 2 ≤ m.incarnation
  pub within : m.incarnation ≤ suc ends

-- Each mounting that failed is counted behind its end, and over a disk that tells its content the count rose each time.
pub record AreCounted (tells : Type 0) (back : Backed) (now : ℕ) : Type 0 where
  pub begun : All (IsBehindEnd (length back.stops)) back.downs
  pub rising : AreRising 0 (counts_in back) now
  pub rose : tells → All HasRisenIn (counts_in back)
