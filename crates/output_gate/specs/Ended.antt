-- What a log shows of the incarnations that have ended, whatever the disk tells.
use Rattle.std.specs.Prelude.{◌≡◌, ℕ, suc, ◌+◌, ◌-◌, ◌<◌, ◌≤◌, nat_lt, Bool, true, false, List, [], ◌∷◌, ◌++◌, length, map, sum, slice_get, Option, Some, None}
use Rattle.std.specs.List.{All, Contains}
use Rattle.timeline.specs.Headline.{KeepBy}
use Rattle.timeline.specs.History.{Incarnation, History, batches_in, durable, kept_before, said_in}
use Rattle.timeline.specs.Logs.{Fronted, Backed}
use Rattle.timeline.specs.Passed.{discards, durable_at, is_mounted, reaches}
use Rattle.timeline.specs.declared.back_log.End.{End}
use Rattle.timeline.specs.declared.back_log.Stop.{Stop}
use Rattle.timeline.specs.declared.caller.Cause.{Cause}
use Rattle.timeline.specs.declared.entry.Entry.{Entry}
use Rattle.output_gate.specs.Fits.{IsAsk, is_halt, last_of}
use Rattle.output_gate.specs.Gate.{Place, place_of}
use Rattle.output_gate.specs.Standing.{own_flights, older_of}
use Rattle.output_gate.specs.declared.back.Ending.{Ending}

-- the incarnation of the last entry, and whether that is a halt
abbrev pub newest_as : Option Entry → ℕ
newest_as None = 0
newest_as (Some e) = e.incarnation

abbrev pub newest_of : List Entry → ℕ
newest_of entries = newest_as (last_of entries)

abbrev pub halts_as : Option Entry → Bool
halts_as None = false
halts_as (Some e) = is_halt e.body

abbrev pub last_stop : List Stop → Option Stop
last_stop stops = slice_get stops (length stops - 1)

-- Entries are taken in the order of their incarnations, and something was taken of each that has ended. Where the newest end
-- discards nothing, the last entry is the halt, or of the incarnation behind it.
pub record AreInOrder (taken : List Entry) (stops : List Stop) : Type 0 where
  pub numbered : (e : Entry) → last_of taken ≡ Some e → 0 < e.incarnation
  pub sorted : All (λ e. e.incarnation ≤ newest_of taken) taken
  pub newest : length stops ≤ newest_of taken
  pub halted : (stop : Stop) → last_stop stops ≡ Some stop → discards stop.cause stop.read ≡ false → newest_of taken ≡ length stops
      → halts_as (last_of taken) ≡ true

-- What a back keeps beside its log: the batches that were durable at the last end; what a message of the incarnation that ended then needs
-- where such a message still passes; and what the next message of the newest one needs.
pub record Marks : Type 0 where
  pub settled : ℕ
  pub late : Option ℕ
  pub needs : ℕ

-- A message behind an end passes where all that it follows was durable at that end.
abbrev pub late_if : Bool → ℕ → Option ℕ
late_if true needs = None
late_if false needs = Some needs

abbrev pub late_of : Incarnation → History → Option ℕ
late_of i older = let q = reaches 0 0 (said_in i.taken) in late_if (nat_lt (durable i) q) (length (kept_before older) + q)

-- An incarnation has ended: it was mounted, and the batches that its stop counts, and those that were kept, were taken of it. Where
-- messages that come late may not pass, no more were durable than were taken, and fewer at an append; so many were from the opening; and its
-- late messages need so much. Where a read failed its ask was taken.
pub record HasEnded (marks : Marks) (i : Incarnation) (older : History) : Type 0 where
  pub mounted : is_mounted older ≡ true
  pub number : i.number ≡ suc (length older)
  pub stop : Stop
  pub stopped : i.stop ≡ Some stop
  pub within : stop.batches ≤ length (batches_in i.taken)
  pub kept : (kept : ℕ) → i.kept ≡ Some kept → kept ≤ length (batches_in i.taken)
  pub discarded : discards stop.cause stop.read ≡ true → (durable i ≤ length (batches_in i.taken)) × (marks.settled ≡ durable_at (i ∷ older))
      × (marks.late ≡ late_of i older)
  pub lost : discards stop.cause stop.read ≡ true → stop.read ≡ false → durable i < length (batches_in i.taken)
  pub asked : stop.read ≡ true → (e : Entry) × Contains i.taken e × IsAsk e.body

-- the newest of these, where there is one
abbrev pub HaveEnded : Marks → History → Type 0
HaveEnded marks [] = Unit {0}
HaveEnded marks (i ∷ older) = HasEnded marks i older

-- The counters of a back whose newest incarnation is mounted: the batches taken of it, those before its next message, those that are
-- durable, and those that its next message needs.
pub record IsPlaced (marks : Marks) (own before flown : ℕ) (p : Place) : Type 0 where
  pub counted : own + flown ≡ sum p.flights + before
  pub known : flown ≡ length (kept_before p.older) + sum p.flights
  pub reach : marks.needs ≡ length (kept_before p.older) + reaches 0 0 (said_in p.taken)
  pub ended : HaveEnded marks p.older

-- why incarnations have ended, and why those of them that were followed
abbrev pub stop_causes : List Stop → List Cause
stop_causes stops = map (λ stop. stop.cause) stops

abbrev pub end_causes : List End → List Cause
end_causes ends = map (λ end. end.cause) ends

-- While the newest incarnation is mounted each that has ended was followed.
pub record IsLogged (tells : Type 0) (back : Backed) (marks : Marks) (own before flown : ℕ) : Type 0 where
  pub ordered : AreInOrder back.taken back.stops
  pub followed : end_causes back.ends ≡ stop_causes back.stops
  pub placed : (front : Fronted) → IsPlaced marks own before flown (place_of front back)
  pub keep : tells → (front : Fronted) → KeepBy (older_of front back)

-- The newest of these has ended at an append and isn't followed yet: what is known of the end is what its stop says.
pub record IsEnding (ending : Ending) (marks : Marks) (i : Incarnation) (older : History) : Type 0 where
  pub ended : HasEnded marks i older
  pub unfollowed : i.kept ≡ None
  pub is_flown : ending.flown ≡ durable i
  pub is_whole : ending.whole ≡ ended.stop.batches
  pub is_cause : ending.cause ≡ ended.stop.cause
  pub unread : ended.stop.read ≡ false
  pub discards_some : discards ended.stop.cause false ≡ true

abbrev pub AreEnding : Ending → Marks → History → Type 0
AreEnding ending marks [] = ⊥
AreEnding ending marks (i ∷ older) = IsEnding ending marks i older

pub record IsLoggedDown (tells : Type 0) (back : Backed) (ending : Ending) (marks : Marks) (flown : ℕ) : Type 0 where
  pub ordered : AreInOrder back.taken back.stops
  pub followed : end_causes back.ends ++ ending.cause ∷ [] ≡ stop_causes back.stops
  pub even : marks.settled ≡ flown
  pub idle : own_flights back ≡ []
  pub ended : (front : Fronted) → AreEnding ending marks (older_of front back)
  pub keep : tells → (front : Fronted) → KeepBy (older_of front back)
