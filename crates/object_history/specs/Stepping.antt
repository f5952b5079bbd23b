-- What a step of either half does, as far as the other half and the history are concerned.
use Rattle.std.specs.Prelude.{◌≡◌, ◌≢◌, ◌⊎◌, ℕ, suc, ◌<◌, ◌≤◌, nat_le, Bool, true, false, List, [], ◌∷◌, ◌++◌, length, Some, option_to_list}
use Rattle.std.specs.List.{All, filter}
use Rattle.storage_map.specs.Contents.{Contents}
use Rattle.storage_map.specs.declared.ask.StoreAsk.{StoreAsk}
use Rattle.timeline.specs.History.{Incarnation, History, entries_of, incarnations, history, is_halting, batches_in, start_after, said_in}
use Rattle.timeline.specs.Intake.{Kind, Front, Mode, serves, Taken, noticed, wanted, takes, numbered, delivered_by, downed_by, ends_by, sent_by, delivered_in, downed_in, ends_in}
use Rattle.timeline.specs.Logs.{Fronted, Backed}
use Rattle.timeline.specs.Told.{written}
use Rattle.timeline.specs.declared.back_log.End.{End}
use Rattle.timeline.specs.declared.back_log.Release.{Release}
use Rattle.timeline.specs.declared.back_log.Stop.{Stop}
use Rattle.timeline.specs.declared.caller.Cause.{Cause}
use Rattle.timeline.specs.declared.caller.Cause.TheVariants as cause
use Rattle.timeline.specs.declared.entry.Body.{Body}
use Rattle.timeline.specs.declared.entry.Body.TheVariants as body
use Rattle.timeline.specs.declared.entry.Entry.{Entry}
use Rattle.timeline.specs.declared.notice.Notice.{Notice}
use Rattle.timeline.specs.declared.notice.Notice.TheVariants as notice
use Rattle.output_gate.specs.Standing.{AreLogs}
use Rattle.output_gate.specs.Fits.{fits_down}
use Rattle.output_gate.specs.Taking.{notice_of}
use Rattle.object_history.specs.Pair as pair
use Rattle.object_history.specs.Pair.{Hold, sync, halt, Held, Stand, mounted, fallen, Rear, newest, IsCall}

-- What a front logs when it takes one item more.
pub record IsLogOf (k : Kind) (from : Front) (taken : List Taken) (log : Fronted) : Type 0 where
  pub sent : log.sent ≡ sent_by k from taken
  pub delivered : log.delivered ≡ delivered_in k from taken
  pub downed : log.downed ≡ downed_in k from taken
  pub ends : log.ends ≡ ends_in k from taken

-- What was said before in the incarnation in which the front then is.
abbrev pub said_before : Front → Mode → Taken → List Body
said_before f (serves state) (noticed (notice.Fresh incarnation alarm cause)) = []
said_before f (serves state) (noticed (notice.Down cause before after)) = []
said_before f m t = f.said

pub record Grows (k : Kind) (f : Front) (t : Taken) (old new : Fronted) : Type 0 where
  pub more : List Body
  pub said : (takes k f t).said ≡ said_before f f.mode t ++ more
  pub sent : new.sent ≡ old.sent ++ numbered (takes k f t).incarnation (suc (length (said_before f f.mode t))) more
  pub delivered : new.delivered ≡ old.delivered ++ delivered_by f.incarnation t
  pub downed : new.downed ≡ old.downed ++ downed_by f.incarnation f.mode t
  pub ends : new.ends ≡ old.ends ++ ends_by f.mode t

-- The first notice under way is taken with a notice, and none else.
abbrev pub notices_with : Taken → List Notice → List Notice
notices_with (noticed n) rest = n ∷ rest
notices_with t rest = rest

-- A call asks for a mounting, and nothing else does.
abbrev pub WantsCall : Taken → Type 0
WantsCall (wanted e) = IsCall e
WantsCall t = Unit {0}

-- As many incarnations have been followed as have stopped, while the newest is mounted; else one less.
abbrev pub IsFollowed : Stand → Backed → Type 0
IsFollowed mounted back = length back.ends ≡ length back.stops
IsFollowed stand back = suc (length back.ends) ≡ length back.stops

-- The map that is due of a log: what its newest incarnation has written, on the map with which it started.
abbrev pub IsMapOf : (opened : Contents) → Backed → Contents → Type 0
IsMapOf opened back m = (front : Fronted) (i : Incarnation) (older : History) → history front back ≡ i ∷ older
    → m ≡ written (start_after opened older) (said_in i.taken)

-- What is known of a back that is seen with the map that is due: its log's lists fit, and mountings failed of incarnations that have
-- begun alone; what isn't durable are batches of the newest incarnation; and what was kept of the one before was taken of it.
pub record IsRear (opened : Contents) (rear : Rear) : Type 0 where
  pub logs : AreLogs rear.log
  pub followed : IsFollowed rear.stand rear.log
  pub begun : All (λ m. m.incarnation ≤ newest rear.log) rear.log.downs
  pub map : IsMapOf opened rear.log rear.map
  pub owns : rear.durable < rear.before → batches_in (entries_of (newest rear.log) rear.log.taken) ≢ []
  pub kept : (front : Fronted) (i : Incarnation) (older : History) (count : ℕ) → incarnations front rear.log (length rear.log.stops) ≡ i ∷ older
      → i.kept ≡ Some count → count ≤ length (batches_in i.taken)

-- What is held for the front of an entry of the newest incarnation.
abbrev pub holds : ℕ → ℕ → Body → List Held
holds number before body.Sync = record { hold = sync number; needs = before } ∷ []
holds number before (body.Halt c) = record { hold = halt c; needs = before } ∷ []
holds number before _ = []

-- No end is held: behind one nothing of its incarnation is taken.
abbrev pub is_end : Hold → Bool
is_end (sync number) = false
is_end (halt c) = true

abbrev pub IsUnended : List Held → Type 0
IsUnended held = All (λ h. is_end h.hold ≡ false) held

-- the batches before what comes behind an entry
abbrev pub before_next : ℕ → Body → ℕ
before_next before (body.Batch ops tail confirmed) = suc before
before_next before _ = before

-- how a back that is down stands after an entry
abbrev pub stands_after : Cause → Body → Stand
stands_after c body.Mend = pair.wanted c
stands_after c _ = fallen c

abbrev pub with_entry : Rear → Entry → Backed
with_entry r e = record r.log { taken = r.log.taken ++ e ∷ [] }

-- A step of a back, the entry that it takes off the line, and what it tells its front. With what map it is seen then is no matter but at a
-- halt and at a mounting, of which the alarm is told. Where a read of the disk fails, the ask is taken and isn't answered, and the end of the
-- incarnation by that is held behind what was taken before it.
pub data BackSteps (r : Rear) : Rear → List Entry → List Notice → Type 0 where
  takes_own : (e : Entry) (map : Contents) → r.stand ≡ mounted → e.incarnation ≡ newest r.log → IsUnended r.held
      → BackSteps r (record r {
        log = with_entry r e;
        held = r.held ++ holds e.number r.before e.body;
        before = before_next r.before e.body;
        map = map;
      }) (e ∷ [])
      (option_to_list (notice_of e.number r.map e.body))
  read_fails : (e : Entry) (a : StoreAsk) (free : Bool) (counts_before counts_after : ℕ) (map : Contents) → r.stand ≡ mounted → e.incarnation ≡ newest r.log
      → IsUnended r.held → e.body ≡ body.Ask a free
      → BackSteps r (record r {
        log = with_entry r e;
        held = r.held ++ record { hold = halt (cause.Disk counts_before counts_after); needs = r.before } ∷ [];
        map = map;
      }) (e ∷ []) []
  takes_down : (e : Entry) (c : Cause) (map : Contents) → r.stand ≡ fallen c → e.incarnation ≡ newest r.log → fits_down e.body ≡ true
      → BackSteps r (record r { log = with_entry r e; stand = stands_after c e.body; map = map }) (e ∷ []) []
  takes_late : (e : Entry) (map : Contents) → suc e.incarnation ≡ newest r.log → BackSteps r (record r { log = with_entry r e; map = map }) (e ∷ []) []
  flies : (count : ℕ) (map : Contents)
      → BackSteps r (record r { log = record r.log { flights = r.log.flights ++ count ∷ [] }; durable = r.before; map = map }) [] []
  stops : (stop : Stop) (held : List Held) (map : Contents) → r.stand ≡ mounted → r.durable < r.before → stop.flights ≡ length r.log.flights
      → is_halting stop.cause ≡ false → held ≡ filter (λ h. nat_le h.needs r.durable) r.held
      → BackSteps r (record r {
        log = record r.log { stops = r.log.stops ++ stop ∷ [] };
        stand = pair.wanted stop.cause;
        held = held;
        before = r.durable;
        map = map;
      }) [] []
  sends : (release : Release) (map : Contents)
      → BackSteps r (record r { log = record r.log { released = r.log.released ++ release ∷ [] }; map = map }) [] []
  syncs : (number needs : ℕ) (rest : List Held) (map : Contents) → r.held ≡ record { hold = sync number; needs = needs } ∷ rest
      → BackSteps r (record r { held = rest; map = map }) [] (notice.Synced number ∷ [])
  halts : (c : Cause) (needs : ℕ) (rest : List Held) (stop : Stop) (end : End) (map : Contents) → r.held ≡ record { hold = halt c; needs = needs } ∷ rest
      → r.stand ≡ mounted → stop.flights ≡ length r.log.flights → stop.cause ≡ c
      → BackSteps r (record r { log = record r.log { stops = r.log.stops ++ stop ∷ []; ends = r.log.ends ++ end ∷ [] }; held = rest; map = map }) []
      (notice.Fresh (suc (newest r.log)) map.alarm c ∷ [])
  begins : (c : Cause) (end : End) (before : ℕ) (map : Contents) → r.stand ≡ pair.wanted c
      → BackSteps r (record r { log = record r.log { ends = r.log.ends ++ end ∷ [] }; stand = mounted; before = before; durable = before; map = map }) []
      (notice.Fresh (newest r.log) map.alarm c ∷ [])
  misses : (c : Cause) (counts_before counts_after : ℕ) (map : Contents) → r.stand ≡ pair.wanted c
      → BackSteps r (record r {
        log = record r.log {
          downs = r.log.downs ++ record { incarnation = newest r.log; before = counts_before; after = counts_after } ∷ [];
        };
        stand = fallen c;
        map = map;
      }) []
      (notice.Down c counts_before counts_after ∷ [])

-- A notice is given, or lost for want of memory.
abbrev pub AreGiven : (told given : List Notice) → Type 0
AreGiven told given = (given ≡ told) ⊎ (given ≡ [])
