-- The two halves of one object, tied by their lanes: what stands between what the front has taken and said, and what the back has
-- taken and answered. Source: the articles on input and output gates; how incarnations follow one another is this project's profile.
use Rattle.std.specs.Prelude.{◌≡◌, ◌≢◌, ◌⊎◌, ℕ, suc, ◌<◌, ◌≤◌, Bool, true, false, List, [], ◌∷◌, ◌++◌, length, map, drop, take, slice_get, Option, Some, None, IfSome}
use Rattle.std.specs.List.{All, Contains}
use Rattle.storage_map.specs.Contents.{Contents}
use Rattle.storage_map.specs.Readings.{reading}
use Rattle.storage_map.specs.declared.ask.StoreAsk.{StoreAsk}
use Rattle.timeline.specs.Headline.{AreHalted, AreSaid, down_said, missed_of}
use Rattle.timeline.specs.History.{History, of_number, entries_of, incarnations, is_halting, start_after, resets, said_in}
use Rattle.timeline.specs.Intake.{Kind, Front, Mode, serves, down, FitsNotice, answer_in, numbered}
use Rattle.timeline.specs.Logs.{Fronted, Backed}
use Rattle.timeline.specs.Object.{Object, OpenTask, State, idle, waiting, ended}
use Rattle.timeline.specs.Passed.{is_mend, is_said_down}
use Rattle.timeline.specs.Told.{spoken_in, stored_answer, written}
use Rattle.timeline.specs.declared.back_log.Missed.{Missed}
use Rattle.timeline.specs.declared.back_log.Stop.{Stop}
use Rattle.timeline.specs.declared.caller.Cause.{Cause}
use Rattle.timeline.specs.declared.caller.Cause.TheVariants as cause
use Rattle.timeline.specs.declared.entry.Body.{Body}
use Rattle.timeline.specs.declared.entry.Body.TheVariants as body
use Rattle.timeline.specs.declared.entry.Entry.{Entry}
use Rattle.timeline.specs.declared.event.Event.{Event}
use Rattle.timeline.specs.declared.event.Event.TheVariants as event
use Rattle.timeline.specs.declared.notice.Notice.{Notice}
use Rattle.timeline.specs.declared.notice.Notice.TheVariants as notice
use Rattle.object_history.specs.Saying.{ArePlain, IsGated}
use Rattle.object_history.specs.Telling.{Tells}

-- What a back holds for its front: the answer to a sync, or the end by a halt, also by one of its own where a read failed; and the batches that
-- it needs, from the opening.
pub data Hold : Type 0 where
  sync : ℕ → Hold
  halt : Cause → Hold

pub record Held : Type 0 where
  pub hold : Hold
  pub needs : ℕ

-- How a back stands: its newest incarnation is mounted; or it isn't, since the one before ended by this cause, and a mounting is
-- wanted, or none is asked for.
pub data Stand : Type 0 where
  mounted : Stand
  wanted : Cause → Stand
  fallen : Cause → Stand

-- What the front's side sees of a back: its log, how it stands, what it holds for the front, the batches that were taken and those
-- that are durable, from the opening, and its map.
pub record Rear : Type 0 where
  pub log : Backed
  pub stand : Stand
  pub held : List Held
  pub before : ℕ
  pub durable : ℕ
  pub map : Contents

-- The newest incarnation of a back is one more than have stopped.
abbrev pub newest : Backed → ℕ
newest back = suc (length back.stops)

-- What a front has logged: that of its newest incarnation is the last, and it is all that this one was delivered and has said.
pub record IsLogged (f : Front) (front : Fronted) : Type 0 where
  pub closed : List Entry
  pub closed_before : All (λ e. e.incarnation < f.incarnation) closed
  pub sent : front.sent ≡ closed ++ numbered f.incarnation 1 f.said
  pub gone : List (ℕ × Event)
  pub gone_before : All (λ d. d.0 < f.incarnation) gone
  pub delivered : front.delivered ≡ gone ++ map (λ e. (f.incarnation, e)) f.events
  pub downed_before : All (λ d. d.0 ≤ f.incarnation) front.downed

-- The entry that is the last where the front waits for its back: one that the storage answers, a halt, or a mend.
abbrev pub awaited : Mode → List Body
awaited (serves (idle o)) = []
awaited (serves (waiting o t b)) = b ∷ []
awaited (serves (ended c)) = body.Halt c ∷ []
awaited (down None) = []
awaited (down (Some call)) = body.Mend ∷ []

-- What was sent was taken, but for some at the end: entries of the incarnation before, none of which asks for a mounting, and then those
-- of the newest; of the latter the ones that were taken stand before the others.
pub record IsLine (f : Front) (front : Fronted) (taken line : List Entry) : Type 0 where
  pub sent : front.sent ≡ taken ++ line
  pub read : List Body
  pub unread : List Body
  pub late : List Entry
  pub said : f.said ≡ read ++ unread
  pub is_line : line ≡ late ++ numbered f.incarnation (suc (length read)) unread
  pub lates : All (λ e. suc e.incarnation ≡ f.incarnation) late
  pub first : late ≢ [] → read ≡ []
  pub no_wish : All (λ e. is_mend e.body ≡ false) late
  pub own : entries_of f.incarnation taken ≡ numbered f.incarnation 1 read

-- Nothing is waited for among these, but for what the front waits for, as the last.
pub record IsUnread (m : Mode) (unread : List Body) : Type 0 where
  pub plain : List Body
  pub are_plain : ArePlain plain
  pub is : unread ≡ plain ++ awaited m

-- The notice is the answer of the map that the front's incarnation has written, to the entry that it waits for.
pub record IsAnswer (start : Contents) (f : Front) (n : Notice) : Type 0 where
  pub state : State
  pub mode : f.mode ≡ serves state
  pub fits : FitsNotice f.said state n
  pub first : List Body
  pub asked : Body
  pub said : f.said ≡ first ++ asked ∷ []
  pub answer : answer_in n ≡ stored_answer (written start first) asked ∷ []

-- A reading of an open ask is under way: what the map answers that the front's incarnation had written when it said the ask, with the number of
-- that entry.
pub record IsReading (start : Contents) (f : Front) (n : Notice) : Type 0 where
  pub first : List Body
  pub ask : StoreAsk
  pub after : List Body
  pub said : f.said ≡ first ++ body.Ask ask true ∷ after
  pub is : n ≡ notice.Read (suc (length first)) (reading (written start first) ask)

-- The back may give no further notice: it is mounted, or it is down and no mounting is wanted.
abbrev pub IsSilentAt : Mode → Stand → Type 0
IsSilentAt (serves state) mounted = Unit {0}
IsSilentAt (down (Some call)) mounted = Unit {0}
IsSilentAt (down (Some call)) (fallen c) = Unit {0}
IsSilentAt m stand = ⊥

-- The calls that were answered by `Down` while the front's incarnation wasn't mounted, and the mountings that failed for a call: all
-- but the first.
abbrev pub calls_down : Front → Fronted → List Event
calls_down f front = of_number f.incarnation front.downed

abbrev pub failures : Front → Backed → List Missed
failures f back = drop 1 (missed_of f.incarnation back.downs)

abbrev pub IsCall : Event → Type 0
IsCall (event.Call from method args depth at) = Unit {0}
IsCall e = ⊥

-- The front's incarnation is the back's newest. What the back holds for it, and the notices under way, by what has come of the entry
-- that it waits for: it wasn't taken yet; it was, and is answered; a sync or a halt is held; its read failed, and the end by that is held; a
-- mounting is wanted, was good or failed; or no more is told of it.
pub data Together (start : Contents) (f : Front) (front : Fronted) (back : Backed) (unread : List Body) (before : ℕ)
    : Stand → List Held → List Notice → Type 0 where
  unreached : (state : State) → f.mode ≡ serves state → IsUnread f.mode unread → Together start f front back unread before mounted [] []
  answered : (n : Notice) → IsAnswer start f n → unread ≡ [] → Together start f front back unread before mounted [] (n ∷ [])
  syncs : (o : Object) (t : OpenTask) → f.mode ≡ serves (waiting o t body.Sync) → unread ≡ []
      → Together start f front back unread before mounted (record { hold = sync (length f.said); needs = before } ∷ []) []
  halts : (c : Cause) → f.mode ≡ serves (ended c) → unread ≡ [] → (first : List Body) × (f.said ≡ first ++ body.Halt c ∷ [])
      → Together start f front back unread before mounted (record { hold = halt c; needs = before } ∷ []) []
  read_fails : (o : Object) (t : OpenTask) (a : StoreAsk) (free : Bool) (counts_before counts_after : ℕ) → f.mode ≡ serves (waiting o t (body.Ask a free))
      → unread ≡ []
      → Together start f front back unread before mounted (record { hold = halt (cause.Disk counts_before counts_after); needs = before } ∷ []) []
  falls : (call : Option Event) (c : Cause) → f.mode ≡ down call → IsUnread f.mode unread
      → length (missed_of f.incarnation back.downs) ≡ suc (length (calls_down f front)) → Together start f front back unread before (fallen c) [] []
  wants : (call : Event) (c : Cause) → f.mode ≡ down (Some call) → unread ≡ []
      → length (missed_of f.incarnation back.downs) ≡ suc (length (calls_down f front)) → Together start f front back unread before (wanted c) [] []
  mends : (call : Event) (c : Cause) (i : ℕ) → f.mode ≡ down (Some call) → unread ≡ []
      → Together start f front back unread before mounted [] (notice.Fresh i start.alarm c ∷ [])
  misses : (call : Event) (c again : Cause) (counts_before counts_after : ℕ) (older : List Missed) → f.mode ≡ down (Some call) → unread ≡ []
      → missed_of f.incarnation back.downs ≡ older ++ record { incarnation = f.incarnation; before = counts_before; after = counts_after } ∷ []
      → length older ≡ suc (length (calls_down f front))
      → Together start f front back unread before (fallen c) [] (notice.Down again counts_before counts_after ∷ [])
  silent : (stand : Stand) → unread ≡ [] → IsSilentAt f.mode stand → Together start f front back unread before stand [] []

-- The front's incarnation has ended by this cause, and the front isn't told yet: an answer to it may still be under way, and then the
-- news of the end. Either may be lost for want of memory.
abbrev pub IsNews : (next : Contents) → ℕ → Cause → Stand → List Notice → Type 0
IsNews next number cause mounted notices = (notices ≡ []) ⊎ (notices ≡ notice.Fresh number next.alarm cause ∷ [])
IsNews next number cause (wanted c) notices = (c ≡ cause) × (notices ≡ [])
IsNews next number cause (fallen c) notices =
    (c ≡ cause) × ((notices ≡ []) ⊎ ((before : ℕ) × (after : ℕ) × (notices ≡ notice.Down cause before after ∷ [])))

abbrev pub IsLeftOver : Contents → Front → List Body → List Notice → Type 0
IsLeftOver start f unread notices = (notices ≡ []) ⊎ ((n : Notice) × (notices ≡ n ∷ []) × IsAnswer start f n × (unread ≡ []))

-- one mounting failed where the back is down
abbrev pub fallen_once : Stand → ℕ
fallen_once (fallen c) = 1
fallen_once stand = 0

-- Where a turn has ended it, its object has ended so, and the halt was taken.
abbrev pub HasHalted : Front → Backed → Cause → Type 0
HasHalted f back cause =
    is_halting cause ≡ true → (f.mode ≡ serves (ended cause)) × Contains (said_in (entries_of f.incarnation back.taken)) (body.Halt cause)

pub record Behind (start next : Contents) (below : ℕ) (f : Front) (unread : List Body) (late : List Entry) (rear : Rear) (notices : List Notice) : Type 0 where
  pub state : State
  pub mode : f.mode ≡ serves state
  pub is_unread : IsUnread f.mode unread ⊎ (unread ≡ [])
  pub none_late : late ≡ []
  pub none_held : rear.held ≡ []
  pub stop : Stop
  pub stopped : slice_get rear.log.stops below ≡ Some stop
  pub halted : HasHalted f rear.log stop.cause
  pub left : List Notice
  pub told : List Notice
  pub under_way : notices ≡ left ++ told
  pub left_over : IsLeftOver start f unread left
  pub is_news : IsNews next (suc f.incarnation) stop.cause rear.stand told
  pub fails : length (missed_of (suc f.incarnation) rear.log.downs) ≡ fallen_once rear.stand

-- What was said before an incarnation served: the failures of the calls that the one before it left unanswered, and those of the calls
-- for which it wasn't mounted; and its wishes to be mounted. It writes nothing.
pub record SaysDown (older : History) (f : Front) (front : Fronted) (back : Backed) (bodies : List Body) : Type 0 where
  pub silent : (m : Contents) → written m bodies ≡ m
  pub calls : All IsCall (calls_down f front)
  pub enough : length (calls_down f front) ≤ length (failures f back)
  pub spoken : spoken_in bodies ≡ spoken_in (resets older) ++ down_said (calls_down f front) (failures f back)
  pub down : All (λ b. is_said_down b ≡ true) bodies

-- What the front's incarnation has said, over the map with which it starts: it serves, or isn't mounted yet.
pub data IsNewest (k : Kind) (older : History) (start : Contents) (f : Front) (front : Fronted) (back : Backed) : Type 0 where
  serving : (before : List Body) → Tells k start before f → SaysDown older f front back before → IsNewest k older start f front back
  falling : (call : Option Event) → f.mode ≡ down call → IfSome call IsCall → f.events ≡ [] → SaysDown older f front back f.said
      → IsNewest k older start f front back

-- The front's incarnation and the back's newest are one, or the back is one ahead.
abbrev pub IsPhase : Contents → ℕ → (start : Contents) → Front → Fronted → Rear → List Body → List Entry → List Notice → Type 0
IsPhase opened below start f front rear unread late notices =
    ((length rear.log.stops ≡ below) × Together start f front rear.log unread rear.before rear.stand rear.held notices)
    ⊎ ((length rear.log.stops ≡ suc below) × Behind start (start_after opened (incarnations front rear.log (suc below))) below f unread late rear notices)

-- the news of an end: that the next incarnation is mounted, or that it isn't
abbrev pub IsEnd : Notice → Type 0
IsEnd (notice.Fresh incarnation alarm c) = Unit {0}
IsEnd (notice.Down c before after) = Unit {0}
IsEnd (notice.Read number r) = ⊥
IsEnd (notice.Taken number count) = ⊥
IsEnd (notice.Synced number) = ⊥

-- A front that stands so and has logged this, and a back; entries under way to the back, and notices to the front. Of the notices the first are
-- readings of open asks, of which this front sends none; then comes what tells how the halves stand to each other.
pub record IsPair (k : Kind) (opened : Contents) (f : Front) (front : Fronted) (rear : Rear) (line : List Entry) (notices : List Notice) : Type 0 where
  pub below : ℕ
  pub number : f.incarnation ≡ suc below
  pub logged : IsLogged f front
  pub lined : IsLine f front rear.log.taken line
  pub gated : All IsGated f.said
  pub ends : front.ends ≡ map (λ (stop : Stop). stop.cause) (take below rear.log.stops)
  pub older_said : AreSaid k.script k.class opened front rear.log (incarnations front rear.log below)
  pub older_halted : AreHalted k.script k.class opened (incarnations front rear.log below)
  pub start : Contents
  pub starts : start ≡ start_after opened (incarnations front rear.log below)
  pub newest_said : IsNewest k (incarnations front rear.log below) start f front rear.log
  pub readings : List Notice
  pub rest : List Notice
  pub under_way : notices ≡ readings ++ rest
  pub are_readings : All (IsReading start f) readings
  pub phase : IsPhase opened below start f front rear lined.unread lined.late rest
