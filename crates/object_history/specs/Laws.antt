-- Laws of the history of one object, each proved by a function of `laws`.
use Rattle.std.specs.Prelude.{◌≡◌, suc, ◌≤◌, List, [], ◌∷◌, ◌++◌, length, map}
use Rattle.storage_map.specs.Contents.{Contents}
use Rattle.script_mean.specs.declared.answer.Answer.{Answer}
use Rattle.timeline.specs.Headline.{IsPrefix}
use Rattle.timeline.specs.Intake.{Kind, Front, life, serves, Taken, delivered, noticed, takes, answer_in}
use Rattle.timeline.specs.Laws.{IsAtRest}
use Rattle.timeline.specs.Object.{Life, Object, OpenTask, idle, waiting, begun}
use Rattle.timeline.specs.Steps.{delivers, answers}
use Rattle.timeline.specs.Told.{spoken_in, told, stored_answer, written}
use Rattle.timeline.specs.declared.entry.Body.{Body}
use Rattle.timeline.specs.declared.event.Event.{Event}
use Rattle.timeline.specs.declared.notice.Notice.{Notice}
use Rattle.timeline.specs.Headline.{AreHalted, AreSaid, RestsUnmounted}
use Rattle.timeline.specs.History.{history}
use Rattle.timeline.specs.Intake as intake
use Rattle.timeline.specs.Intake.{numbered, front_after, FitsMode, MayTake}
use Rattle.timeline.specs.Logs.{Backed, Fronted}
use Rattle.timeline.specs.declared.back_log.Stop.{Stop}
use Rattle.timeline.specs.declared.entry.Entry.{Entry}
use Rattle.object_history.specs.Pair.{IsPair, Rear, mounted}
use Rattle.object_history.specs.Saying.{IsWellSaid}
use Rattle.object_history.specs.Stepping.{IsLogOf, Grows, IsRear, BackSteps, AreGiven, WantsCall, notices_with, said_before}
use Rattle.object_history.specs.Telling.{Tells}

-- A front that begins to serve, with nothing delivered to it, and goes on from event to event and from answer to answer, tells what
-- its script tells over its map.
pub record TellingGoesOn : Type 0 where
  pub begins : (k : Kind) (start : Contents) (f : Front) → ((m : Contents) → written m f.said ≡ m) → f.events ≡ []
      → f.mode ≡ serves (idle (begun start.alarm)) → Tells k start f.said f
  pub on_event : (k : Kind) (start : Contents) (before : List Body) (f : Front) (o : Object) (e : Event) → Tells k start before f
      → f.mode ≡ serves (idle o) → Tells k start before (takes k f (delivered e))
  pub on_answer : (k : Kind) (start : Contents) (before : List Body) (f : Front) (o : Object) (t : OpenTask) (b : Body) (n : Notice) (first : List Body)
      → Tells k start before f → f.mode ≡ serves (waiting o t b) → f.said ≡ first ++ b ∷ [] → answer_in n ≡ stored_answer (written start first) b ∷ []
      → Tells k start before (takes k f (noticed n))

-- What it has said begins that, behind what was said before; and is the whole of it where it waits for no answer.
pub record TellingTells : Type 0 where
  pub so_far : (k : Kind) (start : Contents) (before : List Body) (f : Front) → Tells k start before f
      → IsPrefix (spoken_in f.said) (spoken_in before ++ told (life k f.incarnation) start f.events)
  pub whole : (k : Kind) (start : Contents) (before : List Body) (f : Front) → Tells k start before f → IsAtRest f.mode
      → spoken_in f.said ≡ spoken_in before ++ told (life k f.incarnation) start f.events

-- A step of an object says nothing that is waited for but the one entry that its state has, and a halt where it ends its incarnation
-- alone.
pub record StepsSayWell : Type 0 where
  pub on_event : (l : Life) (o : Object) (e : Event) → IsWellSaid (delivers l o e)
  pub on_answer : (l : Life) (o : Object) (t : OpenTask) (a : Answer) → IsWellSaid (answers l o t a)

-- One item more that a front takes adds this to its logs.
abbrev pub LogsGrow : Type 0
LogsGrow = (k : Kind) (from : Front) (taken : List Taken) (t : Taken) (old new : Fronted) → IsLogOf k from taken old → IsLogOf k from (taken ++ t ∷ []) new
    → Grows k (front_after k from taken) t old new

-- Two halves of a slot that was just mounted, whose log is empty, are a pair.
abbrev pub PairBegins : Type 0
PairBegins = (k : Kind) (opened : Contents) (front : Fronted) (rear : Rear) → IsRear opened rear → rear.stand ≡ mounted → rear.held ≡ []
    → rear.log.taken ≡ [] → rear.log.stops ≡ [] → rear.log.downs ≡ [] → front.delivered ≡ [] → front.downed ≡ [] → front.sent ≡ [] → front.ends ≡ []
    → IsPair k opened (intake.opened opened.alarm) front rear [] []

-- They stay one whatever the front takes that it may; and what is dropped changes nothing.
pub record FrontKeepsPair : Type 0 where
  pub takes_one : (k : Kind) (opened : Contents) (f : Front) (front new : Fronted) (rear : Rear) (line : List Entry) (rest : List Notice) (t : Taken)
      → IsRear opened rear → IsPair k opened f front rear line (notices_with t rest) → MayTake f t → WantsCall t → (grows : Grows k f t front new)
      → IsPair k opened (takes k f t) new rear (line ++ numbered (takes k f t).incarnation (suc (length (said_before f f.mode t))) grows.more) rest
  pub drops : (k : Kind) (opened : Contents) (f : Front) (front : Fronted) (rear : Rear) (line : List Entry) (notices : List Notice) (dropped : List Event)
      → IsPair k opened f front rear line notices → IsPair k opened f (record front { dropped = dropped }) rear line notices

-- A notice under way is one that the front waits for.
abbrev pub NoticesFit : Type 0
NoticesFit = (k : Kind) (opened : Contents) (f : Front) (front : Fronted) (rear : Rear) (line : List Entry) (n : Notice) (rest : List Notice)
    → IsPair k opened f front rear line (n ∷ rest) → FitsMode f.said f.mode n

-- They stay a pair whatever step the back makes, its notice being given or lost.
abbrev pub BackKeepsPair : Type 0
BackKeepsPair = (k : Kind) (opened : Contents) (f : Front) (front : Fronted) (rear later : Rear) (got line : List Entry) (told given notices : List Notice)
    → IsRear opened rear → IsRear opened later → BackSteps rear later got told → AreGiven told given → IsPair k opened f front rear (got ++ line) notices
    → IsPair k opened f front later line (notices ++ given)

-- What the logs of two halves show of their incarnations: what each has said begins what it says in all; where a turn ended one, its object
-- has ended so; each end but the last one was followed by a mounting, and nothing is delivered to an incarnation that isn't mounted; and
-- the front knows the causes of the first ends.
pub record AreSaidSo (k : Kind) (opened : Contents) (front : Fronted) (back : Backed) : Type 0 where
  pub said : AreSaid k.script k.class opened front back (history front back)
  pub halted : AreHalted k.script k.class opened (history front back)
  pub mounted : length back.stops ≤ suc (length back.ends)
  pub unmounted : RestsUnmounted (history front back)
  pub ends : IsPrefix front.ends (map (λ (stop : Stop). stop.cause) back.stops)

-- The logs of a pair do.
abbrev pub PairIsSaid : Type 0
PairIsSaid = (k : Kind) (opened : Contents) (f : Front) (front : Fronted) (rear : Rear) (line : List Entry) (notices : List Notice)
    → IsRear opened rear → IsPair k opened f front rear line notices → AreSaidSo k opened front rear.log
