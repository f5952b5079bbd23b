-- The map that the newest incarnation of a back has written: what the laws say of it, and what a back that goes on tells of it.
use Rattle.std.proofs.Common.{◌≡◌, ◌∙◌, ap, sym, refl, subst, true≢false, ℕ, List, [], ◌∷◌, length, Option, None, Some}
use Rattle.std.specs.Prelude.{true, false}
use Rattle.batch_journal.specs.Moments.{IsTold}
use Rattle.storage_map.specs.Contents.{Contents}
use Rattle.storage_map.specs.declared.op.Op.{Op}
use Rattle.timeline.specs.History.{Incarnation, History, incarnations, history, said_in, start_after}
use Rattle.timeline.specs.Logs.{Fronted, Backed, backed}
use Rattle.timeline.specs.Told.{written}
use Rattle.timeline.specs.declared.entry.Entry.{Entry}
use Rattle.timeline.specs.declared.message.Message.{Message}
use Rattle.timeline.specs.declared.notice.Notice.{Notice}
use Rattle.front_half.specs.Standing.{nothing_logged}
use Rattle.output_gate.proofs.Noted.{sound_as}
use Rattle.output_gate.proofs.Telling.{map_is}
use Rattle.output_gate.specs.Entering.{Failed, HasMap, MayFail, StandsForMap, is_unfit, notice_with}
use Rattle.output_gate.specs.Releasing.{Releases}
use Rattle.output_gate.specs.Serving.{alarm_of, IsBack, is_stopped}
use Rattle.output_gate.specs.Standing.{own_entries}
use Rattle.output_gate.specs.Storing.{IsDiskOf}
use Rattle.output_gate.specs.Taking.{fit_of}
use Rattle.output_gate.specs.Telling.{opened_map}
use Rattle.output_gate.specs.declared.back.Back.{Back}
use Rattle.output_gate.specs.declared.back.Mode.TheVariants.{Mounted}
use Rattle.object_history.proofs.Alike.{same_start}
use Rattle.object_history.proofs.BeingRear.{is_rear}
use Rattle.object_history.specs.Stepping.{IsRear}
use Rattle.object_core.specs.Seen.{due_map, seen_of}

-- It is the same whatever the front has logged, and whatever mountings failed.
due_for : (opened : Contents) (log : Backed) (front : Fronted)
    → due_map opened log ≡ written (start_after opened (incarnations front log (length log.stops))) (said_in (own_entries log))
due_for opened log front =
    ap (λ (m : Contents). written m (said_in (own_entries log))) (sym (same_start nothing_logged front log log opened (length log.stops) (λ index less. refl)))

abbrev IsDueIn : Contents → Backed → History → Type 0
IsDueIn opened log [] = Unit {0}
IsDueIn opened log (i ∷ older) = due_map opened log ≡ written (start_after opened older) (said_in i.taken)

pub due_of : (opened : Contents) (log : Backed) (front : Fronted) (i : Incarnation) (older : History) → history front log ≡ i ∷ older
    → due_map opened log ≡ written (start_after opened older) (said_in i.taken)
due_of opened log front i older is =
    let first : IsDueIn opened log (history front log) = due_for opened log front in
    subst (IsDueIn opened log) is first

-- What a back lets go leaves it its alarm.
pub alarm_released : {D : Type 0} (moment_of : D → ℕ) (old new : Back D) (sent_before sent : List Notice) (out_before out : List Message)
    → Releases moment_of old new sent_before sent out_before out → alarm_of new ≡ alarm_of old
alarm_released moment_of old new sent_before sent out_before out releases = ap (λ c. c.index.alarm) releases.cache

-- What a take answers to an entry over a disk that tells its content.
abbrev pub AnswersSo : {D : Type 0} → (D → Option (List ℕ)) → (D → List ℕ → Type 0) → Back D → Failed → Entry → Option Notice → Type 0
AnswersSo {D} told image back failed e answer = (disk : D) → IsDiskOf back.store disk → IsTold (told disk) → (m : Contents) → HasMap told image m back
    → answer ≡ notice_with failed (fit_of back e) e m

module _ {D : Type 0} (moment_of : D → ℕ) (left_since : D → ℕ → List ℕ → Type 0) (told : D → Option (List ℕ)) (image : D → List ℕ → Type 0) (faults_of : D → ℕ)
    (start : List (List Op)) (opening : ℕ) where
  -- What the laws take for granted of a back is so of any, with the map that is due.
  pub seen_is_rear : (back : Back D) → IsBack moment_of left_since told image faults_of start opening back → IsRear (opened_map start) (seen_of (opened_map start) back)
  seen_is_rear back known =
      is_rear moment_of left_since told image faults_of start opening back (due_map (opened_map start) (backed back.log)) known
      (due_of (opened_map start) (backed back.log))

  -- The storage of a back whose incarnation is mounted stands for that map, over a disk that tells its content, where memory wasn't wanting.
  module _ (back : Back D) (disk : D) (at : IsDiskOf back.store disk) (tells : IsTold (told disk))
      (known : IsBack moment_of left_since told image faults_of start opening back) (on : is_stopped back ≡ false) where
    abbrev due : Contents
    due = due_map (opened_map start) (backed back.log)

    mounted_due : back.mode ≡ Mounted → StandsForMap told image due back × (alarm_of back ≡ due.alarm)
    mounted_due mounted =
        map_is moment_of left_since told image faults_of start opening back disk at tells
        (sound_as moment_of left_since told image faults_of start opening back on known) mounted nothing_logged _ _ refl

    -- Its alarm is the alarm of that.
    pub alarm_due : back.mode ≡ Mounted → due.alarm ≡ alarm_of back
    alarm_due mounted = sym (mounted_due mounted).1

    -- What it answers to an entry is what that says.
    pub answers_due : (failed : Failed) (e : Entry) (answer : Option Notice) → AnswersSo told image back failed e answer
        → answer ≡ notice_with failed (fit_of back e) e due
    answers_due failed e answer answers = answers disk at tells due (λ mounted. (mounted_due mounted).0)
