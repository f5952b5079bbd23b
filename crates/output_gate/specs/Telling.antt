-- What a back tells whoever reads its log, over a disk that tells its content and whatever its front has logged.
use Rattle.std.specs.Prelude.{◌≡◌, ◌≢◌, ℕ, suc, ◌<◌, ◌≤◌, true, false, List, [], ◌∷◌, length, map, Option, Some}
use Rattle.std.specs.List.{All, flat_map}
use Rattle.batch_journal.specs.Moments.{IsTold}
use Rattle.storage_map.specs.Contents.{Contents, nothing, apply}
use Rattle.storage_map.specs.Limits.{Object}
use Rattle.storage_map.specs.declared.op.Op.{Op}
use Rattle.timeline.specs.Headline.{IsPrefix, KeepBy, release_of, pass_of}
use Rattle.timeline.specs.History.{Incarnation, History, batches_in, history, said_in, start_after}
use Rattle.timeline.specs.Intake.{answer_in}
use Rattle.timeline.specs.Logs.{Fronted, Backed, backed}
use Rattle.timeline.specs.Passed.{Passed, passed}
use Rattle.timeline.specs.Told.{stored_answer, written}
use Rattle.timeline.specs.declared.entry.Body.{Body}
use Rattle.timeline.specs.declared.notice.Notice.{Notice}
use Rattle.output_gate.specs.Counted.{counts_in, AreRising, HasRisenIn, IsBehindEnd}
use Rattle.output_gate.specs.Ended.{stop_causes, end_causes}
use Rattle.output_gate.specs.Held.{has_failed_read}
use Rattle.output_gate.specs.Kept.{RecoversToLine, HaveLeft}
use Rattle.output_gate.specs.Entering.{StandsForMap}
use Rattle.output_gate.specs.Serving.{alarm_of, IsBack, is_stopped}
use Rattle.output_gate.specs.Standing.{AreLogs, own_entries, older_of}
use Rattle.output_gate.specs.Storing.{IsDiskOf}
use Rattle.output_gate.specs.Taking.{notice_of}
use Rattle.output_gate.specs.declared.back.Back.{Back}
use Rattle.output_gate.specs.declared.back.Mode.TheVariants.{Mounted}

-- The releases begin the messages that pass, each with what it needs. What a crash leaves, now or at any moment since the opening,
-- recovers to the batches of the start and a prefix of those of a line, and since a release to one that has what the release
-- needs. Each end kept what an end of its cause keeps, and incarnations are followed for the causes for which they stopped. Each mounting
-- that failed is of an incarnation behind an end. The counts of faults that the log keeps go up to the disk's, and rose at each.
pub record HasTold {D : Type 0} (moment_of : D → ℕ) (left_since : D → ℕ → List ℕ → Type 0) (faults_of : D → ℕ) (object : Option Object)
    (start : List (List Op)) (opening : ℕ)
    (front : Fronted) (disk : D) (back : Backed) : Type 0 where
  pub logs : AreLogs back
  pub left : List Passed
  pub begins : IsPrefix left (passed (history front back))
  pub passes : IsPrefix (map release_of back.released) (map pass_of (passed (history front back)))
  pub released : HaveLeft moment_of left_since object start disk (history front back) back.released left
  pub images : (c : List ℕ) → left_since disk opening c → RecoversToLine object start 0 (history front back) 0 c
  pub kept : KeepBy (history front back)
  pub followed : IsPrefix (end_causes back.ends) (stop_causes back.stops)
  pub missed : All (IsBehindEnd (length back.stops)) back.downs
  pub rising : AreRising 0 (counts_in back) (faults_of disk)
  pub rose : All HasRisenIn (counts_in back)

abbrev pub BackTells : {D : Type 0} → (D → ℕ) → (D → ℕ → List ℕ → Type 0) → (D → Option (List ℕ)) → (D → List ℕ → Type 0) → (D → ℕ) → Back D → Type 0
BackTells {D} moment_of left_since told image faults_of back = (start : List (List Op)) (opening : ℕ) (disk : D) → IsDiskOf back.store disk → IsTold (told disk)
    → IsBack moment_of left_since told image faults_of start opening back → (front : Fronted)
    → HasTold moment_of left_since faults_of back.identity start opening front disk (backed back.log)

-- the map at the opening
abbrev pub opened_map : List (List Op) → Contents
opened_map start = apply nothing (flat_map (λ ops. ops) start)

-- A notice that is given at once has what the map answers to the entry.
abbrev pub NoticesAnswer : Type 0
NoticesAnswer = (number : ℕ) (m : Contents) (b : Body) (n : Notice) → notice_of number m b ≡ Some n → answer_in n ≡ stored_answer m b ∷ []

-- While the newest incarnation is mounted, and memory wasn't wanting, a back's storage stands for what that incarnation has written on the
-- map with which it started, and its alarm is that map's.
abbrev pub MapIsWritten : {D : Type 0} → (D → ℕ) → (D → ℕ → List ℕ → Type 0) → (D → Option (List ℕ)) → (D → List ℕ → Type 0) → (D → ℕ) → Back D → Type 0
MapIsWritten {D} moment_of left_since told image faults_of back = (start : List (List Op)) (opening : ℕ) (disk : D) → IsDiskOf back.store disk
    → IsTold (told disk)
    → IsBack moment_of left_since told image faults_of start opening back → is_stopped back ≡ false → back.mode ≡ Mounted
    → (front : Fronted) (i : Incarnation) (older : History)
    → history front (backed back.log) ≡ i ∷ older
    → StandsForMap told image (written (start_after (opened_map start) older) (said_in i.taken)) back
    × (alarm_of back ≡ (written (start_after (opened_map start) older) (said_in i.taken)).alarm)

-- The newest of these kept no more batches than were taken of it.
abbrev pub KeepsWithin : History → Type 0
KeepsWithin [] = Unit {0}
KeepsWithin (i ∷ older) = (count : ℕ) → i.kept ≡ Some count → count ≤ length (batches_in i.taken)

-- How the log and the counters of a back stand to one another, over any disk. While the newest incarnation is mounted each that has
-- ended was followed; else the last one wasn't yet. Each mounting that failed is of an incarnation behind an end. Where batches wait for a
-- flush the newest incarnation has some. An end by a read that failed is held only of an incarnation that is mounted.
pub record IsOrdered {D : Type 0} (back : Back D) : Type 0 where
  pub logs : AreLogs (backed back.log)
  pub followed : back.mode ≡ Mounted → length back.log.ends.items ≡ length back.log.stops.items
  pub unfollowed : back.mode ≢ Mounted → length back.log.stops.items ≡ suc (length back.log.ends.items)
  pub missed : All (IsBehindEnd (length back.log.stops.items)) back.log.downs.items
  pub more : back.durable ≤ back.before
  pub unflown : back.durable < back.before → batches_in (own_entries (backed back.log)) ≢ []
  pub kept : (front : Fronted) → KeepsWithin (older_of front (backed back.log))
  pub read : has_failed_read back.held.items ≡ true → back.mode ≡ Mounted

abbrev pub BackIsOrdered : {D : Type 0} → (D → ℕ) → (D → ℕ → List ℕ → Type 0) → (D → Option (List ℕ)) → (D → List ℕ → Type 0) → (D → ℕ) → Back D → Type 0
BackIsOrdered moment_of left_since told image faults_of back = (start : List (List Op)) (opening : ℕ)
    → IsBack moment_of left_since told image faults_of start opening back → IsOrdered back
