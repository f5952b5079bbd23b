-- What a mounting does to a back that waits for one.
use Rattle.std.proofs.Common.{◌≡◌, ◌∙◌, ap, sym, refl, subst, inl, inr, ℕ, ◌≤◌, List, [], ◌∷◌, ◌++◌, Option, Some}
use Rattle.batch_journal.specs.declared.journal.Journal.{Journal}
use Rattle.storage_cache.specs.Cached.{Cached}
use Rattle.storage_map.specs.Limits.{Object}
use Rattle.std.specs.Prelude.{true}
use Rattle.batch_journal.specs.Moments.{LeavesOnly, TellsAsBefore, IsTold}
use Rattle.batch_journal.specs.Mounting.{ImageOrSame}
use Rattle.batch_journal.specs.declared.mount.Mounted.{Mounted}
use Rattle.storage_map.specs.declared.op.Op.{Op}
use Rattle.timeline.specs.Logs.{Backed, backed}
use Rattle.timeline.specs.declared.back_log.BackLog.{BackLog}
use Rattle.timeline.specs.declared.notice.Notice.{Notice}
use Rattle.do_disk.specs.Disk.{HasRisen}
use Rattle.output_gate.specs.Counted.{AreCounted}
use Rattle.output_gate.proofs.Counts.{counts_same}
use Rattle.output_gate.proofs.Endings.{down_same}
use Rattle.output_gate.specs.Ended.{IsLoggedDown}
use Rattle.output_gate.specs.Taking.{LogSame, is_mounted_mode}
use Rattle.output_gate.specs.Mending.{Begins, Misses, IsFound, is_own_object, Remounts, CanMend, MendRoom, kept_at}
use Rattle.batch_journal.specs.Rest.{disk_in, end_of}
use Rattle.output_gate.proofs.Fitting.{unmounted_of}
use Rattle.output_gate.proofs.Gone.{back_room}
use Rattle.output_gate.specs.Serving.{IsMounted, IsSafeEnded, IsEnded, IsUnmounted, IsAtEnd, IsBackAs, CanServeAs, marks_of}
use Rattle.output_gate.specs.Storing.{IsDiskOf}
use Rattle.output_gate.specs.declared.back.Back.{Back}
use Rattle.output_gate.specs.declared.back.Ending.{Ending}
use Rattle.output_gate.specs.declared.back.Mode.{Mode}
use Rattle.output_gate.specs.declared.back.Mode.TheVariants.{Wanted, Down}
use Rattle.output_gate.specs.declared.mending.Found.TheVariants as found
use Rattle.output_gate.specs.declared.store.Store.{Store}
use Rattle.output_gate.specs.declared.store.Store.TheVariants as store
use Rattle.output_gate.proofs.Mends.{still_down, mounting_leaves, full_leaves}
use Rattle.output_gate.proofs.Mountings.{mounted_begun, unmounted_missed}
use Rattle.output_gate.proofs.Steps.{told_before}
use Rattle.output_gate.proofs.Stored.{same_disk}

abbrev ending_in : Mode → Ending → Ending
ending_in (Wanted ending) other = ending
ending_in mode other = other

abbrev is_down_now : Mode → Type 0
is_down_now (Down ending) = Unit {0}
is_down_now mode = ⊥

pub same_ending : (one ending : Ending) (mode : Mode) → IsAtEnd one mode → mode ≡ Wanted ending → one ≡ ending
same_ending one ending mode (inl wanted) is = ap (λ m. ending_in m one) (sym wanted ∙ is)
same_ending one ending mode (inr down) is = absurd (subst is_down_now (sym down ∙ is) tt)

module _ {D : Type 0} (moment_of : D → ℕ) (left_since : D → ℕ → List ℕ → Type 0) (told : D → Option (List ℕ)) (image : D → List ℕ → Type 0) (faults_of : D → ℕ)
    (reads_an_image : (disk : D) (c : List ℕ) → told disk ≡ Some c → image disk c)
    (counts_now : (disk : D) (t : ℕ) (c : List ℕ) → t ≤ moment_of disk → image disk c → left_since disk t c) (start : List (List Op)) (opening : ℕ) where
  abbrev pub Knows : Back D → D → Ending → Type 0
  Knows old disk ending = IsSafeEnded disk ending old × (IsTold (told disk) → IsEnded moment_of left_since image start opening disk ending old)
      × IsLoggedDown (IsTold (told disk)) (backed old.log) ending (marks_of old) old.durable × AreCounted (IsTold (told disk)) (backed old.log) (faults_of disk)

  pub known : (old : Back D) (disk : D) (ending : Ending) → old.mode ≡ Wanted ending → IsDiskOf old.store disk → IsUnmounted moment_of left_since told image faults_of start opening old → Knows old disk ending
  known old disk ending wanted at u =
      subst (λ (d : D). Knows old d ending) (same_disk old.store u.disk disk u.safe.store at)
      (subst (λ (e : Ending). Knows old u.disk e) (same_ending u.ending ending old.mode u.safe.mode wanted) (u.safe, u.ended, u.logged, u.counts))

  pub remount_begins : (old new : Back D) (disk : D) (ending : Ending) (journal : Journal D) (identity : Option Object) (cache : Cached) → old.mode ≡ Wanted ending → IsDiskOf old.store disk
      → IsFound moment_of left_since told image disk (found.Mounted journal identity cache) → is_own_object identity old.identity → Begins old new ending journal cache
      → faults_of disk ≤ faults_of (disk_in journal) → IsUnmounted moment_of left_since told image faults_of start opening old → IsMounted moment_of left_since told image faults_of start opening true new
  remount_begins old new disk ending journal identity cache wanted at is own done up u =
      let k = known old disk ending wanted at u in
      let mounted : Mounted D = record { journal = journal; identity = identity; index = is.0.0 } in
      mounted_begun moment_of left_since told image faults_of reads_an_image start opening disk ending old new mounted k.0 k.1 wanted is.0.2 own is.1 is.2 is.3 k.2 k.3 up
      (subst (λ (c : Cached). Begins old new ending journal c) is.0.1 done)

  images_left : (disk left : D) → LeavesOnly moment_of left_since disk left (ImageOrSame (told disk) (image disk)) → (c : List ℕ) → image left c → ImageOrSame (told disk) (image disk) c
  images_left disk left leaves c now = leaves.each c (counts_now left (moment_of disk) c leaves.later now)

  pub remount_misses : (old new : Back D) (disk left : D) (ending : Ending) (before after : ℕ) → old.mode ≡ Wanted ending → IsDiskOf old.store disk
      → LeavesOnly moment_of left_since disk left (ImageOrSame (told disk) (image disk)) × TellsAsBefore (told disk) (told left) → Misses old new ending left before after
      → before ≡ faults_of disk → after ≡ faults_of left → (IsTold (told disk) → HasRisen (faults_of disk) (faults_of left))
      → IsUnmounted moment_of left_since told image faults_of start opening old → IsUnmounted moment_of left_since told image faults_of start opening new
  remount_misses old new disk left ending before after wanted at is done from into rises u =
      let k = known old disk ending wanted at u in
      unmounted_missed moment_of left_since told image faults_of reads_an_image start opening disk left ending old new before after k.0 k.1 is.0 is.1 (images_left disk left is.0) k.2 k.3 from into
      (λ tells. rises (told_before (told disk) (told left) is.1 tells)) done

  -- memory was wanting, and a mounting is still wanted
  pub remount_fails : (old : Back D) (disk left : D) (ending : Ending) (s : Store D) → s ≡ store.Disk left → old.mode ≡ Wanted ending → IsDiskOf old.store disk
      → LeavesOnly moment_of left_since disk left (ImageOrSame (told disk) (image disk)) × TellsAsBefore (told disk) (told left)
      → faults_of disk ≤ faults_of left
      → IsUnmounted moment_of left_since told image faults_of start opening old → IsUnmounted moment_of left_since told image faults_of start opening (record old { store = s })
  remount_fails old disk left ending s same wanted at is up u =
      let k = known old disk ending wanted at u in
      let made : IsUnmounted moment_of left_since told image faults_of start opening (record old { store = store.Disk left }) = record {
        disk = left;
        ending = ending;
        safe = record {
          store = refl;
          mode = k.0.mode;
          logs = k.0.logs;
          number = k.0.number;
          gone = k.0.gone;
          even = k.0.even;
          own = k.0.own;
          none = k.0.none;
          unflushed = k.0.unflushed;
          more = k.0.more;
          few = k.0.few;
          halts = k.0.halts;
        };
        ended = λ tells.
            let e = k.1 (told_before (told disk) (told left) is.1 tells) in
            record {
              frames = e.frames;
              flight = e.flight;
              ended = e.ended;
              taken = e.taken;
              left = e.left;
              flown = e.flown;
              last = e.last;
              rest = e.rest;
              end = e.end;
              is_flown = e.is_flown;
              is_whole = e.is_whole;
              logs = e.logs;
              place = e.place;
              down = λ front. still_down moment_of left_since told image reads_an_image start opening disk ending old e front left is.0;
              object = e.object;
              named = e.named;
              batches = e.batches;
              outcomes = λ c now. mounting_leaves moment_of left_since told image reads_an_image start opening disk ending old e c (images_left disk left is.0 c now);
              mended = e.mended;
              gone = e.gone;
              number = e.number;
              full = λ needed limit cause c now. full_leaves moment_of left_since told image reads_an_image start opening disk ending old e needed limit cause c (images_left disk left is.0 c now);
            };
        logged = down_same (IsTold (told disk)) (IsTold (told left)) (told_before (told disk) (told left) is.1) (backed old.log) ending (marks_of old) old.durable (backed old.log) refl refl refl (λ front. refl) k.2;
        counts = counts_same (IsTold (told disk)) (IsTold (told left)) (told_before (told disk) (told left) is.1) (backed old.log) (faults_of disk) (faults_of left) k.3 (backed old.log) refl refl up;
      } in
      subst (λ (x : Store D). IsUnmounted moment_of left_since told image faults_of start opening (record old { store = x })) (sym same) made

-- The log got room before it.
pub remounts_from : {D : Type 0} (faults_of : D → ℕ) (old new : Back D) (log : BackLog) (ending : Ending) (notice : Notice) → LogSame old.log log
    → Remounts faults_of (record old { log = log }) new ending notice → Remounts faults_of old new ending notice
remounts_from faults_of old new log ending notice same (inl b) = inl (record {
  journal = b.journal;
  begins = record {
    log = b.begins.log ∙ ap (λ (x : Backed). record x { ends = x.ends ++ record { kept = kept_at ending (end_of b.journal); cause = ending.cause } ∷ [] }) same.same;
    same = b.begins.same;
  };
  limit = b.limit;
  notice = b.notice;
})
remounts_from faults_of old new log ending notice same (inr m) = inr (record {
  disk = m.disk;
  left = m.left;
  at = m.at;
  misses = record {
    log = m.misses.log ∙ ap (λ (x : Backed). record x { downs = x.downs ++ record { incarnation = old.number; before = faults_of m.disk; after = faults_of m.left } ∷ [] }) same.same;
    same = m.misses.same;
  };
  notice = m.notice;
})

module _ {D : Type 0} (moment_of : D → ℕ) (left_since : D → ℕ → List ℕ → Type 0) (told : D → Option (List ℕ)) (image : D → List ℕ → Type 0) (faults_of : D → ℕ) where
  pub unmounted_room : (start : List (List Op)) (opening : ℕ) (old : Back D) (log : BackLog) (ending : Ending) → LogSame old.log log → old.mode ≡ Wanted ending
      → IsBackAs moment_of left_since told image faults_of start opening true old → IsUnmounted moment_of left_since told image faults_of start opening (record old { log = log })
  unmounted_room start opening old log ending same wanted b =
      unmounted_of moment_of left_since told image faults_of start opening true (record old { log = log }) (back_room moment_of left_since told image faults_of start opening old log same b) (ap is_mounted_mode wanted)

  pub mend_can : (old : Back D) (log : BackLog) (ending : Ending) → LogSame old.log log → MendRoom log → old.mode ≡ Wanted ending
      → CanServeAs moment_of left_since told image faults_of true old → CanMend moment_of left_since told image faults_of (record old { log = log }) ending
  mend_can old log ending same room wanted b =
      record { start = b.0; opening = b.1; back = unmounted_room b.0 b.1 old log ending same wanted b.2; wanted = wanted; room = room }
