-- The slots that were mounted, with one more.
use Rattle.std.proofs.Common.{◌≡◌, ◌+◌, ◌<◌, ◌≤◌, ⊎_elim, inl, ℕ, List, [], ◌∷◌, ◌++◌, length, replicate, Option, Some, None, Result, Err, refl, sym, ap, subst, ◌∙◌, arith}
use Rattle.std.specs.Prelude.{IfSome, slice_get}
use Rattle.std.proofs.lemmas.Bool.{cases_lt}
use Rattle.std.proofs.lemmas.List.{get_or-replicate, length-append, length-replicate}
use Rattle.std.proofs.Math.ListN.{get_or-eq_default}
use Rattle.std.proofs.lemmas.Option.{slice_get_within}
use Rattle.batch_journal.specs.Frames.{Frame}
use Rattle.batch_journal.specs.Moments.{OnlyReads, TellsAsBefore}
use Rattle.batch_journal.specs.Places.{Indexes}
use Rattle.batch_journal.specs.Reading.{IsObjectOf}
use Rattle.batch_journal.specs.Recovery.{RecoversAlike}
use Rattle.batch_journal.specs.Rest.{IsAtRest, disk_in}
use Rattle.batch_journal.specs.declared.journal.Journal.{Journal}
use Rattle.batch_journal.specs.declared.mount.Mounted.{Mounted}
use Rattle.batch_journal.specs.declared.read_stored.ReadFault.{ReadFault}
use Rattle.batch_journal.specs.declared.read_stored.ReadFault.TheVariants as read
use Rattle.do_disk.specs.Disk.{next_count}
use Rattle.placement.specs.Slots.{Slots, IsOneEach, object_at}
use Rattle.storage_map.specs.Limits.{Object}
use Rattle.timeline.specs.Logs.{fronted, backed}
use Rattle.host_core.specs.Begun.{IsMountedAt, OnlyAt}
use Rattle.host_core.specs.Opening.{LeavesHanded}
use Rattle.host_core.specs.declared.opening.OpenEnd.{OpenEnd}
use Rattle.host_core.specs.declared.opening.OpenEnd.TheVariants as opening
use Rattle.host_core.specs.declared.report.Report.{Report}
use Rattle.host_core.specs.declared.report.SlotReport.{SlotReport}
use Rattle.host_core.specs.declared.settings.Bad.TheVariants.{Damaged}
use Rattle.host_core.proofs.Pushed.{push_before, push_last, push_within}
use Rattle.do_host.specs.Dump.{AreIdleRows, Contains, IsIdleRow, IsUnread, no_back, no_front}
use Rattle.do_host.specs.Mounted.{AreMounted, IsReadRow, StopsMounting, StopsReading, reading_end}
use Rattle.do_host.specs.Storage.{IsReadOf, ReadsValues, Storage}
use Rattle.do_host.proofs.Values.{rose_on}

-- an item of a list to which one was added is one of the list, or the one that was added
pub each_push : {X : Type 0} (P : ℕ → X → Type 0) (xs : List X) (x : X) → ((at : ℕ) (y : X) → at < length xs → slice_get xs at ≡ Some y → P at y) → P (length xs) x
    → (at : ℕ) (y : X) → slice_get (xs ++ x ∷ []) at ≡ Some y → P at y
each_push {X} P xs x old new at y is =
    ⊎_elim (λ less. old at y less (push_before xs x y at less is))
    (λ more.
    let last : length xs ≡ at = omega (arith, more, push_within xs x y at is) in
    subst (λ (n : ℕ). P n y) last (subst (λ (z : X). P (length xs) z) (push_last xs x y at last is) new))
    (cases_lt at (length xs))

-- so is one of two lists to which one was added each, and which are as long as each other
pub both_push : {X Y : Type 0} (P : ℕ → X → Y → Type 0) (xs : List X) (ys : List Y) (x : X) (y : Y) → length ys ≡ length xs
    → ((at : ℕ) (a : X) (b : Y) → at < length xs → slice_get xs at ≡ Some a → slice_get ys at ≡ Some b → P at a b) → P (length xs) x y
    → (at : ℕ) (a : X) (b : Y) → slice_get (xs ++ x ∷ []) at ≡ Some a → slice_get (ys ++ y ∷ []) at ≡ Some b → P at a b
both_push {X} {Y} P xs ys x y many old new at a b one other =
    ⊎_elim (λ less. old at a b less (push_before xs x a at less one) (push_before ys y b at (omega (arith, less, many)) other))
    (λ more.
    let last : length xs ≡ at = omega (arith, more, push_within xs x a at one) in
    subst (λ (n : ℕ). P n a b) last (subst (λ (z : X). P (length xs) z b) (push_last xs x a at last one) (subst (λ (z : Y). P (length xs) x z) (push_last ys y b at (many ∙ last) other) new)))
    (cases_lt at (length xs))

-- a row that was made of what was mounted once its values were read, of which nothing was written; and what its storage contains
record IsRowOf {S : Type 0} (told : S → Option (List ℕ)) (image : S → List ℕ → Type 0) (moment_of : S → ℕ) (left_since : S → ℕ → List ℕ → Type 0)
    (mounted : Mounted S) (row : SlotReport S) (storage : Storage) : Type 0 where
  reads : OnlyReads told image moment_of left_since (disk_in mounted.journal) row.store
  identity : row.identity ≡ mounted.identity
  front : fronted row.front ≡ no_front
  back : backed row.back ≡ no_back
  contents : (frames : List Frame) → IsAtRest told image mounted.journal frames → Indexes frames mounted.index → IsReadOf (told row.store) frames storage

module _ {S : Type 0} (moment_of : S → ℕ) (left_since : S → ℕ → List ℕ → Type 0) (told : S → Option (List ℕ)) (image : S → List ℕ → Type 0) (limit : ℕ) (content : Option (List ℕ)) (named : Option Object)
    (mounted : Mounted S) (is : IsMountedAt moment_of left_since told image limit content named mounted) (telling : TellsAsBefore content (told (disk_in mounted.journal)))
    (now_counts : (disk : S) (t : ℕ) (c : List ℕ) → t ≤ moment_of disk → image disk c → left_since disk t c) where
  -- after reads a crash leaves what one might have left before
  image_since : (disk : S) → OnlyReads told image moment_of left_since (disk_in mounted.journal) disk → (c : List ℕ) → left_since disk (next_count 0) c → left_since (disk_in mounted.journal) (next_count 0) c
  image_since disk reads c left =
      let later : next_count 0 ≤ moment_of (disk_in mounted.journal) = subst (λ (n : ℕ). next_count n ≤ moment_of (disk_in mounted.journal)) is.first is.mount.later in
      ⊎_elim (λ before. before) (λ now. now_counts (disk_in mounted.journal) (next_count 0) c later now) (reads.moments.before (next_count 0) c later left)

  since_mounted : (disk : S) → OnlyReads told image moment_of left_since (disk_in mounted.journal) disk → (c : List ℕ) → left_since disk (next_count 0) c → RecoversAlike c is.mount.frames
  since_mounted disk reads c left =
      is.mount.images c (subst (λ (t : ℕ). left_since (disk_in mounted.journal) (next_count t) c) (sym is.first) (image_since disk reads c left))

  named_is : IsObjectOf named is.mount.frames
  named_is = subst (λ (o : Option Object). IsObjectOf o is.mount.frames) is.object is.mount.object

  pub disk_unread : (disk : S) → OnlyReads told image moment_of left_since (disk_in mounted.journal) disk → IsUnread left_since content named disk
  disk_unread disk reads = record {
    frames = is.mount.frames;
    recovered = λ file told_is. is.mount.recovers file (is.content_is ∙ told_is);
    names = named_is;
    images = since_mounted disk reads;
  }

  tells_still : (disk : S) → OnlyReads told image moment_of left_since (disk_in mounted.journal) disk → TellsAsBefore content (told disk)
  tells_still disk reads = subst (λ (t : Option (List ℕ)). TellsAsBefore content t) (sym reads.same) telling

  module _ (row : SlotReport S) (storage : Storage) (made : IsRowOf told image moment_of left_since mounted row storage) where
    row_idle : IsIdleRow left_since content named row
    row_idle = record {
      frames = is.mount.frames;
      recovered = λ file told_is. is.mount.recovers file (is.content_is ∙ told_is);
      names = named_is;
      object = made.identity ∙ is.object;
      front = made.front;
      back = made.back;
      images = since_mounted row.store made.reads;
    }

    row_contains : Contains content (told row.store) named storage
    row_contains = record {
      frames = is.mount.frames;
      recovered = λ file told_is. is.mount.recovers file (is.content_is ∙ told_is);
      names = named_is;
      telling = tells_still row.store made.reads;
      read = made.contents is.mount.frames is.mount.at_rest is.mount.index;
    }

  -- all values of it were
  pub row_read : {A : Type 0} (row : SlotReport S) (storage : Storage) (journal : Journal S) (result : Result A ReadFault) (faults_of : S → ℕ)
      → ReadsValues told image moment_of left_since faults_of mounted.journal journal result → row.store ≡ disk_in journal → row.identity ≡ mounted.identity → fronted row.front ≡ no_front
      → backed row.back ≡ no_back
      → ((frames : List Frame) → IsAtRest told image mounted.journal frames → Indexes frames mounted.index → IsReadOf (told (disk_in mounted.journal)) frames storage)
      → IsReadRow told left_since content named row storage
  row_read {A} row storage journal result faults_of reads store identity front back contents =
      let only : OnlyReads told image moment_of left_since (disk_in mounted.journal) row.store = subst (λ (s : S). OnlyReads told image moment_of left_since (disk_in mounted.journal) s) (sym store) reads.reads in
      let made : IsRowOf told image moment_of left_since mounted row storage =
      record {
        reads = only;
        identity = identity;
        front = front;
        back = back;
        contents = λ frames rest index. subst (λ (t : Option (List ℕ)). IsReadOf t frames storage) (sym only.same) (contents frames rest index);
      } in
      record { idle = row_idle row storage made; contains = row_contains row storage made }

  -- a value of it wasn't read
  module _ (faults_of : S → ℕ) (slot : ℕ) (journal : Journal S) where
    abbrev kept_disk : Option S
    kept_disk = Some (disk_in journal)

    reading_stops : {A : Type 0} (fault : ReadFault) → ReadsValues {A = A} told image moment_of left_since faults_of mounted.journal journal (Err fault)
        → StopsReading told left_since faults_of content named slot kept_disk (reading_end slot fault)
    reading_stops read.DiskFailed reads = record {
      disk = disk_in journal;
      kept = refl;
      unread = disk_unread (disk_in journal) reads.reads;
      telling = tells_still (disk_in journal) reads.reads;
      failed = λ is. rose_on 0 (faults_of (disk_in mounted.journal)) (faults_of (disk_in journal)) (omega arith) (reads.failed refl);
      bad = λ bad is. absurd (let no : opening.Failed ≡ opening.BadSlot bad = is in cc);
    }
    reading_stops (read.BadValue place) reads = record {
      disk = disk_in journal;
      kept = refl;
      unread = disk_unread (disk_in journal) reads.reads;
      telling = tells_still (disk_in journal) reads.reads;
      failed = λ is. absurd (let no : opening.BadSlot (Damaged slot place) ≡ opening.Failed = is in cc);
      bad = λ bad is. let same : opening.BadSlot (Damaged slot place) ≡ opening.BadSlot bad = is in
          let own : Damaged slot place ≡ bad = cc in
          ((place, sym own), reads.reads.same ∙ reads.bad place refl);
    }
    reading_stops read.NoMemory reads = record {
      disk = disk_in journal;
      kept = refl;
      unread = disk_unread (disk_in journal) reads.reads;
      telling = tells_still (disk_in journal) reads.reads;
      failed = λ is. absurd (let no : opening.NoMemory ≡ opening.Failed = is in cc);
      bad = λ bad is. absurd (let no : opening.NoMemory ≡ opening.BadSlot bad = is in cc);
    }

    pub stops_reading : {A : Type 0} (result : Result A ReadFault) (fault : ReadFault) (unopened : Option S) (end : OpenEnd) → ReadsValues told image moment_of left_since faults_of mounted.journal journal result
        → result ≡ Err fault → unopened ≡ Some (disk_in journal) → end ≡ reading_end slot fault → StopsReading told left_since faults_of content named slot unopened end
    stops_reading {A} result fault unopened end reads is kept end_is =
        subst (λ (e : OpenEnd). StopsReading told left_since faults_of content named slot unopened e) (sym end_is)
        (subst (λ (o : Option S). StopsReading told left_since faults_of content named slot o (reading_end slot fault)) (sym kept)
        (reading_stops fault (subst (λ (r : Result A ReadFault). ReadsValues told image moment_of left_since faults_of mounted.journal journal r) is reads)))

-- the rows that stand are as they were, though a slot behind them got an object
pub idle_kept : {S : Type 0} (left_since : S → ℕ → List ℕ → Type 0) (contents : ℕ → Option (List ℕ)) (named after : Slots) (rows : List (SlotReport S)) → OnlyAt (length rows) named after
    → AreIdleRows left_since contents named rows → AreIdleRows left_since contents after rows
idle_kept {S} left_since contents named after rows only idle slot row at =
    let less = slice_get_within rows slot row at in
    subst (λ (o : Option Object). IsIdleRow left_since (contents slot) o row) (sym (only.others slot (λ same. omega (arith, same, less)))) (idle slot row at)

module _ {S : Type 0} (told : S → Option (List ℕ)) (left_since : S → ℕ → List ℕ → Type 0) (contents : ℕ → Option (List ℕ)) (named after : Slots) (rows : List (SlotReport S)) (storages : List Storage)
    (row : SlotReport S) (storage : Storage) where
  -- a slot more
  pub mounted_more : AreMounted told left_since contents named rows storages → OnlyAt (length rows) named after → IsIdleRow left_since (contents (length rows)) (object_at after (length rows)) row
      → Contains (contents (length rows)) (told row.store) (object_at after (length rows)) storage → AreMounted told left_since contents after (rows ++ row ∷ []) (storages ++ storage ∷ [])
  mounted_more so_far only idle contains = record {
    idle = each_push (λ slot r. IsIdleRow left_since (contents slot) (object_at after slot) r) rows row
        (λ slot r less at. subst (λ (o : Option Object). IsIdleRow left_since (contents slot) o r) (sym (only.others slot (λ same. omega (arith, same, less)))) (so_far.idle slot r at)) idle;
    many = length-append storages (storage ∷ []) ∙ ap (λ (n : ℕ). n + 1) so_far.many ∙ sym (length-append rows (row ∷ []));
    each = both_push (λ slot r x. Contains (contents slot) (told r.store) (object_at after slot) x) rows storages row storage so_far.many
        (λ slot r x less at there. subst (λ (o : Option Object). Contains (contents slot) (told r.store) o x) (sym (only.others slot (λ same. omega (arith, same, less)))) (so_far.each slot r x at there))
        contains;
    free = λ slot more.
        let past : length rows + 1 ≤ slot = omega (arith, more, length-append rows (row ∷ [])) in
        only.others slot (λ same. omega (arith, same, past)) ∙ so_far.free slot (omega (arith, past));
  }

-- the slot that was mounted and read next
pub mounted_put : {S : Type 0} (left_since : S → ℕ → List ℕ → Type 0) (told : S → Option (List ℕ)) (contents : ℕ → Option (List ℕ)) (named after : Slots) (rows : List (SlotReport S)) (storages : List Storage)
    (row : SlotReport S) (storage : Storage) (slot : ℕ) → length rows ≡ slot → AreMounted told left_since contents named rows storages → OnlyAt slot named after
    → IsReadRow told left_since (contents slot) (object_at after slot) row storage → AreMounted told left_since contents after (rows ++ row ∷ []) (storages ++ storage ∷ [])
mounted_put {S} left_since told contents named after rows storages row storage slot many so_far only read =
    mounted_more told left_since contents named after rows storages row storage so_far (subst (λ (n : ℕ). OnlyAt n named after) (sym many) only)
    (subst (λ (n : ℕ). IsIdleRow left_since (contents n) (object_at after n) row) (sym many) read.idle)
    (subst (λ (n : ℕ). Contains (contents n) (told row.store) (object_at after n) storage) (sym many) read.contains)

-- no slot was mounted
pub mounted_none : {S : Type 0} (told : S → Option (List ℕ)) (left_since : S → ℕ → List ℕ → Type 0) (contents : ℕ → Option (List ℕ)) (named : Slots) (rows : List (SlotReport S)) (storages : List Storage)
    → rows ≡ [] → storages ≡ [] → ((slot : ℕ) → object_at named slot ≡ None) → AreMounted told left_since contents named rows storages
mounted_none {S} told left_since contents named rows storages no_row none free = record {
  idle = subst (λ (rs : List (SlotReport S)). AreIdleRows left_since contents named rs) (sym no_row) (λ slot row at. absurd (no_item slot row at));
  many = ap length none ∙ sym (ap length no_row);
  each = λ slot row storage at there. absurd (no_item slot row (subst (λ (rs : List (SlotReport S)). slice_get rs slot ≡ Some row) no_row at));
  free = λ slot more. free slot;
}
  where
    no_item : {X : Type 0} (slot : ℕ) (x : X) → slice_get {X = X} [] slot ≡ Some x → ⊥
    no_item {X} slot x at = let less : slot < 0 = slice_get_within {A = X} [] slot x at in absurd (omega (arith, less))

-- slots without an object
abbrev pub no_object : Option Object
no_object = None

pub none_named : (slots slot : ℕ) → object_at (replicate slots None) slot ≡ None
none_named slots slot =
    ⊎_elim (λ less. get_or-replicate slots slot None None less) (λ more. get_or-eq_default (replicate slots None) None (omega (arith, more, length-replicate slots no_object))) (cases_lt slot slots)

pub none_each : (slots : ℕ) → IsOneEach (replicate slots None)
none_each slots a b object here there = absurd (let no : Some object ≡ None = sym here ∙ none_named slots a in cc)

-- memory was wanting before the first slot
pub stops_wanting : {S : Type 0} (told : S → Option (List ℕ)) (image : S → List ℕ → Type 0) (moment_of : S → ℕ) (left_since : S → ℕ → List ℕ → Type 0) (faults_of : S → ℕ) (contents : ℕ → Option (List ℕ))
    (slots faults : ℕ) (report : Report S) → report.slots.items ≡ [] → report.unopened ≡ None → 1 ≤ slots → StopsMounting told image moment_of left_since faults_of contents slots faults faults report opening.NoMemory
stops_wanting {S} told image moment_of left_since faults_of contents slots faults report none none_left some = record {
  named = replicate slots None;
  all_slots = length-replicate slots no_object;
  one_each = none_each slots;
  idle = subst (λ (rows : List (SlotReport S)). AreIdleRows left_since contents (replicate slots None) rows) (sym none)
      (λ slot row at. let less : slot < 0 = slice_get_within {A = SlotReport S} [] slot row at in absurd (omega (arith, less)));
  fewer = omega (arith, some, ap length none);
  stops = inl (record {
    failed = λ is. absurd (let no : opening.NoMemory ≡ opening.Failed = is in cc);
    bad = λ bad is. absurd (let no : opening.NoMemory ≡ opening.BadSlot bad = is in cc);
    handed = subst (λ (o : Option S). IfSome o (LeavesHanded told image moment_of left_since (contents (length report.slots.items)))) (sym none_left) tt;
    untouched = λ bad is refused. absurd (let no : opening.NoMemory ≡ opening.BadSlot bad = is in cc);
  });
}
