-- A store that has a journal or a disk has one, and which disk a step leaves in it.
use Rattle.std.proofs.Common.{◌≡◌, ◌∙◌, ap, sym, refl, subst, ℕ, List, ◌∷◌, get_or, Option}
use Rattle.std.specs.Prelude.{is_some}
use Rattle.batch_journal.specs.Moments.{TellsAsBefore}
use Rattle.batch_journal.specs.Rest.{disk_in, end_of, limit_of}
use Rattle.batch_journal.specs.declared.journal.Journal.{Journal}
use Rattle.output_gate.specs.Storing.{HasLimit, IsDiskOf, KeepsDisk, KeepsEnd, KeepsLimit, KeepsTelling, ReadsDisk}
use Rattle.output_gate.specs.declared.store.Store.{Store}
use Rattle.output_gate.specs.declared.store.Store.TheVariants as store

abbrev journal_or : {D : Type 0} → Store D → Journal D → Journal D
journal_or (store.Journal journal) other = journal
journal_or s other = other

pub same_journal : {D : Type 0} (one other : Journal D) → store.Journal one ≡ store.Journal other → one ≡ other
same_journal one other same = ap (λ s. journal_or s one) same

-- the first of two lists that are the same
pub head_same : {X : Type 0} (x y : X) (xs ys : List X) → x ∷ xs ≡ y ∷ ys → x ≡ y
head_same x y xs ys same = ap (λ zs. get_or zs 0 x) same

-- a store has one disk
pub same_disk : {D : Type 0} (s : Store D) (a b : D) → IsDiskOf s a → IsDiskOf s b → a ≡ b
same_disk (store.Journal journal) a b one two = one ∙ sym two
same_disk (store.Disk bare) a b one two = one ∙ sym two
same_disk store.Away a b one two = absurd one

-- a journal's disk
pub in_it : {D : Type 0} (s : Store D) (journal : Journal D) → s ≡ store.Journal journal → IsDiskOf s (disk_in journal)
in_it {D} s journal is = let own : IsDiskOf (store.Journal journal) (disk_in journal) = refl in subst (λ (x : Store D). IsDiskOf x (disk_in journal)) (sym is) own

-- this journal, of the limit, was put in it
pub limited_in : {D : Type 0} (new : Store D) (later : Journal D) (limit : ℕ) → new ≡ store.Journal later → limit_of later ≡ limit → HasLimit limit new
limited_in new later limit into same journal is = ap limit_of (same_journal journal later (sym is ∙ into)) ∙ same

abbrev is_bare : {D : Type 0} → Store D → Type 0
is_bare (store.Disk bare) = Unit {0}
is_bare s = ⊥

-- a disk was put in it, so it has no journal
pub limited_bare : {D : Type 0} (new : Store D) (left : D) (limit : ℕ) → new ≡ store.Disk left → HasLimit limit new
limited_bare new left limit into journal is = absurd (subst is_bare (sym into ∙ is) tt)

-- its journal has the same limit
pub keeps_limit : {D : Type 0} (old new : Store D) (journal later : Journal D) → old ≡ store.Journal journal → new ≡ store.Journal later → limit_of later ≡ limit_of journal
    → KeepsLimit old new
keeps_limit old new journal later from into same limit has = limited_in new later limit into (same ∙ has journal from)

pub still_limit : {D : Type 0} (old new : Store D) → new ≡ old → KeepsLimit old new
still_limit old new same limit has = subst (HasLimit limit) (sym same) has

-- the same store has the same journal
pub still_end : {D : Type 0} (old new : Store D) → new ≡ old → KeepsEnd old new
still_end old new same journal is = (journal, sym same ∙ is, refl)

-- the same store has the same disk
pub still_disk : {D : Type 0} (old new : Store D) → new ≡ old → KeepsDisk old new
still_disk old new same = record { still = λ disk at. subst (λ (s : Store _). IsDiskOf s disk) (sym same) at; limit = still_limit old new same; end = still_end old new same }

-- something was staged in its journal
pub staged_disk : {D : Type 0} (old new : Store D) (journal later : Journal D) → old ≡ store.Journal journal → new ≡ store.Journal later → disk_in later ≡ disk_in journal
    → limit_of later ≡ limit_of journal → end_of later ≡ end_of journal → KeepsDisk old new
staged_disk {D} old new journal later from into same limit end = record {
  still = λ disk at.
      let was : disk ≡ disk_in journal = subst (λ (s : Store D). IsDiskOf s disk) from at in
      let is : IsDiskOf (store.Journal later) disk = was ∙ sym same in
      subst (λ (s : Store D). IsDiskOf s disk) (sym into) is;
  limit = keeps_limit old new journal later from into limit;
  end = λ other is. (journal, from, ap end_of (same_journal other later (sym is ∙ into)) ∙ end);
}

-- the same disk tells the same
pub still_tells : {D : Type 0} (told : D → Option (List ℕ)) (old new : Store D) → KeepsDisk old new → KeepsTelling told old new
still_tells {D} told old new keeps disk left at into = ap (λ (d : D). is_some (told d)) (same_disk new left disk into (keeps.still disk at))

-- it may have been read as well
pub reads_of : {D : Type 0} (told : D → Option (List ℕ)) (old new : Store D) → KeepsDisk old new → ReadsDisk told old new
reads_of told old new keeps = record { telling = still_tells told old new keeps; limit = keeps.limit; end = keeps.end }

-- these two disks were and are in it
pub tells_as : {D : Type 0} (told : D → Option (List ℕ)) (old new : Store D) (disk left : D) → IsDiskOf old disk → IsDiskOf new left → TellsAsBefore (told disk) (told left)
    → KeepsTelling told old new
tells_as {D} told old new disk left at into same other later is is_later =
    subst (λ (d : D). TellsAsBefore (told d) (told later)) (same_disk old disk other at is)
    (subst (λ (d : D). TellsAsBefore (told disk) (told d)) (same_disk new left later into is_later) same)

-- an append or a mounting left this journal in it
pub tells_in : {D : Type 0} (told : D → Option (List ℕ)) (old new : Store D) (disk : D) (later : Journal D) → IsDiskOf old disk → new ≡ store.Journal later
    → TellsAsBefore (told disk) (told (disk_in later)) → KeepsTelling told old new
tells_in told old new disk later at into same = tells_as told old new disk (disk_in later) at (in_it new later into) same

-- a mounting left this disk in it
pub tells_bare : {D : Type 0} (told : D → Option (List ℕ)) (old new : Store D) (disk left : D) → IsDiskOf old disk → new ≡ store.Disk left
    → TellsAsBefore (told disk) (told left) → KeepsTelling told old new
tells_bare {D} told old new disk left at into same =
    let is : IsDiskOf (store.Disk left) left = refl in
    tells_as told old new disk left at (subst (λ (s : Store D). IsDiskOf s left) (sym into) is) same
