-- How a journal and a cache stay as they are stored, from one read to the next.
use Rattle.std.proofs.Common.{◌≡◌, ℕ, List, Option, refl, sym, ◌∙◌, subst}
use Rattle.do_value.specs.declared.value.Value.{Value}
use Rattle.storage_map.specs.declared.place.Place.{Place}
use Rattle.storage_cache.specs.Cached.{Cached, KeepsOnly, KeepsNoMore}
use Rattle.storage_cache.proofs.Standing.{kept_looked, kept_more}
use Rattle.batch_journal.specs.Frames.{Frame}
use Rattle.batch_journal.specs.Moments.{IsTold}
use Rattle.batch_journal.specs.Places.{IsPlaceIn}
use Rattle.batch_journal.specs.Rest.{disk_in, IsAtRest}
use Rattle.batch_journal.specs.declared.journal.Journal.{Journal}
use Rattle.batch_journal.proofs.Runs.{started, reads_on}
use Rattle.object_storage.specs.Reads.{StaysAtRest, StaysStored}

module _ {D : Type 0} (told : D → Option (List ℕ)) (image : D → List ℕ → Type 0) (moment_of : D → ℕ) (left_since : D → ℕ → List ℕ → Type 0) where
  -- a look makes no call
  pub stays_looked : (Can : List Frame → Type 0) (journal : Journal D) (had has : Cached) → ((c : List ℕ) → left_since (disk_in journal) (moment_of (disk_in journal)) c → image (disk_in journal) c) → KeepsNoMore had has
      → StaysStored told image moment_of left_since Can journal had journal has
  stays_looked Can journal had has only same = record {
    journal = record {
      frames = λ fs rest. rest;
      staged = λ object batches is. is;
      end = refl;
      limit = refl;
      reads = record { same = refl; images = λ c left. left; moments = started moment_of left_since (disk_in journal) (image (disk_in journal)) only };
    };
    index = same.index;
    unflushed = same.unflushed;
    kept = λ frames rest some can keeps. kept_looked (IsPlaceIn frames) had has same keeps;
  }

  -- nor does nothing at all
  pub stays_same : (Can : List Frame → Type 0) (journal : Journal D) (cache : Cached) → ((c : List ℕ) → left_since (disk_in journal) (moment_of (disk_in journal)) c → image (disk_in journal) c)
      → StaysStored told image moment_of left_since Can journal cache journal cache
  stays_same Can journal cache only = stays_looked Can journal cache cache only (record { index = refl; unflushed = refl; kept = λ p v h. h })

  -- a read of which nothing is kept
  pub stays_read : (Can : List Frame → Type 0) (old new : Journal D) (cache : Cached) → StaysAtRest told image moment_of left_since old new → StaysStored told image moment_of left_since Can old cache new cache
  stays_read Can old new cache journal = record {
    journal = journal;
    index = refl;
    unflushed = refl;
    kept = λ frames rest some can keeps. keeps;
  }

  -- a read whose value is kept
  pub stays_kept : (place : Place) (value : Value) (old new : Journal D) (had has : Cached) → StaysAtRest told image moment_of left_since old new → KeepsOnly had has place value
      → ((frames : List Frame) (v : Value) → IsAtRest told image old frames → IsPlaceIn frames place v → IsTold (told (disk_in old)) → value ≡ v)
      → StaysStored told image moment_of left_since (λ frames. (v : Value) × IsPlaceIn frames place v) old had new has
  stays_kept place value old new had has journal only is = record {
    journal = journal;
    index = only.index;
    unflushed = only.unflushed;
    kept = λ frames rest some can keeps.
        kept_more (IsPlaceIn frames) had has place value only (subst (IsPlaceIn frames place) (sym (is frames can.0 rest can.1 some)) can.1) keeps;
  }

  -- one after the other
  pub stays_on : (Can Then : List Frame → Type 0) (old mid new : Journal D) (had keeps has : Cached) → ((frames : List Frame) → Can frames → Then frames)
      → StaysStored told image moment_of left_since Can old had mid keeps → StaysStored told image moment_of left_since Then mid keeps new has
      → StaysStored told image moment_of left_since Can old had new has
  stays_on Can Then old mid new had keeps has is first then = record {
    journal = record {
      frames = λ fs rest. then.journal.frames fs (first.journal.frames fs rest);
      staged = λ object batches are. then.journal.staged object batches (first.journal.staged object batches are);
      end = then.journal.end ∙ first.journal.end;
      limit = then.journal.limit ∙ first.journal.limit;
      reads = reads_on told image moment_of left_since (disk_in old) (disk_in mid) (disk_in new) first.journal.reads then.journal.reads;
    };
    index = then.index ∙ first.index;
    unflushed = then.unflushed ∙ first.unflushed;
    kept = λ frames rest some can kept.
        then.kept frames (first.journal.frames frames rest) (some.0, first.journal.reads.same ∙ some.1) (is frames can) (first.kept frames rest some can kept);
  }
