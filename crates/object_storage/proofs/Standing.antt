-- A storage stands for a map, after each of its calls.
use Rattle.std.proofs.Common.{◌≡◌, ℕ, List, [], Option, sym, ◌∙◌, subst}
use Rattle.std.specs.Prelude.{Result, Err}
use Rattle.do_value.specs.declared.fault.NoMemory.{NoMemory}
use Rattle.storage_map.specs.Limits.{Object}
use Rattle.storage_map.specs.Contents.{nothing, apply}
use Rattle.storage_map.specs.Indexed.{Indexed}
use Rattle.storage_map.specs.declared.op.Op.{Op}
use Rattle.storage_cache.specs.Cached.{Cached, of_index}
use Rattle.storage_cache.proofs.Standing.{kept_index}
use Rattle.batch_journal.specs.Frames.{Frame, operations_in}
use Rattle.batch_journal.specs.Moments.{IsTold}
use Rattle.batch_journal.specs.Places.{IsPlaceIn, Indexes}
use Rattle.batch_journal.specs.Rest.{disk_in, end_of, limit_of, IsAtRest, IsStaged}
use Rattle.batch_journal.specs.declared.journal.Journal.{Journal}
use Rattle.object_storage.specs.Reads.{StaysStored}
use Rattle.object_storage.specs.Steps.{Stages}
use Rattle.object_storage.specs.Stored.{HasStored, HasKept, HasSome}
use Rattle.object_storage.specs.Storage.{journal_in, disk_of, cached_in, IsStorage, CanAnswer, StandsAsBefore}
use Rattle.object_storage.specs.declared.storage.Storage.{Storage}
use Rattle.object_storage.proofs.Going.{mounted, stored_same}

module _ {D : Type 0} (told : D → Option (List ℕ)) (image : D → List ℕ → Type 0) where
  -- just mounted
  pub stands_mounted : (storage : Storage D) (index : Indexed) → cached_in storage ≡ of_index index → (frames : List Frame) (object : Object) → IsAtRest told image (journal_in storage) frames
      → IsStaged (journal_in storage) object [] → Indexes frames index → IsStorage told image frames object [] (apply nothing (operations_in frames)) storage
  stands_mounted storage index is frames object rest none indexes = record {
    at_rest = rest;
    unwritten = none;
    stored = subst (λ (c : Cached). HasStored frames object [] c (apply nothing (operations_in frames))) (sym is) (mounted frames object index indexes);
    kept = λ some. subst (HasKept frames) (sym is) (kept_index (IsPlaceIn frames) index);
  }

  -- memory was wanting for a batch
  pub stages_err : {A : Type 0} (old new : Journal D) (object : Object) (batch : List Op) (r : Result A NoMemory) (e : NoMemory) → r ≡ Err e
      → ((other : Object) (batches : List (List Op)) → IsStaged old other batches → IsStaged new other batches) → ((fs : List Frame) → IsAtRest told image old fs → IsAtRest told image new fs)
      → disk_in new ≡ disk_in old → (end_of new ≡ end_of old) × (limit_of new ≡ limit_of old) → Stages told image old new object batch r
  stages_err {A} old new object batch r e is same frames disk ends =
      subst (λ (x : Result A NoMemory). Stages told image old new object batch x) (sym is) (record { staged = tt; same_staged = same; frames = frames; disk = disk; end = ends.0; limit = ends.1 })

  -- the cache has some map stored
  pub has_some : (storage : Storage D) → CanAnswer told image storage → (frames : List Frame) × IsAtRest told image (journal_in storage) frames × HasSome (cached_in storage) frames
  has_some storage is = (is.0, is.4.at_rest, (is.1, is.2, is.3, is.4.stored))

  -- values were read
  pub stands_read : (moment_of : D → ℕ) (left_since : D → ℕ → List ℕ → Type 0) (old new : Storage D)
      → StaysStored told image moment_of left_since (HasSome (cached_in old)) (journal_in old) (cached_in old) (journal_in new) (cached_in new) → StandsAsBefore told image old new
  stands_read moment_of left_since old new stays frames object staged m is = record {
    at_rest = stays.journal.frames frames is.at_rest;
    unwritten = stays.journal.staged object staged is.unwritten;
    stored = stored_same frames object staged (cached_in old) (cached_in new) m stays.index stays.unflushed is.stored;
    kept = λ some.
        let was : IsTold (told (disk_of old)) = (some.0, sym stays.journal.reads.same ∙ some.1) in
        stays.kept frames is.at_rest was (object, staged, m, is.stored) (is.kept was);
  }
