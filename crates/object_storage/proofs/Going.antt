-- The steps of a cache over a journal: mounted, batches taken, frames appended.
use Rattle.std.proofs.Common.{◌≡◌, ◌<◌, ◌^◌, List, [], ◌∷◌, ◌++◌, length, refl, sym, ap, subst, arith, append_assoc, append-nil, length-append}
use Rattle.storage_map.specs.Limits.{Object}
use Rattle.storage_map.specs.Contents.{Contents, nothing, apply}
use Rattle.storage_map.specs.Indexed.{Indexed, StandsFor, values_put}
use Rattle.storage_map.specs.declared.place.Place.{Place}
use Rattle.storage_map.specs.declared.op.Op.{Op}
use Rattle.storage_map.proofs.Indexes.{stands_more, stands_ops}
use Rattle.storage_cache.specs.Cached.{Cached, of_index, take_all, flush_all, IsCacheOf, AgreesWith}
use Rattle.storage_cache.proofs.Steps.{cache_taken}
use Rattle.storage_cache.proofs.Standing.{cache_of_index, flushed_index, agrees_on, flushed_same, flushed_taken, flushed_all}
use Rattle.batch_journal.specs.Frames.{Frame, journal_bytes, operations_in}
use Rattle.batch_journal.specs.Staged.{frame_of}
use Rattle.batch_journal.specs.Places.{IsPlaceIn, Indexes, ArePlaced}
use Rattle.batch_journal.proofs.ReadPlaces.{one_value_in}
use Rattle.batch_journal.proofs.Held.{place_grows}
use Rattle.object_storage.specs.Stored.{with_staged, HasStored, HasKept}

-- just mounted
pub mounted : (frames : List Frame) (object : Object) (index : Indexed) → Indexes frames index → HasStored frames object [] (of_index index) (apply nothing (operations_in frames))
mounted frames object index is = record {
  cache_of = cache_of_index (IsPlaceIn frames) index (apply nothing (operations_in frames)) is;
  flushed = flushed_index (IsPlaceIn frames) index (apply nothing (operations_in frames)) is;
  at_rest = λ none. is;
  once_appended = λ later some. absurd (some refl);
}

-- what stands in the frames stands there with one more
all_grow : (frames : List Frame) (frame : Frame) (index : Indexed) (m : Contents) → StandsFor (IsPlaceIn frames) index m → StandsFor (IsPlaceIn (frames ++ frame ∷ [])) index m
all_grow frames frame index m is = stands_more (place_grows frames frame) index m is

-- the index before a batch, in the frames with what is staged and the batch
before : (frames : List Frame) (object : Object) (staged : List (List Op)) (more : List (List Op)) (cache : Cached) (m : Contents) → HasStored frames object staged cache m
    → length (journal_bytes (with_staged frames object (staged ++ more))) < 2 ^ 64 → StandsFor (IsPlaceIn (with_staged frames object (staged ++ more))) cache.index m
before frames object [] more cache m is short = all_grow frames (frame_of object more) cache.index m (is.at_rest refl)
before frames object (b ∷ staged) more cache m is short = is.once_appended more (λ none. absurd (cc)) short

-- a batch more
pub taken : (frames : List Frame) (object : Object) (staged : List (List Op)) (batch : List Op) (places : List Place) (cache : Cached) (m : Contents) → HasStored frames object staged cache m
    → length places ≡ length (values_put batch) → ((later : List (List Op)) → ArePlaced frames (frame_of object (staged ++ batch ∷ later)) places (values_put batch))
    → HasStored frames object (staged ++ batch ∷ []) (take_all cache batch places) (apply m batch)
taken frames object staged batch places cache m is room placed = record {
  cache_of = cache_taken cache m batch places (omega (arith, room)) is.cache_of;
  flushed = flushed_taken (IsPlaceIn frames) cache m batch places (omega (arith, room)) is.flushed;
  at_rest = λ none. absurd (omega (arith, ap length none, length-append staged (batch ∷ [])));
  once_appended = λ later some short.
      let all : (staged ++ batch ∷ []) ++ later ≡ staged ++ batch ∷ later = append_assoc staged (batch ∷ []) later in
      let short_all : length (journal_bytes (with_staged frames object (staged ++ batch ∷ later))) < 2 ^ 64 = subst (λ (b : List (List Op)). length (journal_bytes (with_staged frames object b)) < 2 ^ 64) all short in
      subst (λ (b : List (List Op)). StandsFor (IsPlaceIn (with_staged frames object b)) (take_all cache batch places).index (apply m batch)) (sym all)
      (stands_ops (IsPlaceIn (with_staged frames object (staged ++ batch ∷ later))) cache.index m batch places (before frames object staged (batch ∷ later) cache m is short_all) (placed later short_all));
}

-- what was staged is a frame
pub appended : (frames : List Frame) (object : Object) (staged : List (List Op)) (cache : Cached) (m : Contents) → HasStored frames object staged cache m
    → length (journal_bytes (with_staged frames object staged)) < 2 ^ 64 → HasStored (with_staged frames object staged) object [] (flush_all cache) m
appended frames object staged cache m is short =
    let all : staged ++ [] ≡ staged = append-nil staged in
    let stands : StandsFor (IsPlaceIn (with_staged frames object staged)) cache.index m =
    subst (λ (b : List (List Op)). StandsFor (IsPlaceIn (with_staged frames object b)) cache.index m) all
    (before frames object staged [] cache m is (subst (λ (b : List (List Op)). length (journal_bytes (with_staged frames object b)) < 2 ^ 64) (sym all) short)) in
    record {
      cache_of = record { alarm = is.cache_of.alarm; keys = is.cache_of.keys; unflushed = (cache_of_index (IsPlaceIn (with_staged frames object staged)) cache.index m stands).unflushed };
      flushed = flushed_all (IsPlaceIn (with_staged frames object staged)) cache m stands;
      at_rest = λ none. stands;
      once_appended = λ later more. absurd (more refl);
    }

-- what is kept stands with one frame more
pub kept_grows : (frames : List Frame) (object : Object) (staged : List (List Op)) (cache : Cached) → HasKept frames cache → HasKept (with_staged frames object staged) (flush_all cache)
kept_grows frames object staged cache keeps place value kept = place_grows frames (frame_of object staged) place value (keeps place value kept)

-- where index and unflushed values are the same, the same is stored
pub stored_same : (frames : List Frame) (object : Object) (staged : List (List Op)) (old new : Cached) (m : Contents) → new.index ≡ old.index → new.unflushed ≡ old.unflushed
    → HasStored frames object staged old m → HasStored frames object staged new m
stored_same frames object staged old new m index unflushed is = record {
  cache_of = subst (λ (c : Cached). IsCacheOf c m) (sym same) (record { alarm = is.cache_of.alarm; keys = is.cache_of.keys; unflushed = is.cache_of.unflushed });
  flushed = flushed_same (IsPlaceIn frames) old new m index unflushed is.flushed;
  at_rest = λ none. subst (λ (i : Indexed). StandsFor (IsPlaceIn frames) i m) (sym index) (is.at_rest none);
  once_appended = λ later some short. subst (λ (i : Indexed). StandsFor (IsPlaceIn (with_staged frames object (staged ++ later))) i m) (sym index) (is.once_appended later some short);
}
  where
    same : new ≡ record { index = old.index; unflushed = old.unflushed; kept = new.kept }
    same i = record { index = index i; unflushed = unflushed i; kept = new.kept }

-- the map agrees with what is kept
pub agrees : (frames : List Frame) (object : Object) (staged : List (List Op)) (cache : Cached) (m : Contents) → HasStored frames object staged cache m → HasKept frames cache → AgreesWith cache m
agrees frames object staged cache m is keeps = agrees_on (IsPlaceIn frames) (one_value_in frames) cache m is.cache_of is.flushed keeps
