use Rattle.std.proofs.Common.{List, [], ◌∷◌, ◌++◌, length, refl, ap, sym, subst, ◌∙◌}
use Rattle.std.proofs.lemmas.Result.{err_from_is_err_and}
use Rattle.storage_map.specs.Contents.{apply}
use Rattle.storage_map.specs.declared.place.Place.{Place}
use Rattle.object_storage.specs.Stored.{HasStored, HasKept}
use Rattle.storage_cache.specs.Cached.{Cached, take_all}
use Rattle.object_storage.proofs.Going.{taken}
use Rattle.object_storage.proofs.Standing.{stages_err}
use Rattle.object_storage.proofs.writing.take.Goals as goal

pub take-requires : goal.take-requires
take-requires g c = ap length c.as_slice.ensures.value ∙ c.in_ok-places.ensures.one_each

pub returns-in_err-places-clause-staged : goal.returns-in_err-places-clause-staged
returns-in_err-places-clause-staged g c =
    let journal = c.args.journal.now in
    let p = err_from_is_err_and c.from_residual.result c.from_residual.ensures.1 in
    stages_err g.D.Disk.told g.D.Disk.image journal journal c.args.identity.now c.args.batch.now c.from_residual.result p.0 p.1 (λ other batches are. are) (λ fs rest. rest) refl (refl, refl)

pub returns-in_err-count-clause-staged : goal.returns-in_err-count-clause-staged
returns-in_err-count-clause-staged g c =
    let journal = c.args.journal.now in
    let p = err_from_is_err_and c.from_residual-in_err-count.result c.from_residual-in_err-count.ensures.1 in
    stages_err g.D.Disk.told g.D.Disk.image journal journal c.args.identity.now c.args.batch.now c.from_residual-in_err-count.result p.0 p.1 (λ other batches are. are) (λ fs rest. rest) refl (refl, refl)

pub returns-in_err-stage-clause-staged : goal.returns-in_err-stage-clause-staged
returns-in_err-stage-clause-staged g c =
    let p = err_from_is_err_and c.from_residual-in_err-stage.result c.from_residual-in_err-stage.ensures.1 in
    stages_err g.D.Disk.told g.D.Disk.image c.args.journal.now c.stage.new.self c.args.identity.now c.args.batch.now c.from_residual-in_err-stage.result p.0 p.1
    c.in_err-stage.ensures.same_staged c.in_err-stage.ensures.same_frames c.in_err-stage.ensures.same_disk c.in_err-stage.ensures.same_end

pub returns-clause-staged : goal.returns-clause-staged
returns-clause-staged g c = record {
  staged = c.in_ok-stage.ensures.staged;
  same_staged = tt;
  frames = c.in_ok-stage.ensures.same_frames;
  disk = c.in_ok-stage.ensures.same_disk;
  end = c.in_ok-stage.ensures.same_end.0;
  limit = c.in_ok-stage.ensures.same_end.1;
}

pub returns-clause-stored : goal.returns-clause-stored
returns-clause-stored g c = λ frames staged m rest unwritten is.
    let batch = c.args.batch.now in
    let object = c.args.identity.now in
    let went = c.in_ok-count.ensures.taken ∙ ap (λ (ps : List Place). take_all c.args.cache.now batch ps) c.as_slice.ensures.value in
    subst (λ (x : Cached). HasStored frames object (staged ++ batch ∷ []) x (apply m batch)) (sym went)
    (taken frames object staged batch c.in_ok-places.places.items c.args.cache.now m is c.in_ok-places.ensures.one_each (λ later. c.in_ok-places.ensures.placed frames staged later rest unwritten))

pub returns-clause-kept : goal.returns-clause-kept
returns-clause-kept g c = λ frames keeps. subst (HasKept frames) (sym c.in_ok-count.ensures.taken) keeps

pub returns-clause-counted : goal.returns-clause-counted
returns-clause-counted g c = c.in_ok-count.ensures.counted
