use Rattle.std.proofs.Common.{◌≡◌, [], ◌∷◌, Option, None, subst}
use Rattle.storage_map.specs.Limits.{Object}
use Rattle.batch_journal.specs.Reading.{IsObjectOf}
use Rattle.batch_journal.proofs.Held.{none_left}
use Rattle.batch_journal.proofs.Nameless.{unnamed}
use Rattle.storage_tests.proofs.journals.appends.append_first.Goals as goal

pub stage-requires : goal.stage-requires
stage-requires g c =
    let object = c.args.identity.now in
    ([], c.requires.nothing_staged object, c.one_batch_fits.ensures object c.args.batch.now c.size.ensures.object c.as_slice.ensures.batch)

-- the frames of a journal of no object name nobody, and the batch is all that is staged
pub append-outcome-requires : goal.append-outcome-requires
append-outcome-requires g c =
    let object = c.args.identity.now in
    let mounted = c.requires.mounted.1 in
    let none : c.args.mounted.identity ≡ None = none_left c.args.mounted.identity c.if-is_some.ensures in
    let named = subst (λ (o : Option Object). IsObjectOf o mounted.frames) none mounted.object in
    let staged = c.in-Ok.ensures.staged [] (c.requires.nothing_staged object) in (
      mounted.frames,
      object,
      c.args.batch.now ∷ [],
      c.in-Ok.ensures.same_frames mounted.frames mounted.at_rest,
      staged,
      (λ none. absurd (cc)),
      unnamed object mounted.frames named,
    )
