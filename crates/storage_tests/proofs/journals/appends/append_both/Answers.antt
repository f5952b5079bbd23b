use Rattle.std.proofs.Common.{◌≡◌, [], ◌∷◌, Option, None, subst}
use Rattle.storage_map.specs.Limits.{Object}
use Rattle.batch_codec.proofs.Sizes.{one_batch, two_batches}
use Rattle.batch_journal.specs.Reading.{IsObjectOf}
use Rattle.batch_journal.proofs.Held.{none_left}
use Rattle.batch_journal.proofs.Nameless.{unnamed}
use Rattle.storage_tests.proofs.journals.appends.append_both.Goals as goal

pub stage-requires : goal.stage-requires
stage-requires g c =
    let object = c.args.identity.now in
    ([], c.requires.nothing_staged object, one_batch object c.args.first.now c.size.ensures.object c.as_slice.ensures.batch)

pub stage-requires-2 : goal.stage-requires-2
stage-requires-2 g c =
    let object = c.args.identity.now in
    (c.args.first.now ∷ [], c.in-Ok.ensures.staged [] (c.requires.nothing_staged object), two_batches object c.args.first.now c.args.second.now c.size.ensures.object c.as_slice.ensures.batch c.as_slice-2.ensures.batch)

-- the frames of a journal of no object name nobody, and both batches are all that is staged
pub append-requires : goal.append-requires
append-requires g c =
    let object = c.args.identity.now in
    let mounted = c.requires.mounted.1 in
    let none : c.args.mounted.identity ≡ None = none_left c.args.mounted.identity c.if-is_some.ensures in
    let named = subst (λ (o : Option Object). IsObjectOf o mounted.frames) none mounted.object in
    let staged = c.in-Ok-stage.ensures.staged (c.args.first.now ∷ []) (c.in-Ok.ensures.staged [] (c.requires.nothing_staged object)) in (
      mounted.frames,
      object,
      c.args.first.now ∷ c.args.second.now ∷ [],
      c.in-Ok-stage.ensures.same_frames mounted.frames (c.in-Ok.ensures.same_frames mounted.frames mounted.at_rest),
      staged,
      (λ none. absurd (cc)),
      unnamed object mounted.frames named,
    )
