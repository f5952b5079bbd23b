use Rattle.std.proofs.Common.{◌≡◌, ◌+◌, ◌++◌, ◌∷◌, List, length, ap, ◌∙◌}
use Rattle.std.proofs.lemmas.Result.{IfOk-weaker}
use Rattle.storage_map.specs.Indexed.{values_put}
use Rattle.storage_map.specs.declared.op.Op.{Op}
use Rattle.batch_journal.specs.Frames.{Frame}
use Rattle.batch_journal.specs.Places.{ArePlaced, placed_near}
use Rattle.batch_journal.specs.Rest.{IsAtRest, IsStaged}
use Rattle.batch_journal.specs.Staged.{frame_of}
use Rattle.batch_journal.proofs.Near.{length-placed_near}
use Rattle.batch_journal.proofs.Stagings.{staged_placed}
use Rattle.batch_journal.proofs.journal.Journal.places.Goals as goal

pub returns-clause-placed : goal.returns-clause-placed
returns-clause-placed g c =
    IfOk-weaker c.places_of.result (λ places. places.items ≡ placed_near (c.saturating_add-from.result + 4) c.args.batch.now)
    (λ places. (frames : List Frame) (batches later : List (List Op)) → IsAtRest g.D.Disk.told g.D.Disk.image c.args.self.now frames → IsStaged c.args.self.now c.args.identity.now batches
    → ArePlaced frames (frame_of c.args.identity.now (batches ++ c.args.batch.now ∷ later)) places.items (values_put c.args.batch.now))
    (λ places is. λ frames batches later rest staged.
    staged_placed frames c.args.identity.now batches c.args.batch.now later c.args.self.now.end c.before_next.result c.saturating_add-from.result places.items
    rest.end (c.before_next.ensures batches staged) c.saturating_add-from.ensures is c.places_of.ensures.within)
    c.places_of.ensures.places

pub returns-clause-one_each : goal.returns-clause-one_each
returns-clause-one_each g c =
    IfOk-weaker c.places_of.result (λ places. places.items ≡ placed_near (c.saturating_add-from.result + 4) c.args.batch.now) (λ places. length places.items ≡ length (values_put c.args.batch.now))
    (λ places is. ap length is ∙ length-placed_near (c.saturating_add-from.result + 4) c.args.batch.now)
    c.places_of.ensures.places
