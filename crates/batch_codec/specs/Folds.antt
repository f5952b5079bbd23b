-- What lent operations make of a map: that of the operations that they show.
use Rattle.std.specs.Prelude.{◌≡◌, List, [], ◌∷◌}
use Rattle.std.specs.List.{flat_map}
use Rattle.storage_map.specs.Contents.{Contents, apply_op, apply}
use Rattle.storage_map.specs.Ops.{IsOp}
use Rattle.storage_map.specs.declared.op.Op.{Op}
use Rattle.batch_codec.specs.Lent.{LentOps, LentBatches}
use Rattle.batch_codec.specs.Views.{Shows, IsFirst, IsFirstBatch}
use Rattle.batch_codec.specs.declared.op_view.OpView.{OpView}

-- these are lent of what is left of a batch, one after the other, until none is left
abbrev pub AreLentOps : LentOps → List OpView → Type 0
AreLentOps lent [] = lent.ops ≡ []
AreLentOps lent (view ∷ views) = (rest : LentOps) × IsFirst lent view rest × AreLentOps rest views

-- and of what is left of a payload, batch by batch
abbrev pub AreLent : LentBatches → List (List OpView) → Type 0
AreLent lent [] = lent.batches ≡ []
AreLent lent (views ∷ more) = (batch : LentOps) × (rest : LentBatches)
    × IsFirstBatch lent batch rest × AreLentOps batch views × AreLent rest more

-- the fold of lent operations: each does what the operation does that it shows
abbrev pub FoldsTo : Contents → List OpView → Contents → Type 0
FoldsTo m [] n = n ≡ m
FoldsTo m (view ∷ views) n = (op : Op) × IsOp op × Shows view op × FoldsTo (apply_op m op) views n

-- The fold of a payload's lent operations is the fold of its batches, and there is one.
pub record LentFoldIsFold : Type 0 where
  pub only : (lent : LentBatches) (views : List (List OpView)) (m n : Contents) → AreLent lent views
      → FoldsTo m (flat_map (λ vs. vs) views) n → n ≡ apply m (flat_map (λ ops. ops) lent.batches)
  pub some : (lent : LentBatches) (views : List (List OpView)) (m : Contents) → AreLent lent views
      → FoldsTo m (flat_map (λ vs. vs) views) (apply m (flat_map (λ ops. ops) lent.batches))
