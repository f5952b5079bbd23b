-- What a back tells its front, step by step, over a disk that tells its content.
use Rattle.std.specs.Prelude.{ℕ, List, Option}
use Rattle.storage_map.specs.declared.op.Op.{Op}
use Rattle.timeline.specs.declared.notice.Notice.{Notice}
use Rattle.output_gate.specs.Telling.{opened_map}
use Rattle.output_gate.specs.declared.back.Back.{Back}
use Rattle.object_core.specs.Alone.{HasTold}
use Rattle.object_core.specs.One.{TellsNow}

-- While the back's disk tells its content, it has run so.
abbrev pub Tells : {D : Type 0} → (told : D → Option (List ℕ)) → (start : List (List Op)) → Back D → List Notice → Type 0
Tells told start back sent = TellsNow told back → HasTold (opened_map start) back sent
