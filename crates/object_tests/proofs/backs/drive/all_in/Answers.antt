use Rattle.std.proofs.Common.{[]}
use Rattle.storage_map.specs.Contents.{nothing, apply}
use Rattle.batch_journal.specs.Frames.{operations_in}
use Rattle.object_tests.proofs.backs.drive.all_in.Goals as goal

-- what was just mounted is a storage with nothing staged
pub answer-requires : goal.answer-requires
answer-requires g c =
    let m = c.in-Ok.ensures.mounted in
    (m.frames, ([], []), [], apply nothing (operations_in m.frames), c.in-Ok-new.ensures.stands m.frames ([], []) m.at_rest (c.in-Ok.ensures.nothing_staged ([], [])) m.index)
