-- What a crash leaves of a journal at rest is a journal of its frames.
use Rattle.std.proofs.Common.{ℕ, List, Option}
use Rattle.batch_journal.specs.Frames.{Frame}
use Rattle.batch_journal.specs.Recovery.{IsJournal}
use Rattle.batch_journal.specs.Rest.{IsAtRest, disk_in}
use Rattle.batch_journal.specs.declared.journal.Journal.{Journal}

pub rests : {D : Type 0} (told : D → Option (List ℕ)) (image : D → List ℕ → Type 0) (journal : Journal D) (frames : List Frame) → IsAtRest told image journal frames
    → (c : List ℕ) → image (disk_in journal) c → IsJournal c frames
rests told image journal frames rest c now = record { version = journal.version; file = rest.file c (rest.durable c now); settled = rest.settled }
