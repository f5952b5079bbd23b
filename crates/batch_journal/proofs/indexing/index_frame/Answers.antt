use Rattle.std.proofs.Common.{◌≡◌, List, ℕ, Some, sym, subst, ◌∙◌}
use Rattle.storage_map.specs.declared.op.Op.{Op}
use Rattle.batch_codec.specs.Views.{operations_of}
use Rattle.batch_journal.specs.Places.{GoesBy}
use Rattle.batch_journal.proofs.indexing.index_frame.Goals as goal

pub returns-in-Ok-index_ops-clause-done : goal.returns-in-Ok-index_ops-clause-done
returns-in-Ok-index_ops-clause-done c =
    let done = c.in-Ok-index_ops.ensures.done in
    let read = c.in-Ok.ensures.begun.read done.0 done.1 in
    let old = c.args.index.now in
    let new = c.index_ops.new.index in
    let both : Some done.0 ≡ Some (operations_of read.0) = sym done.1 ∙ read.1.ops in
    let same : done.0 ≡ operations_of read.0 = cc in
    record {
      frame = read.0;
      of_format = read.1.of_format;
      is = read.1.said ∙ c.in-Ok.ensures.payload;
      names = read.1.object ∙ sym c.identity-object.ensures.object;
      goes =
          subst (λ (p : List ℕ). GoesBy c.args.start p old new (operations_of read.0)) c.in-Ok.ensures.payload
          (subst (λ (ops : List Op). GoesBy c.args.start c.in-Ok.reader.payload old new ops) same done.2);
    }
