use Rattle.std.proofs.Common.{ℕ, ap, ◌∙◌}
use Rattle.object_storage.specs.declared.fault.AnswerFault.TheVariants.{ReadFailed}
use Rattle.object_storage.proofs.answering.failed.Goals as goal

pub returns : goal.returns
returns g c = ap (λ (n : ℕ). ReadFailed c.args.before n) (c.faults-after.ensures ∙ ap g.D.Disk.faults_of c.disk.ensures)
