use Rattle.std.proofs.Common.{◌≡◌, ⊎_elim, Some, None}
use Rattle.host_core.proofs.row_examples.objects_stay.Goals as goal

pub returns : goal.returns
returns g c object row is = ⊎_elim (λ same. same) (λ bound. let never : Some object ≡ None = bound.0 in absurd cc) is
