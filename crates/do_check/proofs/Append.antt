-- The least of faults that are found one after another.
use Rattle.std.proofs.Common.{◌≡◌, List, [], ◌∷◌, ◌++◌, Option, refl}
use Rattle.do_check.specs.First.{kept, least}
use Rattle.do_check.specs.declared.fault.CheckFault.{CheckFault}

-- More faults after some.
pub least_append : (found : Option CheckFault) (xs ys : List CheckFault) → least found (xs ++ ys) ≡ least (least found xs) ys
least_append found [] ys = refl
least_append found (x ∷ xs) ys = least_append (kept found x) xs ys
