use Rattle.std.proofs.Common.{arith, ◌∷◌, [], ◌++◌, ap, ◌∙◌}
use Rattle.std.proofs.lemmas.Fmt.{decimal_digit, decimal_step}
use Rattle.do_host.proofs.laws.made_of_the_greatest.Goals as goal

-- src/laws.rt:15:1
pub returns-clause-name : goal.returns-clause-name
returns-clause-name c = decimal_step 11 (omega arith) (omega arith) ∙ ap (λ x. x ++ 49 ∷ []) (decimal_digit 1 (omega arith))
