use Rattle.std.proofs.Common.{arith, refl}
use Rattle.std.proofs.lemmas.Fmt.{decimal_digit, decimal_step}
use Rattle.serde_json.proofs.OnLiterals.{serde_json_on_literals}
use Rattle.do_host.proofs.laws.made_of_0.Goals as goal

-- src/laws.rt:6:1
pub returns-clause-name : goal.returns-clause-name
returns-clause-name c = decimal_digit 1 (omega arith)

pub returns-clause-text : goal.returns-clause-text
unfolding serde_json_on_literals
returns-clause-text c = rw (decimal_digit 1 (omega arith), decimal_step 379 (omega arith) (omega arith), decimal_step 37 (omega arith) (omega arith), decimal_digit 3 (omega arith)) refl
