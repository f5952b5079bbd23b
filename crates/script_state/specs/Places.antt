-- How writes to places end, told of the variables alone or of the object's fields alone.
use Rattle.std.specs.Prelude.{◌≡◌, Result, Ok, Err}
use Rattle.do_value.specs.Tree.{Tree}
use Rattle.do_value.specs.Seen.{tree_of}
use Rattle.do_value.specs.declared.value.Value.{Value}
use Rattle.script_ops.specs.declared.fault.OpFault.{OpFault}
use Rattle.script_ops.specs.declared.fault.OpFault.TheVariants.{Throw, NoMemory}
use Rattle.script_mean.specs.Answers.{gave, threw}
use Rattle.script_mean.specs.Task.{Env, Fields}
use Rattle.script_mean.specs.Turn as turn
use Rattle.script_mean.specs.Turn.{Next, Run}
use Rattle.script_steps.specs.Seen.{outcome_of}
use Rattle.script_steps.specs.declared.focus.Outcome.{Outcome}

-- The part, done with these variables, ended so with those, and nothing else changed.
abbrev pub GoesWith : Run → Env → Env → Outcome → Type 0
GoesWith part old new o = (next : Next) (st : turn.State) → part old next st ≡ next (outcome_of o) new st

-- The part, done with these fields of the object, ended so with those, and nothing else changed.
abbrev pub GoesOn : Run → Fields → Fields → Outcome → Type 0
GoesOn part old new o = (env : Env) (next : Next) (st : turn.State) → st.fields ≡ old → part env next st ≡ next (outcome_of o) env (record st { fields = new })

-- The answer is what a write makes of what was there and what it gives, or what the definition throws, and then all is
-- as it was. It may always be that there is no memory.
abbrev pub Wrote : {A B : Type 0} → (A → B) → Result (B × Tree) Tree → A → A → Result Value OpFault → Type 0
Wrote seen meant old new (Ok v) = meant ≡ Ok (seen new, tree_of v)
Wrote seen meant old new (Err (Throw v)) = (meant ≡ Err (tree_of v)) × (new ≡ old)
Wrote seen meant old new (Err NoMemory) = Unit {0}

-- The outcome is the answer's value, or what is thrown instead.
abbrev pub IsEnd : Result Value OpFault → Outcome → Type 0
IsEnd (Ok v) o = outcome_of o ≡ gave (tree_of v)
IsEnd (Err (Throw v)) o = outcome_of o ≡ threw (tree_of v)
IsEnd (Err NoMemory) o = ⊥
