-- What the end of a handler writes.
use Rattle.std.proofs.Common.{◌≡◌, ◌∙◌, sym, subst, refl, ℕ, List, true, false, true≢false, ap}
use Rattle.std.specs.Prelude.{ℤ, nat_lt, if◌then◌else◌, Bool, Option, Some, None, IfSome, Result, Ok, Err, IfOk}
use Rattle.storage_map.specs.Ops.{IsOp}
use Rattle.storage_map.specs.declared.op.Op.{Op}
use Rattle.storage_map.specs.declared.op.Op.TheVariants.{Put, Delete, DeleteAll, SetAlarm, ClearAlarm}
use Rattle.alarm_core.specs.AlarmRule.{after_success, after_failure, touches, tried_again, most_retry}
use Rattle.timeline.specs.Object.{Life, OpenTask}
use Rattle.timeline.specs.Steps.{handled}
use Rattle.timeline.specs.declared.entry.Body.{Body}
use Rattle.front_turns.specs.Alarmed.{IsAlarmOp}
use Rattle.front_turns.specs.Paused.{Paused}
use Rattle.front_turns.specs.Held.{Holds, Says, object_of}
use Rattle.front_turns.specs.declared.object.Object.{Object}
use Rattle.front_turns.specs.declared.object.State.{State}

-- It is written as the rule says.
pub handled_so : {T E : Type 0} (see : T → Paused) (old new : List Body) (r : Result (State T) E) (o : Object T) (op rule : Option Op)
    → ((l : Life) (ts : List OpenTask) → Holds see l o ts → op ≡ rule)
    → IfOk r (λ s. (l : Life) (ts : List OpenTask) → Holds see l o ts → Says see l old new s (handled op (object_of o ts)))
    → IfOk r (λ s. (l : Life) (ts : List OpenTask) → Holds see l o ts → Says see l old new s (handled rule (object_of o ts)))
handled_so see old new (Ok s) o op rule is says = λ l ts held. subst (λ (x : Option Op). Says see l old new s (handled x (object_of o ts))) (is l ts held) (says l ts held)
handled_so see old new (Err f) o op rule is says = tt

-- The rule writes of the alarm alone.
pub success_of : (touched : Bool) → IfSome (after_success touched) IsAlarmOp
success_of true = tt
success_of false = tt

pub success_op : (op : Option Op) (touched : Bool) → op ≡ after_success touched → IfSome op IsAlarmOp
success_op op touched is = subst (λ (x : Option Op). IfSome x IsAlarmOp) (sym is) (success_of touched)

-- Whether an operation is one on the alarm.
abbrev on_alarm : Option Op → Bool
on_alarm None = true
on_alarm (Some op) = touches op

rule_on_alarm : (retry : ℕ) (touched : Bool) (clock : ℤ) → on_alarm (after_failure retry touched clock) ≡ true
rule_on_alarm retry true clock = refl
rule_on_alarm retry false clock = elim (nat_lt retry most_retry) as (λ (b : Bool). touches (if b then tried_again retry clock else ClearAlarm) ≡ true) [
  | true ↦ refl
  | false ↦ refl
]

alarm_op : (op : Op) → touches op ≡ true → IsOp op → IsAlarmOp op
alarm_op (SetAlarm time retry) on is = is
alarm_op ClearAlarm on is = tt
alarm_op (Put key value) on is = absurd (true≢false (sym on))
alarm_op (Delete key) on is = absurd (true≢false (sym on))
alarm_op DeleteAll on is = absurd (true≢false (sym on))

pub failure_op : (op : Option Op) (retry : ℕ) (touched : Bool) (clock : ℤ) → IfSome op IsOp → on_alarm op ≡ true → IfSome op IsAlarmOp
failure_op None retry touched clock is on = tt
failure_op (Some op) retry touched clock is on = alarm_op op on is

pub written_on_alarm : (op : Option Op) (retry : ℕ) (touched : Bool) (clock : ℤ) → op ≡ after_failure retry touched clock → on_alarm op ≡ true
written_on_alarm op retry touched clock is = ap (λ (x : Option Op). on_alarm x) is ∙ rule_on_alarm retry touched clock
