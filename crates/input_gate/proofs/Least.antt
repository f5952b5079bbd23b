-- The least number of an event that may enter, from what stands before the doors.
use Rattle.std.proofs.Common.{◌≡◌, ℕ, ◌≤◌, true, false, Option, Some, None, refl, sym, ap, ◌∙◌, arith}
use Rattle.std.specs.Prelude.{Bool, ◌||◌, Result, Ok, Err, OnOk}
use Rattle.std.specs.Option.{is_some}
use Rattle.std.specs.Ordering.{nat_cmp, is_gt}
use Rattle.std.specs.BTreeMap.{BTreeMap, IsLowerBound, get}
use Rattle.std.proofs.lemmas.Bool.Decides.{nat_tests}
use Rattle.object_calls.specs.Numbered.{under}
use Rattle.object_calls.proofs.Numbers.{find_under}
use Rattle.timeline.specs.declared.event.Event.{Event}
use Rattle.timeline.specs.declared.event.Event.TheVariants.{Bind, Call, Answer, Tick, Evict}
use Rattle.input_gate.specs.Deferring.{may_enter}
use Rattle.input_gate.specs.Doors.{staying, bind, answer, lets_through, is_among, FindsLeast, IsLeast}
use Rattle.input_gate.specs.declared.deferred.Entering.TheVariants.{NoEviction, AnswerUnder, BindAlone}

-- What may enter stands before a door.
pub no_eviction : (e : Event) → lets_through staying e ≡ may_enter NoEviction e
no_eviction (Bind identity) = refl
no_eviction (Call from method args depth at) = refl
no_eviction (Answer incarnation under result at) = refl
no_eviction (Tick at) = refl
no_eviction (Evict at) = refl

pub bind_alone : (e : Event) → lets_through bind e ≡ may_enter BindAlone e
bind_alone (Bind identity) = refl
bind_alone (Call from method args depth at) = refl
bind_alone (Answer incarnation under result at) = refl
bind_alone (Tick at) = refl
bind_alone (Evict at) = refl

or_false : (b : Bool) → (b || false) ≡ b
or_false true = refl
or_false false = refl

pub answer_or_bind : (n : ℕ) (e : Event) → (lets_through (answer n) e || lets_through bind e) ≡ may_enter (AnswerUnder n) e
answer_or_bind n (Bind identity) = refl
answer_or_bind n (Call from method args depth at) = refl
answer_or_bind n (Answer incarnation under result at) = or_false _
answer_or_bind n (Tick at) = refl
answer_or_bind n (Evict at) = refl

-- The same test finds the same.
pub same_least : (f g : ℕ → Bool) (found : Option ℕ) → ((k : ℕ) → f k ≡ g k) → FindsLeast f found → FindsLeast g found
same_least f g None same never = λ j small. sym (same j) ∙ never j small
same_least f g (Some k) same least = (sym (same k) ∙ least.0, λ j passes small. least.1 j (same j ∙ passes) small)

pub among_same : (f g : Event → Bool) (o : Option Event) → ((e : Event) → f e ≡ g e) → is_among f o ≡ is_among g o
among_same f g None same = refl
among_same f g (Some e) same = same e

pub among_either : (f g h : Event → Bool) (o : Option Event) → ((e : Event) → (f e || g e) ≡ h e) → (is_among f o || is_among g o) ≡ is_among h o
among_either f g h None same = refl
among_either f g h (Some e) same = same e

-- The first event of all.
up_to : (k j : ℕ) → is_gt (nat_cmp k j) ≡ false → k ≤ j
up_to k j h = grind (arith, nat_tests, h)

pub oldest_is : (events : BTreeMap ℕ Event) (k : ℕ) (e : Event) → get nat_cmp events k ≡ Some e → IsLowerBound nat_cmp events k
    → IsLeast (λ j. is_some (under j events.entries)) k
oldest_is events k e found least = (
  ap (λ (o : Option Event). is_some o) (sym (find_under k events.entries) ∙ found),
  λ j passes small. up_to k j (least j (ap (λ (o : Option Event). is_some o) (find_under j events.entries) ∙ passes)),
)

pub some_is : (o : Option Event) → is_some o ≡ is_among (λ e. true) o
some_is None = refl
some_is (Some e) = refl

-- ---- what holds where a call was answered well
pub on_both : {T E P Q R : Type 0} (r : Result T E) → OnOk r P → OnOk r Q → (P → Q → R) → OnOk r R
on_both (Ok v) p q f = f p q
on_both (Err e) p q f = tt
