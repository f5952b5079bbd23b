-- Two accounts of one front agree on what it waits for, and on which events may enter.
use Rattle.std.proofs.Common.{◌≡◌, ◌∙◌, ap, sym, refl, subst, ℕ, List, [], ◌∷◌, Option, Some, None}
use Rattle.std.specs.Prelude.{Bool, true, false, cond, ◌==◌, ◌||◌}
use Rattle.std.specs.List.{list_any}
use Rattle.do_tree.specs.Tree.{Script}
use Rattle.timeline.specs.Eligible.{has_block, has_no_task, is_eligible, is_eligible_while, resumes_block}
use Rattle.timeline.specs.Intake.{Mode, serves, down}
use Rattle.timeline.specs.Object as seen
use Rattle.timeline.specs.Object.{Life, OpenTask, idle, waiting, ended, task_under, is_blocked}
use Rattle.timeline.specs.declared.event.Event.{Event}
use Rattle.timeline.specs.declared.event.Event.TheVariants as event
use Rattle.front_turns.specs.Held.{AreHeld, IsObject, IsState, object_of}
use Rattle.front_turns.specs.Paused.{Paused}
use Rattle.front_turns.specs.declared.object.Held.{Held}
use Rattle.front_turns.specs.declared.object.Object.{Object}
use Rattle.front_turns.specs.declared.object.State.{State}
use Rattle.front_turns.specs.declared.object.State.TheVariants as state
use Rattle.front_half.specs.Standing.{Stood, IsHalf, IsClass, IsMode}
use Rattle.front_half.specs.Taking.{may_enter, waits, waits_in}
use Rattle.front_half.specs.declared.half.Half.{Half}
use Rattle.front_half.specs.declared.half.Mode.{Mode as HeldMode}
use Rattle.front_half.specs.declared.half.Mode.TheVariants as held

-- Tasks that are held alike have their blocks open alike.
found : (here : Bool) (t u : OpenTask) (x y : Option OpenTask) → t.block ≡ u.block → has_block x ≡ has_block y
    → has_block (cond here (Some t) x) ≡ has_block (cond here (Some u) y)
found true t u x y same rest = same
found false t u x y same rest = rest

module _ {T : Type 0} (see : T → Paused) (l k : Life) where
  blocks_alike : (hs : List (ℕ × Held T)) (ts us : List OpenTask) → AreHeld see l hs ts → AreHeld see k hs us
      → list_any (λ (t : OpenTask). t.block) ts ≡ list_any (λ (t : OpenTask). t.block) us
  blocks_alike [] [] [] one other = refl
  blocks_alike [] [] (u ∷ us) one other = absurd other
  blocks_alike [] (t ∷ ts) us one other = absurd one
  blocks_alike (h ∷ hs) [] us one other = absurd one
  blocks_alike (h ∷ hs) (t ∷ ts) [] one other = absurd other
  blocks_alike (h ∷ hs) (t ∷ ts) (u ∷ us) one other =
      ap (λ (b : Bool). b || list_any (λ (x : OpenTask). x.block) ts) (one.0.paused.block ∙ sym other.0.paused.block)
      ∙ ap (λ (b : Bool). u.block || b) (blocks_alike hs ts us one.1 other.1)

  under_alike : (number : ℕ) (hs : List (ℕ × Held T)) (ts us : List OpenTask) → AreHeld see l hs ts → AreHeld see k hs us
      → has_block (task_under number ts) ≡ has_block (task_under number us)
  under_alike number [] [] [] one other = refl
  under_alike number [] [] (u ∷ us) one other = absurd other
  under_alike number [] (t ∷ ts) us one other = absurd one
  under_alike number (h ∷ hs) [] us one other = absurd one
  under_alike number (h ∷ hs) (t ∷ ts) [] one other = absurd other
  under_alike number (h ∷ hs) (t ∷ ts) (u ∷ us) one other =
      found (t.number == number) t u (task_under number ts) (task_under number us) (one.0.paused.block ∙ sym other.0.paused.block)
      (under_alike number hs ts us one.1 other.1)
      ∙ ap (λ (n : ℕ). has_block (cond (n == number) (Some u) (task_under number us))) (one.0.number ∙ sym other.0.number)

  none_alike : (hs : List (ℕ × Held T)) (ts us : List OpenTask) → AreHeld see l hs ts → AreHeld see k hs us → has_no_task ts ≡ has_no_task us
  none_alike [] [] [] one other = refl
  none_alike [] [] (u ∷ us) one other = absurd other
  none_alike [] (t ∷ ts) us one other = absurd one
  none_alike (h ∷ hs) [] us one other = absurd one
  none_alike (h ∷ hs) (t ∷ ts) [] one other = absurd other
  none_alike (h ∷ hs) (t ∷ ts) (u ∷ us) one other = refl

  resumes_alike : (o : Object T) (ts us : List OpenTask) → AreHeld see l o.tasks.entries ts → AreHeld see k o.tasks.entries us → (e : Event)
      → resumes_block (object_of o ts) e ≡ resumes_block (object_of o us) e
  resumes_alike o ts us one other (event.Answer incarnation number result at) = under_alike number o.tasks.entries ts us one other
  resumes_alike o ts us one other (event.Call from method args depth at) = refl
  resumes_alike o ts us one other (event.Bind identity) = refl
  resumes_alike o ts us one other (event.Tick at) = refl
  resumes_alike o ts us one other (event.Evict at) = refl

  eligible_alike : (o : Object T) (a b : seen.Object) → IsObject see l o a → IsObject see k o b → (e : Event) → is_eligible a e ≡ is_eligible b e
  eligible_alike o a b one other e =
      let ts : List OpenTask = one.0 in
      let us : List OpenTask = other.0 in
      let x : seen.Object = object_of o ts in
      let y : seen.Object = object_of o us in
      ap (λ (z : seen.Object). is_eligible z e) one.1
      ∙ ap (λ (b : Bool). is_eligible_while b (resumes_block x e) (has_no_task ts) e) (blocks_alike o.tasks.entries ts us one.2.tasks other.2.tasks)
      ∙ ap (λ (b : Bool). is_eligible_while (is_blocked y) b (has_no_task ts) e) (resumes_alike o ts us one.2.tasks other.2.tasks e)
      ∙ ap (λ (b : Bool). is_eligible_while (is_blocked y) (resumes_block y e) b e) (none_alike o.tasks.entries ts us one.2.tasks other.2.tasks)
      ∙ ap (λ (z : seen.Object). is_eligible z e) (sym other.1)

  state_waits : (s : State T) (a b : seen.State) → IsState see l s a → IsState see k s b → waits_in a ≡ waits_in b
  state_waits (state.Idle o) (idle x) (idle y) one other = refl
  state_waits (state.Idle o) (idle x) (waiting y t c) one other = absurd other
  state_waits (state.Idle o) (idle x) (ended c) one other = absurd other
  state_waits (state.Idle o) (waiting x t c) b one other = absurd one
  state_waits (state.Idle o) (ended c) b one other = absurd one
  state_waits (state.Waiting o r task ask) (idle x) b one other = absurd one
  state_waits (state.Waiting o r task ask) (ended c) b one other = absurd one
  state_waits (state.Waiting o r task ask) (waiting x t c) (idle y) one other = absurd other
  state_waits (state.Waiting o r task ask) (waiting x t c) (waiting y u d) one other = refl
  state_waits (state.Waiting o r task ask) (waiting x t c) (ended d) one other = absurd other
  state_waits (state.Ended c) (idle x) b one other = absurd one
  state_waits (state.Ended c) (waiting x t d) b one other = absurd one
  state_waits (state.Ended c) (ended d) (idle y) one other = absurd other
  state_waits (state.Ended c) (ended d) (waiting y t x) one other = absurd other
  state_waits (state.Ended c) (ended d) (ended x) one other = refl

  state_enters : (s : State T) (a b : seen.State) → IsState see l s a → IsState see k s b → (e : Event) → may_enter (serves a) e ≡ may_enter (serves b) e
  state_enters (state.Idle o) (idle x) (idle y) one other e = eligible_alike o x y one other e
  state_enters (state.Idle o) (idle x) (waiting y t c) one other e = absurd other
  state_enters (state.Idle o) (idle x) (ended c) one other e = absurd other
  state_enters (state.Idle o) (waiting x t c) b one other e = absurd one
  state_enters (state.Idle o) (ended c) b one other e = absurd one
  state_enters (state.Waiting o r task ask) (idle x) b one other e = absurd one
  state_enters (state.Waiting o r task ask) (ended c) b one other e = absurd one
  state_enters (state.Waiting o r task ask) (waiting x t c) (idle y) one other e = absurd other
  state_enters (state.Waiting o r task ask) (waiting x t c) (waiting y u d) one other e = refl
  state_enters (state.Waiting o r task ask) (waiting x t c) (ended d) one other e = absurd other
  state_enters (state.Ended c) (idle x) b one other e = absurd one
  state_enters (state.Ended c) (waiting x t d) b one other e = absurd one
  state_enters (state.Ended c) (ended d) (idle y) one other e = absurd other
  state_enters (state.Ended c) (ended d) (waiting y t x) one other e = absurd other
  state_enters (state.Ended c) (ended d) (ended x) one other e = refl

  mode_waits : (m : HeldMode T) (a b : Mode) → IsMode see l m a → IsMode see k m b → waits a ≡ waits b
  mode_waits (held.Serves s) (serves a) (serves b) one other = state_waits s a b one other
  mode_waits (held.Serves s) (serves a) (down call) one other = absurd other
  mode_waits (held.Serves s) (down call) b one other = absurd one
  mode_waits (held.Down call) (serves a) b one other = absurd one
  mode_waits (held.Down call) (down x) (serves b) one other = absurd other
  mode_waits (held.Down call) (down x) (down y) one other = ap (λ (z : Option Event). waits (down z)) (sym one ∙ other)
  mode_waits held.Stopped a b one other = absurd one

  mode_enters : (m : HeldMode T) (a b : Mode) → IsMode see l m a → IsMode see k m b → (e : Event) → may_enter a e ≡ may_enter b e
  mode_enters (held.Serves s) (serves a) (serves b) one other e = state_enters s a b one other e
  mode_enters (held.Serves s) (serves a) (down call) one other e = absurd other
  mode_enters (held.Serves s) (down call) b one other e = absurd one
  mode_enters (held.Down call) (serves a) b one other e = absurd one
  mode_enters (held.Down call) (down x) (serves b) one other e = absurd other
  mode_enters (held.Down call) (down x) (down y) one other e = refl
  mode_enters held.Stopped a b one other e = absurd one

any_alike : {X : Type 0} (p q : X → Bool) (xs : List X) → ((x : X) → p x ≡ q x) → list_any p xs ≡ list_any q xs
any_alike p q [] same = refl
any_alike p q (x ∷ xs) same = ap (λ (b : Bool). b || list_any p xs) (same x) ∙ ap (λ (b : Bool). q x || b) (any_alike p q xs same)

-- A class that a front may have.
pub class_for : (class : Option ℕ) → (c : ℕ) × IsClass class c
class_for None = (0, tt)
class_for (Some class) = (class, refl)

module _ {T : Type 0} (see : T → Paused) (script : Script) (h : Half T) (a b : Stood) (one : IsHalf see script h a) (other : IsHalf see script h b) where
  pub stuck_alike : a.stuck ≡ b.stuck
  stuck_alike = sym one.stuck ∙ other.stuck

  b_class : (c : ℕ) → IsClass a.class c → IsClass b.class c
  b_class c is = subst (λ (class : Option ℕ). IsClass class c) (sym one.class ∙ other.class) is

  pub waits_alike : waits a.front.mode ≡ waits b.front.mode
  waits_alike =
      let c = class_for a.class in
      mode_waits see _ _ h.mode a.front.mode b.front.mode (one.mode c.0 c.1) (other.mode c.0 (b_class c.0 c.1))

  pub enters_alike : list_any (may_enter a.front.mode) a.deferred ≡ list_any (may_enter b.front.mode) b.deferred
  enters_alike =
      let c = class_for a.class in
      any_alike (may_enter a.front.mode) (may_enter b.front.mode) a.deferred
      (λ e. mode_enters see _ _ h.mode a.front.mode b.front.mode (one.mode c.0 c.1) (other.mode c.0 (b_class c.0 c.1)) e)
      ∙ ap (λ (es : List Event). list_any (may_enter b.front.mode) es) (sym one.deferred ∙ other.deferred)
