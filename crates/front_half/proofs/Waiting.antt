-- What callers wait for, by the tasks that are held.
use Rattle.std.proofs.Common.{◌≡◌, ◌∙◌, refl, sym, ap, ℕ, List, [], ◌∷◌, ◌++◌, map, true, false, cond}
use Rattle.std.specs.Prelude.{Bool, if◌then◌else◌, Option, Some, unwrap_or}
use Rattle.std.specs.BTreeSet.{BTreeSet, contains}
use Rattle.std.specs.List.{flat_map, list_any}
use Rattle.std.specs.Ordering.{nat_cmp}
use Rattle.timeline.specs.Left.{call_waits, is_answer_to, is_for, left_call, task_of, task_waits, wait_of}
use Rattle.timeline.specs.Object.{Life, OpenTask, Purpose}
use Rattle.timeline.specs.Object as seen
use Rattle.timeline.specs.Steps.{latest_turn}
use Rattle.timeline.specs.declared.caller.Caller.{Caller}
use Rattle.timeline.specs.declared.event.Event.{Event}
use Rattle.timeline.specs.declared.notice.Waits.{Waits}
use Rattle.timeline.specs.declared.notice.Waits.TheVariants as waits
use Rattle.front_turns.specs.Paused.{Paused}
use Rattle.front_turns.specs.Held.{AreHeld, IsHeld, purpose_of, waits_of}
use Rattle.front_turns.specs.declared.object.Held.{Held}
use Rattle.front_half.specs.Leaving.{first_wait, held_wait, with_wait}
use Rattle.front_half.specs.declared.by_caller.ByCaller.{ByCaller}

one_of : {X : Type 0} (b : Bool) (x y : X) → (if b then x ∷ [] else y ∷ []) ≡ (if b then x else y) ∷ []
one_of true x y = refl
one_of false x y = refl

module _ (l : Life) (deferred : List Event) (answers : BTreeSet ℕ)
    (noted : (number : ℕ) → contains nat_cmp answers number ≡ list_any (is_answer_to l.incarnation number) deferred) where
  -- a held task waits for what is kept of it
  held_waits : {T : Type 0} (see : T → Paused) (h : ℕ × Held T) (t : OpenTask) → IsHeld see l h t
      → task_waits l deferred t ≡ held_wait answers l.incarnation h.0 h.1.awaited ∷ []
  held_waits see h t held =
      ap (λ (b : Bool). if b then waits.Block ∷ [] else wait_of l t (latest_turn l t)) (sym (noted t.number))
      ∙ ap (λ (ws : List Waits). if contains nat_cmp answers t.number then waits.Block ∷ [] else ws) held.waits
      ∙ ap (λ (n : ℕ). if contains nat_cmp answers n then waits.Block ∷ [] else waits_of l.incarnation n h.1.awaited ∷ []) held.number
      ∙ one_of (contains nat_cmp answers h.0) waits.Block (waits_of l.incarnation h.0 h.1.awaited)

  -- the first held task that serves a caller is the first open one
  pub waits_by_held : {T : Type 0} (see : T → Paused) (from : Caller) (hs : List (ℕ × Held T)) (ts : List OpenTask) → AreHeld see l hs ts
      → call_waits l deferred (task_of from ts) ≡ unwrap_or (first_wait answers l.incarnation hs from) waits.Block ∷ []
  waits_by_held see from [] [] held = refl
  waits_by_held see from [] (t ∷ ts) held = elim held [ ]
  waits_by_held see from (h ∷ hs) [] held = elim held [ ]
  waits_by_held see from (h ∷ hs) (t ∷ ts) held =
      ap (λ (p : Purpose). call_waits l deferred (cond (is_for from p) (Some t) (task_of from ts))) held.0.paused.running.purpose
      ∙ at_first (is_for from (purpose_of h.1.running.purpose)) (waits_by_held see from hs ts held.1)
    where
      at_first : (b : Bool) → call_waits l deferred (task_of from ts) ≡ unwrap_or (first_wait answers l.incarnation hs from) waits.Block ∷ []
          → call_waits l deferred (cond b (Some t) (task_of from ts))
          ≡ unwrap_or (if b then Some (held_wait answers l.incarnation h.0 h.1.awaited) else first_wait answers l.incarnation hs from) waits.Block ∷ []
      at_first true later = held_waits see h t held.0
      at_first false later = later

  -- so what is kept for a caller says what the caller waits for
  pub call_by_held : {T : Type 0} (see : T → Paused) (served : Option Waits) (from : Caller) (hs : List (ℕ × Held T)) (o : seen.Object) → AreHeld see l hs o.tasks
      → served ≡ first_wait answers l.incarnation hs from → left_call l o deferred from ≡ (from, unwrap_or served waits.Block) ∷ []
  call_by_held see served from hs o held is =
      ap (λ (ws : List Waits). map (λ (w : Waits). (from, w)) ws) (waits_by_held see from hs o.tasks held)
      ∙ ap (λ (w : Option Waits). (from, unwrap_or w waits.Block) ∷ []) (sym is)

-- The same for an incarnation by its number.
pub call_of_caller : {T : Type 0} (see : T → Paused) (l : Life) (incarnation : ℕ) (deferred : List Event) (answers : BTreeSet ℕ) (served : Option Waits) (from : Caller)
    (hs : List (ℕ × Held T)) (o : seen.Object) → l.incarnation ≡ incarnation
    → ((number : ℕ) → contains nat_cmp answers number ≡ list_any (is_answer_to incarnation number) deferred) → AreHeld see l hs o.tasks
    → served ≡ first_wait answers incarnation hs from → left_call l o deferred from ≡ (from, unwrap_or served waits.Block) ∷ []
call_of_caller see l incarnation deferred answers served from hs o same noted held is =
    call_by_held l deferred answers (λ number. noted number ∙ ap (λ (i : ℕ). list_any (is_answer_to i number) deferred) (sym same)) see served from hs o held
    (is ∙ ap (λ (i : ℕ). first_wait answers i hs from) (sym same))

-- Where each caller's wait is known, those of several are.
each_call : (l : Life) (o : seen.Object) (deferred : List Event) (served : ByCaller Waits) → ((from : Caller) → left_call l o deferred from ≡ with_wait served from ∷ [])
    → (callers : List Caller) → map (with_wait served) callers ≡ flat_map (left_call l o deferred) callers
each_call l o deferred served known [] = refl
each_call l o deferred served known (from ∷ callers) =
    ap (λ (ws : List (Caller × Waits)). with_wait served from ∷ ws) (each_call l o deferred served known callers)
    ∙ ap (λ (here : List (Caller × Waits)). here ++ flat_map (left_call l o deferred) callers) (sym (known from))

pub calls_left : (l : Life) (o : seen.Object) (deferred : List Event) (served : ByCaller Waits) (callers all : List Caller) (calls : List (Caller × Waits))
    → ((from : Caller) → left_call l o deferred from ≡ with_wait served from ∷ []) → callers ≡ all → calls ≡ map (with_wait served) callers
    → calls ≡ flat_map (left_call l o deferred) all
calls_left l o deferred served callers all calls known found with_waits =
    with_waits ∙ each_call l o deferred served known callers ∙ ap (λ (cs : List Caller). flat_map (left_call l o deferred) cs) found
