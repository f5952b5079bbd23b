-- What one line or message gives, case by case.
use Rattle.std.proofs.Common.{◌≡◌, ◌<◌, ℕ, List, [], ◌∷◌, length, set, None, Some, refl, sym, ap, subst, ◌∙◌}
use Rattle.std.specs.Prelude.{Result, Ok, Err, IfOk, OnOk}
use Rattle.std.proofs.lemmas.List.{length-set}
use Rattle.do_tree.specs.Lookup.{class_named, method_named}
use Rattle.do_tree.specs.Tree.{Script}
use Rattle.do_value.specs.declared.fault.NoMemory.{NoMemory}
use Rattle.do_value.specs.declared.value.Value.{Value}
use Rattle.line_server.specs.declared.out_line.OutLine as out
use Rattle.timeline.specs.Lines.{Identity, OutLine}
use Rattle.timeline.specs.Switch as switch
use Rattle.timeline.specs.Switch.{Switch, answers_to, calls_object, calls_class, calls_method, calls_in, slot_of, free_slot, posts, prints}
use Rattle.timeline.specs.declared.caller.Caller.{Caller}
use Rattle.timeline.specs.declared.caller.Caller.TheVariants as from
use Rattle.timeline.specs.declared.caller.Failure.{Failure}
use Rattle.timeline.specs.declared.caller.Failure.TheVariants as failure
use Rattle.timeline.specs.declared.event.Event.{Event}
use Rattle.timeline.specs.declared.event.Event.TheVariants as event
use Rattle.mailbox.specs.declared.given.Given.{Given}
use Rattle.mailbox.specs.Givens.{IsGiven, lines_in}
use Rattle.mailbox.specs.Seen.{seen_out}

-- ---- what the code gives is what is wanted
-- The switch once this slot has the object.
abbrev pub with_slot : Switch → ℕ → Identity → Switch
with_slot s slot object = record s { objects = set s.objects slot (Some object) }

pub slot_still : (s : Switch) (slot : ℕ) (object : Identity) → slot < length s.objects → slot < length (with_slot s slot object).objects
slot_still s slot object within = subst (λ (n : ℕ). slot < n) (sym (length-set s.objects slot (Some object))) within

module _ (r : Result Given NoMemory) (wanted : switch.Given) where
  pub if_post : (slot : ℕ) (e : Event) (s : Switch) → wanted ≡ posts s ((slot, e) ∷ []) → slot < length s.objects
      → IfOk r (λ g. g.posts.items ≡ (slot, e) ∷ []) → IfOk r (λ g. g.line ≡ None) → IfOk r (λ g. IsGiven g wanted)
  if_post slot e s is within sent none = by r sent none
    where
      by : (r : Result Given NoMemory) → IfOk r (λ g. g.posts.items ≡ (slot, e) ∷ []) → IfOk r (λ g. g.line ≡ None) → IfOk r (λ g. IsGiven g wanted)
      by (Err fault) sent none = tt
      by (Ok g) sent none =
          subst (IsGiven g) (sym is) (record { posts = sent; lines = ap lines_in none; within = (within, tt) })

  pub if_both : (slot : ℕ) (e f : Event) (s : Switch) → wanted ≡ posts s ((slot, e) ∷ (slot, f) ∷ []) → slot < length s.objects
      → IfOk r (λ g. g.posts.items ≡ (slot, e) ∷ (slot, f) ∷ []) → IfOk r (λ g. g.line ≡ None) → IfOk r (λ g. IsGiven g wanted)
  if_both slot e f s is within sent none = by r sent none
    where
      by : (r : Result Given NoMemory) → IfOk r (λ g. g.posts.items ≡ (slot, e) ∷ (slot, f) ∷ []) → IfOk r (λ g. g.line ≡ None) → IfOk r (λ g. IsGiven g wanted)
      by (Err fault) sent none = tt
      by (Ok g) sent none =
          subst (IsGiven g) (sym is) (record { posts = sent; lines = ap lines_in none; within = (within, (within, tt)) })

  pub if_as : (other : switch.Given) → wanted ≡ other → IfOk r (λ g. IsGiven g other) → IfOk r (λ g. IsGiven g wanted)
  if_as other is given = subst (λ (w : switch.Given). IfOk r (λ g. IsGiven g w)) (sym is) given

module _ (g : Given) (s : Switch) (wanted : switch.Given) where
  pub is_line : (line : out.OutLine) (seen : OutLine) → wanted ≡ prints s seen → seen_out line ≡ seen → g.posts.items ≡ [] → g.line ≡ Some line → IsGiven g wanted
  is_line line seen is same none some =
      subst (IsGiven g) (sym is) (record { posts = none; lines = ap lines_in some ∙ ap (λ (l : OutLine). l ∷ []) same; within = tt })

pub on_ok : {T E P : Type 0} (r : Result T E) → P → OnOk r P
on_ok (Ok x) p = p
on_ok (Err e) p = tt

-- who waits for it gets the result, and the switch goes by what it did
pub answered : (s : Switch) (caller : Caller) (result : Result Value Failure) → (answers_to s caller result).after ≡ s
answered s (from.Request line number) result = refl
answered s (from.Object slot incarnation number) result = refl

-- ---- a call of a method that the script has
module _ (script : Script) (s : Switch) (caller : Caller) (to : Identity) (method : List ℕ) (args : List Value) (depth : ℕ)
    (class : ℕ) (known : class_named script to.0 ≡ Some class) (m : ℕ) (has : method_named script class method ≡ Some m) where
  sent : calls_object script s caller to method args depth ≡ calls_in s to (event.Call caller m args depth s.tick) (slot_of s to) (free_slot s) caller
  sent = ap (calls_class script s caller to method args depth) known ∙ ap (calls_method s caller to args depth) has

  pub to_new : (slot : ℕ) → (slot_of s to ≡ None) × (free_slot s ≡ Some slot) → calls_object script s caller to method args depth
      ≡ posts (with_slot s slot to) ((slot, event.Bind to) ∷ (slot, event.Call caller m args depth s.tick) ∷ [])
  to_new slot h = sent ∙ (λ i. calls_in s to (event.Call caller m args depth s.tick) (h.0 i) (h.1 i) caller)

  pub to_none : (slot_of s to ≡ None) × (free_slot s ≡ None)
      → calls_object script s caller to method args depth ≡ answers_to s caller (Err (failure.NoSlot (length s.objects)))
  to_none h = sent ∙ (λ i. calls_in s to (event.Call caller m args depth s.tick) (h.0 i) (h.1 i) caller)
