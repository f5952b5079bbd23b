-- Helpers, looked up and called as the code does that.
use Rattle.std.proofs.Common.{◌≡◌, ℕ, ◌+◌, List, [], ◌∷◌, Option, Some, None, refl, sym, ap, ◌∙◌, subst}
use Rattle.std.specs.Prelude.{option_map}
use Rattle.std.specs.List.{find}
use Rattle.std.specs.declared.alloc.Global.{Global}
use Rattle.std.specs.declared.sync.Arc.{Arc}
use Rattle.std.specs.declared.vec.Vec.{Vec}
use Rattle.do_tree.specs.Lookup.{is_named}
use Rattle.do_tree.specs.Seen.{class_of, method_of}
use Rattle.do_tree.specs.declared.script.Class.{Class}
use Rattle.do_tree.specs.declared.script.Method.{Method}
use Rattle.do_tree.specs.declared.stmt.Block.{Block}
use Rattle.do_value.specs.Seen.{trees_in}
use Rattle.do_value.specs.declared.value.Value.{Value}
use Rattle.script_mean.specs.Meaning.{method_in, method_scope}
use Rattle.script_steps.specs.declared.focus.Focus.{Focus}
use Rattle.script_steps.specs.declared.focus.Focus.TheVariants as focus
use Rattle.script_steps.specs.declared.path.Await.{Await}
use Rattle.script_eval.specs.declared.frames.Layer.{Layer}
use Rattle.script_eval.specs.declared.frames.Layer.TheVariants as layer
use Rattle.script_vars.specs.Seen.{env_of}
use Rattle.script_vars.specs.declared.bound.Bound.{Bound}
use Rattle.script_eval.proofs.Led.{find_seen}
use Rattle.script_eval.specs.Machines.{Calls}
use Rattle.script_eval.specs.Leads as leads
use Rattle.script_eval.specs.declared.machine.Machine.{Machine}

-- No method has the name,
pub none_named : {A : Type 0} (g : A → Method) (r : Option A) (class : Class) (name text : List ℕ) → text ≡ name
    → option_map g r ≡ find (λ m. is_named text (method_of m)) class.methods.items → r ≡ None → method_in (class_of class) name ≡ None
none_named g r class name text is_text found none =
    find_seen name class.methods.items
    ∙ ap (λ x. option_map method_of (find (λ m. is_named x (method_of m)) class.methods.items)) (sym is_text)
    ∙ ap (option_map method_of) (sym found)
    ∙ ap (λ x. option_map method_of (option_map g x)) none

-- or this one has it.
pub one_named : {A : Type 0} (g : A → Method) (r : Option A) (a : A) (class : Class) (name text : List ℕ) → text ≡ name
    → option_map g r ≡ find (λ m. is_named text (method_of m)) class.methods.items → r ≡ Some a → method_in (class_of class) name ≡ Some (method_of (g a))
one_named g r a class name text is_text found some =
    find_seen name class.methods.items
    ∙ ap (λ x. option_map method_of (find (λ m. is_named x (method_of m)) class.methods.items)) (sym is_text)
    ∙ ap (option_map method_of) (sym found)
    ∙ ap (λ x. option_map method_of (option_map g x)) some

-- A machine inside one more helper call, with these variables and frames.
abbrev deeper : Machine → List (List (List ℕ × Bound)) → List Layer → Machine
deeper m vars fs = record m { state = record m.state { vars = vars }; frames = fs; depth = m.depth + 1 }

-- The body of a helper is next.
pub called_body : (f : Method) (awaited : Await) (args : Vec Value Global) (old : Machine) (vars after caller : List (List (List ℕ × Bound))) (b : Arc Block Global) (fs : List Layer)
    → after ≡ vars → caller ≡ old.state.vars → fs ≡ layer.Caller awaited caller ∷ old.frames → b.value ≡ f.body.value
    → env_of vars ≡ method_scope (method_of f) (trees_in args.items) ∷ []
    → Calls f awaited args old (record old { state = record old.state { vars = after }; frames = fs; depth = old.depth + 1 }) (leads.On (focus.Body b 0))
called_body f awaited args old vars after caller b fs is_after is_caller is_fs bt scope = (
  vars,
  b,
  refl,
  bt,
  scope,
  ap (λ x. deeper old x fs) is_after
      ∙ ap (deeper old vars) (is_fs ∙ ap (λ c. layer.Caller awaited c ∷ old.frames) is_caller),
)

-- The same where the body was put.
pub put_calls : (f : Method) (awaited : Await) (args : Vec Value Global) (old new : Machine) (g h : Focus) → h ≡ g → Calls f awaited args old new (leads.On g)
    → Calls f awaited args old new (leads.On h)
put_calls f awaited args old new g h is calls = subst (λ x. Calls f awaited args old new (leads.On x)) (sym is) calls
