-- What is done with a call, whatever kind of call it is.
use Rattle.std.proofs.Common.{◌≡◌, ℕ, Bool, List, Result, Ok, Err, IfOk, refl, sym, ap, subst, arith}
use Rattle.std.specs.declared.alloc.Global.{Global}
use Rattle.std.specs.declared.vec.Vec.{Vec}
use Rattle.do_value.specs.declared.value.Value.{Value}
use Rattle.script_state.specs.declared.state.State.{State}
use Rattle.script_steps.specs.declared.focus.Focus.{Focus}
use Rattle.script_steps.specs.declared.focus.Focus.TheVariants as focus
use Rattle.script_steps.specs.declared.path.Await.{Await}
use Rattle.script_steps.specs.declared.path.Callee.{Callee}
use Rattle.script_steps.specs.declared.path.Callee.TheVariants as callee
use Rattle.script_eval.specs.Acts.{Acts, Changes, Unfolds}
use Rattle.script_eval.specs.declared.act.Act.{Act}
use Rattle.script_eval.specs.declared.act.Act.TheVariants as act

-- A part whose kind is known, and that doesn't ask for the class.
pub changes_ok : {E : Type 0} (has_handler : Bool) (f g : Focus) (old new : State) (r : Result Act E) → f ≡ g → IfOk r (Changes g old new)
    → IfOk r (Acts has_handler f old new)
changes_ok has_handler f g old new (Ok a) is p = subst (λ x. Acts has_handler x old new a) (sym is) (p has_handler)
changes_ok has_handler f g old new (Err e) is p = p

-- The same of one that does.
pub acts_ok : {E : Type 0} (has_handler : Bool) (f g : Focus) (old new : State) (r : Result Act E) → f ≡ g → IfOk r (Acts has_handler g old new)
    → IfOk r (Acts has_handler f old new)
acts_ok has_handler f g old new r is p = subst (λ x. IfOk r (Acts has_handler x old new)) (sym is) p

-- A call of a helper is for the machine.
pub helps_acts : (awaited : Await) (name : List ℕ) (got : Vec Value Global) (s : State) → Unfolds (focus.Call (callee.Object awaited name) got) s (act.Helps awaited name got)
helps_acts awaited name got s = λ has_handler. record { same = λ calls are next rs. refl; less = omega arith; ready = tt }

-- A call whose kind is known.
pub call_changes : {E : Type 0} (has_handler : Bool) (c d : Callee) (got : Vec Value Global) (old new : State) (r : Result Act E) → c ≡ d
    → IfOk r (Changes (focus.Call d got) old new) → IfOk r (Acts has_handler (focus.Call c got) old new)
call_changes has_handler c d got old new r is p = changes_ok has_handler (focus.Call c got) (focus.Call d got) old new r (ap (λ x. focus.Call x got) is) p

-- The same of one that leaves what the task has.
pub call_unfolds : {E : Type 0} (has_handler : Bool) (c d : Callee) (got : Vec Value Global) (s : State) (r : Result Act E) → c ≡ d
    → IfOk r (Unfolds (focus.Call d got) s) → IfOk r (Acts has_handler (focus.Call c got) s s)
call_unfolds has_handler c d got s r is p = call_changes has_handler c d got s s r is p

-- The same of a call of the storage.
pub call_acts : {E : Type 0} (has_handler : Bool) (c d : Callee) (got : Vec Value Global) (old new : State) (r : Result Act E) → c ≡ d
    → IfOk r (Acts has_handler (focus.Call d got) old new) → IfOk r (Acts has_handler (focus.Call c got) old new)
call_acts has_handler c d got old new r is p = acts_ok has_handler (focus.Call c got) (focus.Call d got) old new r (ap (λ x. focus.Call x got) is) p

-- The same of a call of a helper.
pub call_helps : (has_handler : Bool) (c d : Callee) (got : Vec Value Global) (s : State) (a : Act) → c ≡ d → Unfolds (focus.Call d got) s a
    → Acts has_handler (focus.Call c got) s s a
call_helps has_handler c d got s a is p = subst (λ x. Acts has_handler (focus.Call x got) s s a) (sym is) (p has_handler)
