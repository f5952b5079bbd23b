-- What was done inside the frames of a machine leads on.
use Rattle.std.proofs.Common.{◌≡◌, ℕ, suc, ◌+◌, ◌-◌, ◌<◌, ◌≤◌, Bool, true, false, List, [], ◌∷◌, map, Option, Some, None, refl, sym, ap, ◌∙◌, subst, zero, arith}
use Rattle.std.specs.declared.alloc.Global.{Global}
use Rattle.std.specs.declared.vec.Vec.{Vec}
use Rattle.std.specs.Prelude.{cond, option_map}
use Rattle.std.specs.List.{find}
use Rattle.do_tree.specs.Lookup.{is_named}
use Rattle.do_tree.specs.Nodes.{block_in}
use Rattle.do_tree.specs.Seen.{method_of}
use Rattle.do_tree.specs.Tree as tree
use Rattle.do_tree.specs.Tree.{Class}
use Rattle.do_tree.specs.declared.script.Method.{Method}
use Rattle.do_value.specs.Seen.{tree_of, trees_in}
use Rattle.do_value.specs.declared.value.Value.{Value}
use Rattle.do_value.specs.declared.value.Value.TheVariants.{Undefined}
use Rattle.script_mean.specs.Limits.{most_helpers}
use Rattle.script_mean.specs.Answers.{threw}
use Rattle.script_mean.specs.Calls as mean
use Rattle.script_mean.specs.Errors.{nested_too_deep}
use Rattle.script_mean.specs.Frames.{Frame, callers}
use Rattle.script_mean.specs.Meaning.{body, calls_of, has_alarm_handler, helped, method_in, method_scope, to_caller}
use Rattle.script_mean.specs.Task as task
use Rattle.script_mean.specs.Task.{Env, Resume}
use Rattle.script_mean.specs.Turn as turn
use Rattle.script_state.specs.Seen.{state_of}
use Rattle.script_state.specs.declared.done.Done.TheVariants as done
use Rattle.script_state.specs.declared.state.State.{State}
use Rattle.script_steps.specs.Paths.{is_present, path_frame_of}
use Rattle.script_steps.specs.Seen.{focus_run, frame_of, framed, handed, move_run, outcome_of}
use Rattle.script_steps.specs.Weight.{LeavesLess, focus_weight, frame_weight, move_cost}
use Rattle.script_steps.specs.declared.focus.Focus.{Focus}
use Rattle.script_steps.specs.declared.focus.Focus.TheVariants as focus
use Rattle.script_steps.specs.declared.focus.Move.{Move}
use Rattle.script_steps.specs.declared.focus.Move.TheVariants as move
use Rattle.script_steps.specs.declared.focus.Outcome.{Outcome}
use Rattle.script_steps.specs.declared.focus.Outcome.TheVariants as ending
use Rattle.script_steps.specs.declared.frame.Frame.{Frame as Waiting}
use Rattle.script_steps.specs.declared.frame.Frame.TheVariants as frame
use Rattle.script_steps.specs.declared.path.Await.{Await}
use Rattle.script_steps.specs.declared.path.PathFrame.{PathFrame}
use Rattle.script_steps.specs.declared.path.PathFrame.TheVariants as path
use Rattle.script_vars.specs.Seen.{env_of}
use Rattle.script_vars.specs.declared.bound.Bound.{Bound}
use Rattle.script_paths.proofs.Charged.{charged_exceeds, charged_takes}
use Rattle.script_eval.specs.Acts.{Acts, IsLess, IsReadyAct, act_turns}
use Rattle.script_eval.specs.Machines.{Applies, Calls, Finishes, IsBelow, IsDeep, LeadsTo, Steps, calls_in, frames_of, frames_weight, next_in, to_go, turns_of}
use Rattle.script_eval.specs.declared.act.Act.{Act}
use Rattle.script_eval.specs.declared.act.Act.TheVariants as act
use Rattle.script_eval.specs.declared.frames.Layer.{Layer}
use Rattle.script_eval.specs.declared.frames.Layer.TheVariants as layer
use Rattle.script_eval.specs.Leads.{Leads}
use Rattle.script_eval.specs.Leads as leads
use Rattle.script_eval.specs.declared.machine.Machine.{Machine}
use Rattle.script_eval.specs.declared.machine.Stop.TheVariants as stop

-- A frame of a path is no caller.
path_inner : (f : PathFrame) (fs : List Frame) → callers (path_frame_of f ∷ fs) ≡ callers fs
path_inner (path.Walk awaited e n) fs = refl
path_inner f fs = refl

-- A frame leaves the count.
pub inner_count : (w : Waiting) (fs : List Frame) → callers (frame_of w ∷ fs) ≡ callers fs
inner_count (frame.Path f) fs = path_inner f.value fs
inner_count w fs = refl

-- A part inside a frame.
pushed_turns : (class : Class) (starts : Bool) (w : Waiting) (ls : List Layer) (f : Focus) (env : Env) (st : turn.State)
    → framed (calls_in class ls) (frame_of w) (focus_run (calls_in class ls) f) env (next_in class starts ls) st
    ≡ focus_run (calls_in class (layer.Inner w ∷ ls)) f env (next_in class starts (layer.Inner w ∷ ls)) st
pushed_turns class starts w ls f env st =
    ap (λ n. focus_run (calls_of class (most_helpers - n)) f env (next_in class starts (layer.Inner w ∷ ls)) st) (sym (inner_count w (frames_of ls)))

-- A move without a frame.
pub then_leads : (old new : Machine) (cost : ℕ) (f : Focus) → IsDeep old → cost ≤ old.state.left
    → new ≡ record old { state = record old.state { left = old.state.left - cost } }
    → (class : Class) → Applies class (act.Moves (move.Then cost f)) old new (leads.On f)
then_leads old new cost f deep enough is class before below ready =
    let next : Machine = record old { state = record old.state { left = old.state.left - cost } } in
    let less : to_go f next < before = omega (arith, below, enough) in
    record {
      same = λ starts rs.
          charged_takes cost (focus_run (calls_in class old.frames) f) (env_of old.state.vars) (next_in class starts old.frames) (state_of old.state rs) enough
          ∙ ap (λ m. turns_of class starts f m rs) (sym is);
      deep = ap (λ (m : Machine). m.depth) is ∙ deep ∙ ap (λ (m : Machine). callers (frames_of m.frames)) (sym is);
      less = subst (λ m. to_go f m < before) (sym is) less;
      ready = tt;
    }

-- A move with one.
pub inside_leads : (old new : Machine) (cost : ℕ) (w : Waiting) (f : Focus) → IsDeep old → cost ≤ old.state.left
    → new ≡ record old { state = record old.state { left = old.state.left - cost }; frames = layer.Inner w ∷ old.frames }
    → (class : Class) → Applies class (act.Moves (move.Inside cost w f)) old new (leads.On f)
inside_leads old new cost w f deep enough is class before below ready =
    let next : Machine = record old { state = record old.state { left = old.state.left - cost }; frames = layer.Inner w ∷ old.frames } in
    let less : to_go f next < before = omega (arith, below, enough) in
    record {
      same = λ starts rs.
          charged_takes cost (framed (calls_in class old.frames) (frame_of w) (focus_run (calls_in class old.frames) f)) (env_of old.state.vars) (next_in class starts old.frames) (state_of old.state rs) enough
          ∙ pushed_turns class starts w old.frames f (env_of old.state.vars) (record (state_of old.state rs) { left = old.state.left - cost })
          ∙ ap (λ m. turns_of class starts f m rs) (sym is);
      deep = ap (λ (m : Machine). m.depth) is ∙ deep ∙ sym (inner_count w (frames_of old.frames)) ∙ ap (λ (m : Machine). callers (frames_of m.frames)) (sym is);
      less = subst (λ m. to_go f m < before) (sym is) less;
      ready = tt;
    }

-- A move whose steps are not left.
pub exceed_leads : (old new : Machine) (m : Move) → IsDeep old → old.state.left < move_cost m → new ≡ old
    → (class : Class) → Applies class (act.Moves m) old new (leads.To stop.Exceeded)
exceed_leads old new (move.Then cost f) deep none is class before below ready =
    record {
      same = λ starts rs.
          charged_exceeds cost (focus_run (calls_in class old.frames) f) (env_of old.state.vars) (next_in class starts old.frames) (state_of old.state rs) none
          ∙ ap (λ (m : Machine). task.exceeded m.state.closed.items ∷ []) (sym is);
      deep = ap (λ (m : Machine). m.depth) is ∙ deep ∙ ap (λ (m : Machine). callers (frames_of m.frames)) (sym is);
      less = tt;
      ready = tt;
    }
exceed_leads old new (move.Inside cost w f) deep none is class before below ready =
    record {
      same = λ starts rs.
          charged_exceeds cost (framed (calls_in class old.frames) (frame_of w) (focus_run (calls_in class old.frames) f)) (env_of old.state.vars) (next_in class starts old.frames) (state_of old.state rs) none
          ∙ ap (λ (m : Machine). task.exceeded m.state.closed.items ∷ []) (sym is);
      deep = ap (λ (m : Machine). m.depth) is ∙ deep ∙ ap (λ (m : Machine). callers (frames_of m.frames)) (sym is);
      less = tt;
      ready = tt;
    }

-- A block that was entered inside a frame.
pub enter_leads : (old new : Machine) (w : Waiting) (f : Focus) → IsDeep old → new ≡ record old { frames = layer.Inner frame.Leave ∷ layer.Inner w ∷ old.frames }
    → (class : Class) → Applies class (act.Enters w f) old new (leads.On f)
enter_leads old new w f deep is class before below ready =
    let next : Machine = record old { frames = layer.Inner frame.Leave ∷ layer.Inner w ∷ old.frames } in
    let less : to_go f next < before = omega (arith, below) in
    record {
      same = λ starts rs.
          ap (λ n. focus_run (calls_of class (most_helpers - n)) f (env_of old.state.vars) (next_in class starts (layer.Inner frame.Leave ∷ layer.Inner w ∷ old.frames)) (state_of old.state rs)) (sym (inner_count w (frames_of old.frames)))
          ∙ ap (λ m. turns_of class starts f m rs) (sym is);
      deep = ap (λ (m : Machine). m.depth) is ∙ deep ∙ sym (inner_count w (frames_of old.frames)) ∙ ap (λ (m : Machine). callers (frames_of m.frames)) (sym is);
      less = subst (λ m. to_go f m < before) (sym is) less;
      ready = tt;
    }

-- No frame is left: the task is at its end.
pub over_leads : (old new : Machine) (o : Outcome) → IsDeep old → old.frames ≡ [] → new ≡ old
    → (class : Class) → Finishes class o old new (leads.To (stop.Over o))
over_leads old new o deep none is class before below =
    record {
      same = λ starts rs.
          ap (λ fs. next_in class starts fs (outcome_of o) (env_of old.state.vars) (state_of old.state rs)) none
          ∙ ap (λ (m : Machine). next_in class starts [] (outcome_of o) (env_of m.state.vars) (state_of m.state rs)) (sym is);
      deep = ap (λ (m : Machine). m.depth) is ∙ deep ∙ ap (λ (m : Machine). callers (frames_of m.frames)) (sym is);
      less = tt;
      ready = tt;
    }

-- The innermost frame goes on, by a move of the machine without it.
pub pop_leads : (old popped new : Machine) (w : Waiting) (o : Outcome) (m : Move) (n : Leads) → old.frames ≡ layer.Inner w ∷ popped.frames → popped.state ≡ old.state
    → ((calls : mean.Calls) → handed calls (frame_of w) (outcome_of o) ≡ move_run calls m) → LeavesLess (frame_weight w + 8) m
    → ((class : Class) → Applies class (act.Moves m) popped new n)
    → (class : Class) → Finishes class o old new n
pop_leads old popped new w o m n frames kept same less led class before below =
    let weighs : frames_weight old.frames ≡ frame_weight w + frames_weight popped.frames = ap frames_weight frames in
    let left : popped.state.left ≡ old.state.left = ap (λ (s : State). s.left) kept in
    let inner : LeadsTo class (λ starts rs. act_turns (calls_in class popped.frames) (act.Moves m) popped.state (next_in class starts popped.frames) rs) before new n = led class before (omega (arith, below, less, weighs, left)) tt in
    record {
      same = λ starts rs.
          ap (λ fs. next_in class starts fs (outcome_of o) (env_of old.state.vars) (state_of old.state rs)) frames
          ∙ ap (λ (s : State). next_in class starts (layer.Inner w ∷ popped.frames) (outcome_of o) (env_of s.vars) (state_of s rs)) (sym kept)
          ∙ ap (λ r. r (env_of popped.state.vars) (next_in class starts popped.frames) (state_of popped.state rs)) (same (calls_in class popped.frames))
          ∙ inner.same starts rs;
      deep = inner.deep;
      less = inner.less;
      ready = inner.ready;
    }

-- A helper's body has ended: its caller goes on with its own variables.
pub return_leads : (old new : Machine) (awaited : Await) (vars : List (List (List ℕ × Bound))) (fs : List Layer) (o : Outcome) → IsDeep old
    → old.frames ≡ layer.Caller awaited vars ∷ fs → new ≡ record old { frames = fs; depth = old.depth - 1 }
    → (class : Class) → Finishes class o old new (leads.On (focus.Return awaited vars o))
return_leads old new awaited vars fs o deep frames is class before below =
    let next : Machine = record old { frames = fs; depth = old.depth - 1 } in
    let weighs : frames_weight old.frames ≡ 2 + frames_weight fs = ap frames_weight frames in
    let less : to_go (focus.Return awaited vars o) next < before = omega (arith, below, weighs) in
    let counted : old.depth ≡ suc (callers (frames_of fs)) = deep ∙ ap (λ ls. callers (frames_of ls)) frames in
    let deeper : old.depth - 1 ≡ callers (frames_of fs) = omega (arith, counted) in
    record {
      same = λ starts rs.
          ap (λ ls. next_in class starts ls (outcome_of o) (env_of old.state.vars) (state_of old.state rs)) frames
          ∙ ap (λ m. turns_of class starts (focus.Return awaited vars o) m rs) (sym is);
      deep = subst IsDeep (sym is) deeper;
      less = subst (λ m. to_go (focus.Return awaited vars o) m < before) (sym is) less;
      ready = tt;
    }

-- The count without the innermost layer, a caller
pub popped_caller : (awaited : Await) (vars : List (List (List ℕ × Bound))) (depth : ℕ) (all fs : List Layer) → depth ≡ callers (frames_of all) → all ≡ layer.Caller awaited vars ∷ fs → depth ≡ suc (callers (frames_of fs))
popped_caller awaited vars depth all fs deep is = deep ∙ ap (λ ls. callers (frames_of ls)) is

-- or none.
pub popped_inner : (w : Waiting) (depth : ℕ) (all fs : List Layer) → depth ≡ callers (frames_of all) → all ≡ layer.Inner w ∷ fs → depth ≡ callers (frames_of fs)
popped_inner w depth all fs deep is = deep ∙ ap (λ ls. callers (frames_of ls)) is ∙ inner_count w (frames_of fs)

-- Whether a class has an alarm handler, whatever the calls that are left.
handler_is : (class : Class) (n : ℕ) → (calls_of class n).has_handler ≡ has_alarm_handler class
handler_is class zero = refl
handler_is class (suc n) = refl

-- What is less of a part is less of the machine.
below_of : (a : Act) (f : Focus) (old new : Machine) → new.frames ≡ old.frames → IsLess (focus_weight f) old.state new.state a → IsBelow (to_go f old) new a
below_of (act.Moves m) f old new kept less = let same : frames_weight new.frames ≡ frames_weight old.frames = ap frames_weight kept in omega (arith, less, same)
below_of (act.Enters w g) f old new kept less = let same : frames_weight new.frames ≡ frames_weight old.frames = ap frames_weight kept in omega (arith, less, same)
below_of (act.Does (done.Ended o)) f old new kept less = let same : frames_weight new.frames ≡ frames_weight old.frames = ap frames_weight kept in omega (arith, less, same)
below_of (act.Does (done.Asks a w)) f old new kept less = tt
below_of (act.Does done.Exceeded) f old new kept less = tt
below_of (act.Does (done.Reset v)) f old new kept less = tt
below_of (act.Helps awaited name args) f old new kept less = let same : frames_weight new.frames ≡ frames_weight old.frames = ap frames_weight kept in omega (arith, less, same)

-- What is done with a part leads on.
pub step_leads : (class : Class) (has_handler : Bool) (f : Focus) (old mid new : Machine) (s : State) (a : Act) (n : Leads)
    → has_alarm_handler class ≡ has_handler → mid ≡ record old { state = s } → Acts has_handler f old.state s a → Applies class a mid new n → Steps class f old new n
step_leads class has_handler f old mid new s a n handler is acts led =
    let state : mid.state ≡ s = ap (λ (m : Machine). m.state) is in
    let frames : mid.frames ≡ old.frames = ap (λ (m : Machine). m.frames) is in
    let less : IsLess (focus_weight f) old.state mid.state a = subst (λ x. IsLess (focus_weight f) old.state x a) (sym state) acts.less in
    let ready : IsReadyAct mid.state a = subst (λ x. IsReadyAct x a) (sym state) acts.ready in
    let all = led (to_go f old) (below_of a f old mid frames less) ready in
    record {
      same = λ starts rs.
          acts.same (calls_in class old.frames) (class, most_helpers - callers (frames_of old.frames), refl, handler_is class (most_helpers - callers (frames_of old.frames)) ∙ handler) (next_in class starts old.frames) rs
          ∙ ap (λ (m : Machine). act_turns (calls_in class m.frames) a m.state (next_in class starts m.frames) rs) (sym is)
          ∙ all.same starts rs;
      deep = all.deep;
      less = all.less;
      ready = all.ready;
    }

-- A helper call that is too deep throws.
pub deep_leads : (class : Class) (m : Machine) (awaited : Await) (name : List ℕ) (args : Vec Value Global) (v : Value) → IsDeep m → 64 ≤ m.depth → tree_of v ≡ nested_too_deep
    → Applies class (act.Helps awaited name args) m m (leads.On (focus.Ended (ending.Threw v)))
unfolding most_helpers
deep_leads class m awaited name args v deep limit is before below ready =
    let none : most_helpers - callers (frames_of m.frames) ≡ 0 = omega (arith, deep, limit) in
    record {
      same = λ starts rs.
          ap (λ n. (calls_of class n).helper (is_present awaited) name (trees_in args.items) (env_of m.state.vars) (next_in class starts m.frames) (state_of m.state rs)) none
          ∙ ap (λ t. next_in class starts m.frames (threw t) (env_of m.state.vars) (state_of m.state rs)) (sym is);
      deep = deep;
      less = omega (arith, below);
      ready = tt;
    }

-- The first of several methods, or another.
found_seen : (t : Bool) (m : Method) (o : Option tree.Method) (p : Option Method) → o ≡ option_map method_of p
    → cond t (Some (method_of m)) o ≡ option_map method_of (cond t (Some m) p)
found_seen true m o p e = refl
found_seen false m o p e = e

-- The method of a name, among those of a class.
pub find_seen : (name : List ℕ) (ms : List Method) → find (is_named name) (map method_of ms) ≡ option_map method_of (find (λ m. is_named name (method_of m)) ms)
find_seen name [] = refl
find_seen name (m ∷ ms) = found_seen (is_named name (method_of m)) m _ _ (find_seen name ms)

-- The calls that are left where they aren't too deep.
calls_left : (m : Machine) → IsDeep m → m.depth < 64 → most_helpers - callers (frames_of m.frames) ≡ suc (most_helpers - suc (callers (frames_of m.frames)))
unfolding most_helpers
calls_left m deep limit = omega (arith, deep, limit)

-- A helper call, by the method that has the name.
helper_turns : (class : Class) (m : Machine) (awaited : Bool) (name : List ℕ) (args : Vec Value Global) (o : Option tree.Method) → IsDeep m → m.depth < 64 → method_in class name ≡ o
    → (starts : Bool) (rs : List Resume)
    → (calls_in class m.frames).helper awaited name (trees_in args.items) (env_of m.state.vars) (next_in class starts m.frames) (state_of m.state rs)
    ≡ helped (body (calls_of class (most_helpers - suc (callers (frames_of m.frames))))) awaited o (trees_in args.items) (env_of m.state.vars) (next_in class starts m.frames) (state_of m.state rs)
helper_turns class m awaited name args o deep limit is starts rs =
    ap (λ n. (calls_of class n).helper awaited name (trees_in args.items) (env_of m.state.vars) (next_in class starts m.frames) (state_of m.state rs)) (calls_left m deep limit)
    ∙ ap (λ x. helped (body (calls_of class (most_helpers - suc (callers (frames_of m.frames))))) awaited x (trees_in args.items) (env_of m.state.vars) (next_in class starts m.frames) (state_of m.state rs)) is

-- A name that no method has.
pub missing_leads : (class : Class) (m : Machine) (awaited : Await) (name : List ℕ) (args : Vec Value Global) → IsDeep m → m.depth < 64 → method_in class name ≡ None
    → Applies class (act.Helps awaited name args) m m (leads.On (focus.Ended (ending.Threw Undefined)))
missing_leads class m awaited name args deep limit is before below ready =
    record { same = λ starts rs. helper_turns class m (is_present awaited) name args None deep limit is starts rs; deep = deep; less = omega (arith, below); ready = tt }

-- The body of a helper is run.
pub call_leads : (class : Class) (old new : Machine) (awaited : Await) (name : List ℕ) (args : Vec Value Global) (f : Method) (n : Leads)
    → IsDeep old → old.depth < 64 → method_in class name ≡ Some (method_of f) → Calls f awaited args old new n
    → Applies class (act.Helps awaited name args) old new n
call_leads class old new awaited name args f n deep limit is c before below ready =
    let vars = c.0 in
    let b = c.1 in
    let next : Machine = record old { state = record old.state { vars = vars }; frames = layer.Caller awaited old.state.vars ∷ old.frames; depth = old.depth + 1 } in
    let less : to_go (focus.Body b 0) next < before = omega (arith, below) in
    let left = calls_of class (most_helpers - suc (callers (frames_of old.frames))) in
    let led : LeadsTo class (λ starts rs. act_turns (calls_in class old.frames) (act.Helps awaited name args) old.state (next_in class starts old.frames) rs) before next (leads.On (focus.Body b 0)) = record {
      same = λ starts rs.
          helper_turns class old (is_present awaited) name args (Some (method_of f)) deep limit is starts rs
          ∙ ap (λ x. body left (block_in x) (method_scope (method_of f) (trees_in args.items) ∷ []) (to_caller (is_present awaited) (env_of old.state.vars) (next_in class starts old.frames)) (state_of old.state rs)) (sym c.3)
          ∙ ap (λ e. body left (block_in b.value) e (to_caller (is_present awaited) (env_of old.state.vars) (next_in class starts old.frames)) (state_of old.state rs)) (sym c.4);
      deep = omega (arith, deep);
      less = less;
      ready = tt;
    } in
    subst (λ x. LeadsTo class (λ starts rs. act_turns (calls_in class old.frames) (act.Helps awaited name args) old.state (next_in class starts old.frames) rs) before new x) (sym c.2)
    (subst (λ x. LeadsTo class (λ starts rs. act_turns (calls_in class old.frames) (act.Helps awaited name args) old.state (next_in class starts old.frames) rs) before x (leads.On (focus.Body b 0))) (sym c.5) led)
