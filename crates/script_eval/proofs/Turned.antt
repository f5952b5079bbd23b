-- Steps, one after another, are a turn.
use Rattle.std.proofs.Common.{◌≡◌, ◌<◌, ◌∙◌, Bool, List, sym, ap, subst}
use Rattle.std.specs.declared.alloc.Global.{Global}
use Rattle.std.specs.declared.boxed.Box.{Box}
use Rattle.do_tree.specs.Tree.{Class}
use Rattle.script_mean.specs.Task.{Resume}
use Rattle.script_steps.specs.declared.focus.Focus.{Focus}
use Rattle.script_eval.specs.Machines.{IsDeep, Runs, Steps, leads_of, to_go, turns_of}
use Rattle.script_eval.specs.Leads as leads
use Rattle.script_eval.specs.declared.machine.Machine.{Machine}
use Rattle.script_eval.specs.declared.machine.Progress.{Progress}
use Rattle.script_eval.specs.declared.machine.Progress.TheVariants as progress
use Rattle.script_eval.specs.declared.machine.Stop.{Stop}

-- The turns from the first step on are those from here on.
abbrev pub AreSame : Class → Focus → Machine → Focus → Machine → Type 0
AreSame class first start f m = (starts : Bool) (rs : List Resume) → turns_of class starts first start rs ≡ turns_of class starts f m rs

-- A step that goes on, from the focus that was taken.
goes_on : (class : Class) (f part g : Focus) (old new : Machine) (p : Progress) → part ≡ f → p ≡ progress.GoesOn → Steps class part old new (leads_of p g)
    → Steps class f old new (leads.On g)
goes_on class f part g old new p taken is step =
    subst (λ x. Steps class x old new (leads.On g)) taken (subst (λ x. Steps class part old new (leads_of x g)) is step)

-- A step leads on,
pub turn_on : (class : Class) (first f part g : Focus) (start old new : Machine) (p : Progress) → part ≡ f → p ≡ progress.GoesOn
    → Steps class part old new (leads_of p g) → AreSame class first start f old → AreSame class first start g new
turn_on class first f part g start old new p taken is step same =
    let on = goes_on class f part g old new p taken is step in
    λ starts rs. same starts rs ∙ on.same starts rs

-- with less left to do,
pub turn_less : (class : Class) (f part g : Focus) (old new : Machine) (p : Progress) → part ≡ f → p ≡ progress.GoesOn
    → Steps class part old new (leads_of p g) → to_go g new < to_go f old
turn_less class f part g old new p taken is step = let on = goes_on class f part g old new p taken is step in on.less

-- the count of calls kept,
pub turn_deep : (class : Class) (part g : Focus) (old new : Machine) (p : Progress) → Steps class part old new (leads_of p g) → IsDeep new
turn_deep class part g old new p step = step.deep

-- or to the turn's end.
pub turn_to : (class : Class) (first f part g : Focus) (start old new : Machine) (p : Progress) (b : Box Stop Global) (s : Stop) → part ≡ f → p ≡ progress.Stops b → s ≡ b.value
    → Steps class part old new (leads_of p g) → AreSame class first start f old → Runs class first start new s
turn_to class first f part g start old new p b s taken is inner step same =
    let lead : leads_of p g ≡ leads.To s = ap (λ x. leads_of x g) is ∙ ap leads.To (sym inner) in
    let to : Steps class f old new (leads.To s) = subst (λ x. Steps class x old new (leads.To s)) taken (subst (λ x. Steps class part old new x) lead step) in
    record { same = λ starts rs. same starts rs ∙ to.same starts rs; deep = to.deep; ready = to.ready }
