-- Names and constants, whose values are had at once.
use Rattle.std.proofs.Common.{◌≡◌, ℕ, ◌+◌, ◌-◌, nat_le, Bool, true, false, refl, ◌∙◌}
use Rattle.do_value.specs.Tree.{Tree}
use Rattle.do_tree.specs.Tree as tree
use Rattle.script_mean.specs.Answers.{gave}
use Rattle.script_mean.specs.Calls.{Calls}
use Rattle.script_mean.specs.Frames.{Frame, frame_next}
use Rattle.script_mean.specs.Meaning.{value}
use Rattle.script_mean.specs.Task.{Env}
use Rattle.script_mean.specs.Turn.{Next, State, either, ends, exceed, on_value, pass}
use Rattle.script_paths.proofs.Charged.{charged_more, charged_same}
use Rattle.script_paths.specs.Reading.{GivesIn}
use Rattle.script_steps.specs.Seen.{charged, framed, handed}

-- A frame has the value of the part inside it.
step_handed : (b : Bool) (calls : Calls) (f : Frame) (v : Tree) (env : Env) (next : Next) (st : State)
    → either b pass exceed env (on_value (λ _. ends (gave v)) (frame_next calls f next)) st ≡ either b pass exceed env (on_value (λ _. handed calls f (gave v)) next) st
step_handed true calls f v env next st = refl
step_handed false calls f v env next st = refl

-- A frame around a part whose value is had at once goes on with it, and the step of the part is charged with the others.
pub at_once : (n : ℕ) (calls : Calls) (f : Frame) (x : tree.Expr) (v : Tree) (env : Env) → GivesIn env x v → (next : Next) (st : State)
    → charged n (framed calls f (value false calls x)) env next st ≡ charged (n + 1) (handed calls f (gave v)) env next st
at_once n calls f x v env gives next st =
    charged_same n (framed calls f (value false calls x)) (charged 1 (handed calls f (gave v))) env next
    (λ s. gives calls (frame_next calls f next) s ∙ step_handed (nat_le 1 s.left) calls f v env next (record s { left = s.left - 1 })) st
    ∙ charged_more n 1 (handed calls f (gave v)) env next st
