-- Moves whose frame is a part of a path, as the code makes it.
use Rattle.std.proofs.Common.{◌≡◌, ℕ, sym, ap}
use Rattle.script_mean.specs.Calls.{Calls}
use Rattle.script_mean.specs.Frames.{Frame}
use Rattle.script_steps.specs.Seen.{charged, focus_run, frame_of, framed, move_run}
use Rattle.script_steps.specs.declared.focus.Focus.{Focus}
use Rattle.script_steps.specs.declared.focus.Move.TheVariants as move
use Rattle.script_steps.specs.declared.frame.Frame.{Frame as Waiting}

-- A part inside this frame.
pub framed_so : (calls : Calls) (n : ℕ) (w : Waiting) (f : Frame) (g : Focus) → frame_of w ≡ f
    → charged n (framed calls f (focus_run calls g)) ≡ move_run calls (move.Inside n w g)
framed_so calls n w f g is = ap (λ x. charged n (framed calls x (focus_run calls g))) (sym is)
