use Rattle.std.proofs.Common.{refl}
use Rattle.do_value.specs.Seen.{tree_of}
use Rattle.script_steps.proofs.Exits.{return_passes}
use Rattle.script_steps.proofs.outcome.on_return.Goals.{in-Leave, in-Commit, in-Unblock, in_default}
use Rattle.script_steps.proofs.outcome.on_return.Goals as goal

pub returns-clause-moves : goal.returns-clause-moves
returns-clause-moves c = elim c.match-frame.branch [
  | in-Leave w ↦ rw (w.result-is, w.in-Leave.is) (λ calls. refl)
  | in-Commit w ↦ rw (w.result-is, w.in-Commit.is) (λ calls. refl)
  | in-Unblock w ↦ rw (w.result-is, w.in-Unblock.is) (λ calls. refl)
  | in_default w ↦ rw w.result-is (λ calls. return_passes calls c.args.frame (tree_of c.args.value) w.in_default.not-Leave w.in_default.not-Commit w.in_default.not-Unblock)
]
