use Rattle.std.proofs.Common.{◌≡◌, ◌-◌, suc, arith, sym, refl, subst}
use Rattle.std.specs.Prelude.{ℕ}
use Rattle.do_tree.specs.Checked.{tree_of as script_in}
use Rattle.script_mean.specs.declared.answer.Answer.TheVariants.{Thrown}
use Rattle.timeline.specs.Object as seen
use Rattle.timeline.specs.Object.{Life, OpenTask, Step}
use Rattle.timeline.specs.Steps as steps
use Rattle.front_turns.specs.Paused.{HasClass}
use Rattle.front_turns.specs.Held.{life_in, object_of}
use Rattle.front_turns.proofs.Saying.{idle_says}
use Rattle.front_turns.proofs.Turning.{was_refused, refused_says, did_rest, one_fewer}
use Rattle.front_turns.proofs.turns.+runs.Goals as goal

pub go_on-requires : goal.go_on-requires
go_on-requires g t c =
    let l = life_in (script_in c.args.checked.now) c.args.class c.args.incarnation in
    let r = c.requires.runs in
    let again : seen.Object → OpenTask → Step = λ o u. steps.runs (c.args.left - 1) l o u in
    let rf = was_refused g.T.Task.seen l _ _ _ c.in-Refused.object c.in-Refused.running c.in-Refused.task c.in-Refused.value again _ c.in-Refused.is
    (c.in_ok-state.ensures l r.0 r.1 again refl r.2 r.3) in
    subst (λ (n : ℕ). HasClass (script_in c.args.checked.now) n) (sym rf.paused.class) c.requires.class

pub runs-requires : goal.runs-requires
runs-requires g t c κs within =
    let l = life_in (script_in c.args.checked.now) c.args.class c.args.incarnation in
    let r = c.requires.runs in
    let again : seen.Object → OpenTask → Step = λ o u. steps.runs (c.args.left - 1) l o u in
    let rf = was_refused g.T.Task.seen l _ _ _ c.in-Refused.object c.in-Refused.running c.in-Refused.task c.in-Refused.value again _ c.in-Refused.is
    (c.in_ok-state.ensures l r.0 r.1 again refl r.2 r.3) in (
      omega (arith, c.decreases, c.if-left-eq0.false),
      (
        within,
        (
          c.requires.class,
          (
            rf.tasks,
            steps.resumed (object_of c.in-Refused.object rf.tasks) rf.goes (Thrown c.in-Refused.value),
            rf.held,
            c.in_ok-outcome-in-Refused.ensures c.args.class c.args.incarnation rf.tasks rf.goes c.in-Refused.running rf.paused,
          ),
        ),
      ),
    )

pub returns-then-left-eq0 : goal.returns-then-left-eq0
returns-then-left-eq0 g t c = λ ts u held runs. rw c.if-left-eq0.true (idle_says ts held)

pub returns-in-Rests : goal.returns-in-Rests
returns-in-Rests g t c = λ ts u held runs.
    let l = life_in (script_in c.args.checked.now) c.args.class c.args.incarnation in
    let again : seen.Object → OpenTask → Step = λ o v. steps.runs (c.args.left - 1) l o v in
    let e : c.args.left ≡ suc (c.args.left - 1) = omega (arith, c.if-left-eq0.false) in
    one_fewer g.T.Task.seen l _ _ _ c.args.left (c.args.left - 1) (object_of c.args.object ts) u e
    (did_rest g.T.Task.seen l _ _ _ c.in-Rests.state again _ c.in-Rests.is (c.in_ok-state.ensures l ts u again refl held runs))

pub returns-in_ok-state-in-Refused : goal.returns-in_ok-state-in-Refused
returns-in_ok-state-in-Refused g t c = λ ts u held runs.
    let l = life_in (script_in c.args.checked.now) c.args.class c.args.incarnation in
    let again : seen.Object → OpenTask → Step = λ o v. steps.runs (c.args.left - 1) l o v in
    let e : c.args.left ≡ suc (c.args.left - 1) = omega (arith, c.if-left-eq0.false) in
    let rf = was_refused g.T.Task.seen l _ _ _ c.in-Refused.object c.in-Refused.running c.in-Refused.task c.in-Refused.value again _ c.in-Refused.is
    (c.in_ok-state.ensures l ts u again refl held runs) in
    one_fewer g.T.Task.seen l _ _ _ c.args.left (c.args.left - 1) (object_of c.args.object ts) u e
    (refused_says g.T.Task.seen l _ _ _ _ _ _ _ _ again _ rf
    (c.in_ok-state-in-Refused.ensures rf.tasks (steps.resumed (object_of c.in-Refused.object rf.tasks) rf.goes (Thrown c.in-Refused.value)) rf.held
    (c.in_ok-outcome-in-Refused.ensures c.args.class c.args.incarnation rf.tasks rf.goes c.in-Refused.running rf.paused)))
