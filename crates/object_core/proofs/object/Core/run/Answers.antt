use Rattle.std.proofs.Common.{◌≡◌, ◌∙◌, ap, refl, sym, subst, List, [], ◌∷◌, ◌++◌, append_assoc, append-nil}
use Rattle.std.proofs.lemmas.List.{nil_from_length}
use Rattle.std.specs.Prelude.{Bool, Result, Ok}
use Rattle.do_tree.specs.Checked.{tree_of}
use Rattle.do_value.specs.declared.fault.NoMemory.{NoMemory}
use Rattle.output_gate.proofs.Stored.{still_disk, still_tells}
use Rattle.object_core.proofs.Runs.{runs_more, runs_out, runs_stop, told_on}
use Rattle.object_core.specs.Running.{Runs, ends}
use Rattle.object_core.specs.Stepping.{Steps}
use Rattle.object_core.specs.declared.choice.Choice.{Choice}
use Rattle.object_core.proofs.object.Core.run.Goals as goal

pub loop-choice-init : goal.loop-choice-init
loop-choice-init g c =
    let store = c.args.self.now.back.store in (
      ends c.args.self.now,
      c.requires,
      λ origin one. one,
      still_tells g.D.Disk.told store store (still_disk store store refl),
      sym c.into_iter-choice-iterator.ensures.into_iter_gives.0,
    )

pub step-requires : goal.step-requires
step-requires g c = c.loop-choice.invariant.1

pub loop-choice-preserved : goal.loop-choice-preserved
loop-choice-preserved g c =
    let i = c.loop-choice.invariant in (
      runs_more g.D.Disk.moment_of g.D.Disk.told g.D.Disk.image g.D.Disk.faults_of (tree_of c.args.checked.now) c.args.self.now c.loop-choice.self c.step.new.self c.loop-choice.yielded c.in-Some.choice c.in_ok-step.field-0 i.0
          (subst (λ (r : Result Bool NoMemory). Steps g.D.Disk.moment_of g.D.Disk.told g.D.Disk.image g.D.Disk.faults_of (tree_of c.args.checked.now) c.loop-choice.self c.step.new.self c.in-Some.choice r) c.in_ok-step.was c.step.ensures.steps),
      c.step.ensures.again,
      λ origin one. c.step.ensures.one origin (i.2 origin one),
      told_on g.D.Disk.moment_of g.D.Disk.left_since g.D.Disk.told g.D.Disk.image g.D.Disk.faults_of (tree_of c.args.checked.now) c.args.self.now c.loop-choice.self c.step.new.self i.1 i.3
          c.step.ensures.tells,
      i.4 ∙ ap (λ (xs : List Choice). c.loop-choice.yielded ++ xs) c.in-Some.ensures.steps.0
          ∙ sym (append_assoc c.loop-choice.yielded (c.in-Some.choice ∷ []) c.next.new.self.rest.items),
    )

pub returns-in_err-step-clause-runs : goal.returns-in_err-step-clause-runs
returns-in_err-step-clause-runs g c =
    let i = c.loop-choice.invariant in
    let all : c.args.choices.items ≡ c.loop-choice.yielded ++ c.in-Some.choice ∷ c.next.new.self.rest.items =
    i.4 ∙ ap (λ (xs : List Choice). c.loop-choice.yielded ++ xs) c.in-Some.ensures.steps.0 in
    subst (λ (cs : List Choice). Runs g.D.Disk.moment_of g.D.Disk.told g.D.Disk.image g.D.Disk.faults_of (tree_of c.args.checked.now) c.args.self.now c.step.new.self cs c.from_residual.result) (sym all)
    (runs_stop g.D.Disk.moment_of g.D.Disk.told g.D.Disk.image g.D.Disk.faults_of (tree_of c.args.checked.now) c.args.self.now c.step.new.self (c.loop-choice.yielded ++ c.in-Some.choice ∷ c.next.new.self.rest.items) c.in_err-step.field-0.0
    c.from_residual.result c.from_residual.ensures.0
    (runs_out g.D.Disk.moment_of g.D.Disk.told g.D.Disk.image g.D.Disk.faults_of (tree_of c.args.checked.now) c.args.self.now c.loop-choice.self c.step.new.self c.loop-choice.yielded c.in-Some.choice c.next.new.self.rest.items c.in_err-step.field-0.0 i.0
    (subst (λ (r : Result Bool NoMemory). Steps g.D.Disk.moment_of g.D.Disk.told g.D.Disk.image g.D.Disk.faults_of (tree_of c.args.checked.now) c.loop-choice.self c.step.new.self c.in-Some.choice r) c.in_err-step.was c.step.ensures.steps)))

pub returns-in_err-step-clause-one : goal.returns-in_err-step-clause-one
returns-in_err-step-clause-one g c origin one = c.step.ensures.one origin (c.loop-choice.invariant.2 origin one)

pub returns-in_err-step-clause-tells : goal.returns-in_err-step-clause-tells
returns-in_err-step-clause-tells g c =
    let i = c.loop-choice.invariant in
    told_on g.D.Disk.moment_of g.D.Disk.left_since g.D.Disk.told g.D.Disk.image g.D.Disk.faults_of (tree_of c.args.checked.now) c.args.self.now c.loop-choice.self c.step.new.self i.1 i.3
    c.step.ensures.tells

pub returns-clause-runs : goal.returns-clause-runs
returns-clause-runs g c =
    let i = c.loop-choice.invariant in
    let rest = c.loop-choice.choice-iterator.rest in
    let none : rest.items ≡ [] = nil_from_length rest.items (sym rest.ok.0 ∙ c.in-None.ensures.steps.0) in
    let all : c.args.choices.items ≡ c.loop-choice.yielded = i.4 ∙ ap (λ (xs : List Choice). c.loop-choice.yielded ++ xs) none ∙ append-nil c.loop-choice.yielded in
    subst (λ (cs : List Choice). Runs g.D.Disk.moment_of g.D.Disk.told g.D.Disk.image g.D.Disk.faults_of (tree_of c.args.checked.now) c.args.self.now c.loop-choice.self cs (Ok tt)) (sym all) i.0

pub returns-clause-again : goal.returns-clause-again
returns-clause-again g c = c.loop-choice.invariant.1

pub returns-clause-one : goal.returns-clause-one
returns-clause-one g c = c.loop-choice.invariant.2

pub returns-clause-tells : goal.returns-clause-tells
returns-clause-tells g c = c.loop-choice.invariant.3
