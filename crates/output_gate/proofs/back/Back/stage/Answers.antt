use Rattle.std.proofs.Common.{◌∙◌, sym, subst}
use Rattle.batch_journal.specs.Rest.{CanStage}
use Rattle.storage_map.specs.Limits.{Object, IsObject}
use Rattle.output_gate.specs.Storing.{Stages, StagesOps}
use Rattle.output_gate.proofs.Takings.{same_object}
use Rattle.output_gate.proofs.back.Back.stage.Goals as goal

pub stage-requires : goal.stage-requires
stage-requires g c =
    let r = c.requires in
    let same = same_object r.0 c.in-Some.identity (sym r.2 ∙ c.in-Some.is) in
    (r.1, r.3, subst (λ (o : Object). CanStage r.1 o c.args.batch.now) same (r.4 (subst IsObject (sym same) c.size.ensures.object) c.as_slice.ensures.batch))

pub returns-clause-staged : goal.returns-clause-staged
returns-clause-staged g c object journal named at =
    subst (λ (o : Object). Stages g.D.Disk.told g.D.Disk.image journal c.stage.new.self o c.args.batch.now c.stage.result)
    (same_object c.in-Some.identity object (sym c.in-Some.is ∙ named)) (c.stage.ensures.staged journal at)

pub returns-clause-stored : goal.returns-clause-stored
returns-clause-stored g c object journal named at =
    subst (λ (o : Object). StagesOps g.D.Disk.told g.D.Disk.image journal c.args.self.now.cache c.stage.new.cache o c.args.batch.now c.stage.result)
    (same_object c.in-Some.identity object (sym c.in-Some.is ∙ named)) (c.stage.ensures.stored journal at)
