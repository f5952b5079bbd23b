use Rattle.std.proofs.Common.{◌∙◌, ap, arith, ℕ}
use Rattle.storage_cache.specs.Counted.{removed_last}
use Rattle.output_gate.proofs.Takings.{may_some, some_object}
use Rattle.output_gate.specs.declared.back.Back.{Back}
use Rattle.output_gate.proofs.Batches.{fits_frame}
use Rattle.output_gate.proofs.Entered.{count_told, none_told, on_err, somebody, failed_stage, follows_so, took_batch}
use Rattle.output_gate.proofs.back.Back.take_batch.Goals as goal

pub stage-requires : goal.stage-requires
stage-requires g c =
    let s = c.requires.back.safe in
    let o = somebody g.D.Disk.moment_of g.D.Disk.left_since g.D.Disk.told g.D.Disk.image g.D.Disk.faults_of c.args.self.now.identity c.requires.fits in
    (o.0, c.requires.back.journal, o.1, s.store, λ is_object batch. (s.staged, s.staged_for o.0 o.1, fits_frame o.0 s.staged c.args.batch is_object batch (omega (arith, s.unflushed, c.requires.few))))

pub overflow_add-self : goal.overflow_add-self
overflow_add-self g c =
    omega (arith, c.requires.back.safe.room.few, ap (λ (b : Back g.row.D.Denot). b.before) c.add.ensures.same, ap (λ (b : Back g.row.D.Denot). b.before) c.stage.ensures.same, c.args.self.now.log.taken.small)

pub overflow_add-self-2 : goal.overflow_add-self-2
overflow_add-self-2 g c =
    omega (arith, c.requires.back.safe.room.own_few, ap (λ (b : Back g.row.D.Denot). b.own) c.add.ensures.same, ap (λ (b : Back g.row.D.Denot). b.own) c.stage.ensures.same, c.args.self.now.log.taken.small)

pub overflow_add-self-3 : goal.overflow_add-self-3
overflow_add-self-3 g c =
    omega (arith, c.requires.few, c.batch_size-size.ensures.size, c.batch_size-size.ensures.batch.fits, ap (λ (b : Back g.row.D.Denot). b.unflushed) c.add.ensures.same, ap (λ (b : Back g.row.D.Denot). b.unflushed) c.stage.ensures.same)

pub returns-in_err-count-clause-failed : goal.returns-in_err-count-clause-failed
returns-in_err-count-clause-failed g c =
    let o = somebody g.D.Disk.moment_of g.D.Disk.left_since g.D.Disk.told g.D.Disk.image g.D.Disk.faults_of c.args.self.now.identity c.requires.fits in
    on_err c.from_residual.result _ (failed_stage g.D.Disk.moment_of g.D.Disk.left_since g.D.Disk.told g.D.Disk.image g.D.Disk.faults_of c.args.self.now c.stage.new.self o.0 c.args.batch _ c.requires.back.journal c.requires.back.safe.store
    (λ journal at. c.in_err-count.ensures.staged o.0 journal o.1 at) c.stage.ensures.same)

pub returns-in-Some-clause-took : goal.returns-in-Some-clause-took
returns-in-Some-clause-took g c =
    let o = somebody g.D.Disk.moment_of g.D.Disk.left_since g.D.Disk.told g.D.Disk.image g.D.Disk.faults_of c.args.self.now.identity c.requires.fits in
    took_batch g.D.Disk.moment_of g.D.Disk.left_since g.D.Disk.told g.D.Disk.image g.D.Disk.faults_of c.args.self.now c.stage.new.self c.add.new.self c.args.number c.args.batch c.args.tail c.args.confirmed c.batch_size-size.result _ o.0
    c.in_ok-count.count _ o.1 c.requires.back.journal c.requires.back.safe.store c.requires.comes c.requires.goes_on
    (λ disk at tells m has.
    let any = some_object c.args.self.now.identity in
    count_told c.args.number m c.args.batch c.args.tail c.args.confirmed c.in-Some.field-0 c.in_ok-count.count c.in-Some.is
    (c.in_ok-count.ensures.counted m (has.stored any (may_some c.args.self.now.identity)).cache_of ∙ ap (λ (n : ℕ). removed_last n m c.args.batch) c.unwrap_or.ensures)) c.batch_size-size.ensures.size
    (follows_so g.D.Disk.moment_of g.D.Disk.left_since g.D.Disk.told g.D.Disk.image g.D.Disk.faults_of c.args.self.now c.add.new.self c.args.confirmed
    (ap (λ (b : Back g.row.D.Denot). b.before) c.add.ensures.same ∙ ap (λ (b : Back g.row.D.Denot). b.before) c.stage.ensures.same)
    (ap (λ (b : Back g.row.D.Denot). b.needs) c.add.ensures.same ∙ ap (λ (b : Back g.row.D.Denot). b.needs) c.stage.ensures.same))
    (λ journal at. c.in_ok-count.ensures.staged o.0 journal o.1 at) (λ journal at. c.in_ok-count.ensures.stored o.0 journal o.1 at) c.stage.ensures.same c.add.ensures.log c.add.ensures.same c.follow.new.self c.follow.ensures

pub returns-in-None-clause-took : goal.returns-in-None-clause-took
returns-in-None-clause-took g c =
    let o = somebody g.D.Disk.moment_of g.D.Disk.left_since g.D.Disk.told g.D.Disk.image g.D.Disk.faults_of c.args.self.now.identity c.requires.fits in
    took_batch g.D.Disk.moment_of g.D.Disk.left_since g.D.Disk.told g.D.Disk.image g.D.Disk.faults_of c.args.self.now c.stage.new.self c.add.new.self c.args.number c.args.batch c.args.tail c.args.confirmed c.batch_size-size.result _ o.0
    c.in_ok-count.count _ o.1 c.requires.back.journal c.requires.back.safe.store c.requires.comes c.requires.goes_on (λ disk at tells m has. none_told c.args.number m c.args.batch c.args.tail c.args.confirmed c.in-None.is) c.batch_size-size.ensures.size
    (follows_so g.D.Disk.moment_of g.D.Disk.left_since g.D.Disk.told g.D.Disk.image g.D.Disk.faults_of c.args.self.now c.add.new.self c.args.confirmed
    (ap (λ (b : Back g.row.D.Denot). b.before) c.add.ensures.same ∙ ap (λ (b : Back g.row.D.Denot). b.before) c.stage.ensures.same)
    (ap (λ (b : Back g.row.D.Denot). b.needs) c.add.ensures.same ∙ ap (λ (b : Back g.row.D.Denot). b.needs) c.stage.ensures.same))
    (λ journal at. c.in_ok-count.ensures.staged o.0 journal o.1 at) (λ journal at. c.in_ok-count.ensures.stored o.0 journal o.1 at) c.stage.ensures.same c.add.ensures.log c.add.ensures.same c.follow.new.self c.follow.ensures
