use Rattle.std.proofs.Common.{◌∙◌, refl, ap, inl, inr, List, ℕ, not}
use Rattle.batch_journal.specs.Rest.{disk_in, end_of}
use Rattle.timeline.specs.Logs.{backed}
use Rattle.timeline.specs.declared.back_log.Stop.{Stop}
use Rattle.output_gate.specs.declared.back.Back.{Back}
use Rattle.output_gate.specs.Serving.{is_stopped, ending_of}
use Rattle.output_gate.proofs.Noted.{keeps_note}
use Rattle.output_gate.proofs.Steps.{flushed_back, can_append, can_land, can_stop, mounted_lands, mounted_ends, end_kept, gets_frame}
use Rattle.output_gate.proofs.Stored.{in_it, keeps_limit, still_disk, still_limit, still_tells, tells_in}
use Rattle.output_gate.proofs.back.Back.flush.Goals as goal

pub append-requires : goal.append-requires
append-requires g c =
    let r = c.requires in
    let m = flushed_back g.D.Disk.moment_of g.D.Disk.left_since g.D.Disk.told g.D.Disk.image g.D.Disk.faults_of r.0 r.1 (not (is_stopped c.args.self.now)) c.args.self.now c.if-self.false r.2 in
    (m.journal, m.safe.store, can_append g.D.Disk.told g.D.Disk.image (not (is_stopped c.args.self.now)) m.journal c.args.self.now m.safe c.if-self.false)

pub land-requires : goal.land-requires
land-requires g c =
    let r = c.requires in
    let m = flushed_back g.D.Disk.moment_of g.D.Disk.left_since g.D.Disk.told g.D.Disk.image g.D.Disk.faults_of r.0 r.1 (not (is_stopped c.args.self.now)) c.args.self.now c.if-self.false r.2 in
    can_land g.D.Disk.told g.D.Disk.image (not (is_stopped c.args.self.now)) m.journal c.args.self.now c.append.new.self c.append.new.cache m.safe c.if-self.false

pub stop-requires : goal.stop-requires
stop-requires g c =
    let r = c.requires in
    let m = flushed_back g.D.Disk.moment_of g.D.Disk.left_since g.D.Disk.told g.D.Disk.image g.D.Disk.faults_of r.0 r.1 (not (is_stopped c.args.self.now)) c.args.self.now c.if-self.false r.2 in
    can_stop g.D.Disk.told g.D.Disk.image (not (is_stopped c.args.self.now)) m.journal c.args.self.now c.append.new.self c.append.new.cache m.safe c.if-self.false

pub returns-in-Ok : goal.returns-in-Ok
returns-in-Ok g c = record {
  nothing = λ even. absurd (c.if-self.false even);
  flushed = λ other. (
    refl,
    inl (record {
      log = ap backed c.land.ensures.log ∙ ap (λ (fs : List ℕ). record (backed c.args.self.now.log) { flights = fs }) c.land.ensures.flights;
      mode = ap (λ (b : Back g.row.D.Denot). b.mode) c.land.ensures.same;
      held = ap (λ (b : Back g.row.D.Denot). b.held) c.land.ensures.same;
      before = ap (λ (b : Back g.row.D.Denot). b.before) c.land.ensures.same;
      needs = ap (λ (b : Back g.row.D.Denot). b.needs) c.land.ensures.same;
      durable = ap (λ (b : Back g.row.D.Denot). b.durable) c.land.ensures.same;
      limit = ap (λ (b : Back g.row.D.Denot). b.limit) c.land.ensures.same;
      identity = ap (λ (b : Back g.row.D.Denot). b.identity) c.land.ensures.same;
      stuck = ap (λ (b : Back g.row.D.Denot). b.stuck) c.land.ensures.same;
      end =
          let r = c.requires in
          let m = flushed_back g.D.Disk.moment_of g.D.Disk.left_since g.D.Disk.told g.D.Disk.image g.D.Disk.faults_of r.0 r.1 (not (is_stopped c.args.self.now)) c.args.self.now c.if-self.false r.2 in
          let a = c.in-Ok.ensures.appends m.journal m.safe.store in
          gets_frame g.D.Disk.told g.D.Disk.image (not (is_stopped c.args.self.now)) c.args.self.now c.land.new.self m.journal a.new m.safe (ap (λ (b : Back g.row.D.Denot). b.store) c.land.ensures.same ∙ a.is) a.appended;
    }),
  );
  tells =
      let r = c.requires in
      let m = flushed_back g.D.Disk.moment_of g.D.Disk.left_since g.D.Disk.told g.D.Disk.image g.D.Disk.faults_of r.0 r.1 (not (is_stopped c.args.self.now)) c.args.self.now c.if-self.false r.2 in
      let a = c.in-Ok.ensures.appends m.journal m.safe.store in
      tells_in g.D.Disk.told c.args.self.now.store c.land.new.self.store (disk_in m.journal) a.new (in_it c.args.self.now.store m.journal m.safe.store)
      (ap (λ (b : Back g.row.D.Denot). b.store) c.land.ensures.same ∙ a.is) a.telling;
  limit =
      let r = c.requires in
      let m = flushed_back g.D.Disk.moment_of g.D.Disk.left_since g.D.Disk.told g.D.Disk.image g.D.Disk.faults_of r.0 r.1 (not (is_stopped c.args.self.now)) c.args.self.now c.if-self.false r.2 in
      let a = c.in-Ok.ensures.appends m.journal m.safe.store in
      keeps_limit c.args.self.now.store c.land.new.self.store m.journal a.new m.safe.store (ap (λ (b : Back g.row.D.Denot). b.store) c.land.ensures.same ∙ a.is) a.limit;
  stopped = ap is_stopped c.land.ensures.same;
  back = λ start opening b.
      let was = not (is_stopped c.args.self.now) in
      let m = flushed_back g.D.Disk.moment_of g.D.Disk.left_since g.D.Disk.told g.D.Disk.image g.D.Disk.faults_of start opening was c.args.self.now c.if-self.false b in
      keeps_note g.D.Disk.moment_of g.D.Disk.left_since g.D.Disk.told g.D.Disk.image g.D.Disk.faults_of start opening c.args.self.now c.land.new.self (ap is_stopped c.land.ensures.same)
      (inl (mounted_lands g.D.Disk.moment_of g.D.Disk.left_since g.D.Disk.told g.D.Disk.image g.D.Disk.faults_of g.met.D.Disk.counts_now start opening was c.args.self.now c.land.new.self c.append.new.self c.append.new.cache m
      c.if-self.false (c.in-Ok.ensures.appends m.journal m.safe.store) (c.in-Ok.ensures.stores m.journal m.safe.store) c.land.ensures));
}

pub returns-in-Err : goal.returns-in-Err
returns-in-Err g c =
    let r = c.requires in
    let m = flushed_back g.D.Disk.moment_of g.D.Disk.left_since g.D.Disk.told g.D.Disk.image g.D.Disk.faults_of r.0 r.1 (not (is_stopped c.args.self.now)) c.args.self.now c.if-self.false r.2 in
    let a = c.in-Err.ensures.appends m.journal m.safe.store in
    record {
      nothing = λ even. absurd (c.if-self.false even);
      flushed = λ other. (
        refl,
        inr (record {
          cause = c.in-Err.fault.cause;
          journal = m.journal;
          after = a.new;
          from = m.safe.store;
          into = ap (λ (b : Back g.row.D.Denot). b.store) c.stop.ensures.same ∙ a.is;
          by_cause = a.ended.cause;
          log = ap backed c.stop.ensures.log ∙ ap (λ (ss : List Stop). record (backed c.args.self.now.log) { stops = ss }) c.stop.ensures.stops;
          mode = (ending_of c.args.self.now c.in-Err.fault, refl, ap (λ (b : Back g.row.D.Denot). b.mode) c.stop.ensures.same);
          end = λ ending is. end_kept c.stop.new.self.mode (ending_of c.args.self.now c.in-Err.fault) ending (end_of m.journal)
              (ap (λ (b : Back g.row.D.Denot). b.mode) c.stop.ensures.same) is a.ended.end;
          held = c.stop.ensures.held;
          before = ap (λ (b : Back g.row.D.Denot). b.before) c.stop.ensures.same;
          needs = ap (λ (b : Back g.row.D.Denot). b.needs) c.stop.ensures.same;
          durable = ap (λ (b : Back g.row.D.Denot). b.durable) c.stop.ensures.same;
          limit = ap (λ (b : Back g.row.D.Denot). b.limit) c.stop.ensures.same;
          identity = ap (λ (b : Back g.row.D.Denot). b.identity) c.stop.ensures.same;
          stuck = ap (λ (b : Back g.row.D.Denot). b.stuck) c.stop.ensures.same;
        }),
      );
      tells = tells_in g.D.Disk.told c.args.self.now.store c.stop.new.self.store (disk_in m.journal) a.new (in_it c.args.self.now.store m.journal m.safe.store)
          (ap (λ (b : Back g.row.D.Denot). b.store) c.stop.ensures.same ∙ a.is) a.telling;
      limit = keeps_limit c.args.self.now.store c.stop.new.self.store m.journal a.new m.safe.store (ap (λ (b : Back g.row.D.Denot). b.store) c.stop.ensures.same ∙ a.is) a.limit;
      stopped = ap is_stopped c.stop.ensures.same;
      back = λ start opening b.
          let was = not (is_stopped c.args.self.now) in
          let n = flushed_back g.D.Disk.moment_of g.D.Disk.left_since g.D.Disk.told g.D.Disk.image g.D.Disk.faults_of start opening was c.args.self.now c.if-self.false b in
          keeps_note g.D.Disk.moment_of g.D.Disk.left_since g.D.Disk.told g.D.Disk.image g.D.Disk.faults_of start opening c.args.self.now c.stop.new.self (ap is_stopped c.stop.ensures.same)
          (inr (mounted_ends g.D.Disk.moment_of g.D.Disk.left_since g.D.Disk.told g.D.Disk.image g.D.Disk.faults_of g.met.D.Disk.counts_now start opening was c.args.self.now c.stop.new.self c.append.new.self c.append.new.cache
          c.in-Err.fault n c.if-self.false (c.in-Err.ensures.appends n.journal n.safe.store) c.stop.ensures));
    }

pub returns-then-self-clause-tells : goal.returns-then-self-clause-tells
returns-then-self-clause-tells g c = still_tells g.D.Disk.told c.args.self.now.store c.args.self.now.store (still_disk c.args.self.now.store c.args.self.now.store refl)

pub returns-then-self-clause-limit : goal.returns-then-self-clause-limit
returns-then-self-clause-limit g c = still_limit c.args.self.now.store c.args.self.now.store refl
