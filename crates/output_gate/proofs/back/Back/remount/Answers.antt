use Rattle.std.proofs.Common.{◌∙◌, ap, sym, subst, inl, inr, refl, arith, ℕ}
use Rattle.batch_journal.specs.Moments.{LeavesOnly, TellsAsBefore}
use Rattle.batch_journal.specs.Mounting.{ImageOrSame}
use Rattle.timeline.specs.declared.notice.Notice.TheVariants as notice
use Rattle.storage_cache.specs.Cached.{Cached}
use Rattle.output_gate.specs.Mending.{Begins, Misses}
use Rattle.output_gate.specs.Taking.{is_mounted_mode}
use Rattle.output_gate.proofs.Entered.{as_before}
use Rattle.output_gate.proofs.Finding.{begun_finds, missed_finds, still_finds}
use Rattle.output_gate.proofs.Remounts.{remount_begins, remount_misses, remount_fails}
use Rattle.output_gate.proofs.Stored.{limited_in, limited_bare, tells_in, tells_bare}
use Rattle.output_gate.specs.declared.back.Back.{Back}
use Rattle.output_gate.proofs.Falls.{begun_falls, wanted_falls, refused_rises, refused_falls, other_rises, other_falls}
use Rattle.output_gate.proofs.back.Back.remount.Goals as goal

pub returns-then-may_be-clause-remounts : goal.returns-then-may_be-clause-remounts
returns-then-may_be-clause-remounts g c =
    let b = c.begin.ensures.begins in
    let cache = ap (λ (x : Back g.row.D.Denot). x.cache) b.same in
    inl (record {
      journal = c.in-Mounted.journal;
      begins = subst (λ (x : Cached). Begins c.args.self.now c.begin.new.self c.args.ending c.in-Mounted.journal x) (sym cache) (record { log = b.log; same = b.same });
      limit = c.in-Mounted.ensures.limited;
      notice = c.begin.ensures.notice ∙ ap (λ (x : Cached). notice.Fresh c.args.self.now.number x.index.alarm c.args.ending.cause) (sym cache);
    })

pub returns-then-may_be-clause-back : goal.returns-then-may_be-clause-back
returns-then-may_be-clause-back g c start opening u =
    let b = c.begin.ensures.begins in
    inl (remount_begins g.D.Disk.moment_of g.D.Disk.left_since g.D.Disk.told g.D.Disk.image g.D.Disk.faults_of g.met.D.Disk.reads_an_image g.met.D.Disk.counts_now start opening c.args.self.now c.begin.new.self c.leave-disk.result c.args.ending c.in-Mounted.journal c.in-Mounted.identity c.in-Mounted.cache c.requires.wanted c.leave-disk.ensures.disk
    c.in-Mounted.ensures.found (c.may_be.ensures.own c.if-may_be.true) (record { log = b.log; same = b.same }) (omega (arith, c.in-Mounted.ensures.counted)) u)

pub returns-in-Mounted-clause-remounts : goal.returns-in-Mounted-clause-remounts
returns-in-Mounted-clause-remounts g c =
    let m = c.miss.ensures.misses in
    inr (record {
      disk = c.leave-disk.result;
      left = c.into_disk.result;
      at = c.leave-disk.ensures.disk;
      misses = subst (λ (n : ℕ). Misses c.args.self.now c.miss.new.self c.args.ending c.into_disk.result n (g.D.Disk.faults_of c.into_disk.result)) c.faults-before.ensures (record { log = m.log; same = m.same });
      notice = c.miss.ensures.notice ∙ ap (λ (n : ℕ). notice.Down c.args.ending.cause n (g.D.Disk.faults_of c.into_disk.result)) c.faults-before.ensures;
    })

pub returns-in-Mounted-clause-back : goal.returns-in-Mounted-clause-back
returns-in-Mounted-clause-back g c start opening u =
    let m = c.miss.ensures.misses in
    inr (remount_misses g.D.Disk.moment_of g.D.Disk.left_since g.D.Disk.told g.D.Disk.image g.D.Disk.faults_of g.met.D.Disk.reads_an_image g.met.D.Disk.counts_now start opening c.args.self.now c.miss.new.self c.leave-disk.result c.into_disk.result c.args.ending _ _ c.requires.wanted c.leave-disk.ensures.disk
    (subst (λ d. LeavesOnly g.D.Disk.moment_of g.D.Disk.left_since c.leave-disk.result d (ImageOrSame (g.D.Disk.told c.leave-disk.result) (g.D.Disk.image c.leave-disk.result)) × TellsAsBefore (g.D.Disk.told c.leave-disk.result) (g.D.Disk.told d))
    (sym c.into_disk.ensures) (c.in-Mounted.ensures.found.2, c.in-Mounted.ensures.found.3)) (record { log = m.log; same = m.same }) c.faults-before.ensures refl
    (other_rises g.D.Disk.moment_of g.D.Disk.left_since g.D.Disk.told g.D.Disk.image g.met.D.Disk.reads_an_image g.met.D.Disk.counts_now g.D.Disk.faults_of start opening
    c.args.self.now c.leave-disk.result c.into_disk.result c.args.ending (record { journal = c.in-Mounted.journal; identity = c.in-Mounted.identity; index = c.in-Mounted.ensures.found.0.0 }) c.requires.wanted c.leave-disk.ensures.disk c.in-Mounted.ensures.found.0.2 (c.may_be.ensures.other c.if-may_be.false) u) u)

pub returns-in-Refused-clause-back : goal.returns-in-Refused-clause-back
returns-in-Refused-clause-back g c start opening u =
    let m = c.miss-in-Refused.ensures.misses in
    inr (remount_misses g.D.Disk.moment_of g.D.Disk.left_since g.D.Disk.told g.D.Disk.image g.D.Disk.faults_of g.met.D.Disk.reads_an_image g.met.D.Disk.counts_now start opening c.args.self.now c.miss-in-Refused.new.self c.leave-disk.result c.in-Refused.disk c.args.ending _ _ c.requires.wanted c.leave-disk.ensures.disk
    c.in-Refused.ensures.found (record { log = m.log; same = m.same }) c.faults-before.ensures refl
    (refused_rises g.D.Disk.moment_of g.D.Disk.left_since g.D.Disk.told g.D.Disk.image g.met.D.Disk.reads_an_image g.met.D.Disk.counts_now g.D.Disk.faults_of start opening
    c.args.self.now c.leave-disk.result c.in-Refused.disk c.args.ending c.requires.wanted c.leave-disk.ensures.disk c.in-Refused.ensures.cause u) u)

pub returns-clause-stopped : goal.returns-clause-stopped
returns-clause-stopped g c start opening u =
    remount_fails g.D.Disk.moment_of g.D.Disk.left_since g.D.Disk.told g.D.Disk.image g.D.Disk.faults_of g.met.D.Disk.reads_an_image g.met.D.Disk.counts_now start opening c.args.self.now c.leave-disk.result c.in-NoMemory.disk c.args.ending c.fill.new.self c.fill.ensures c.requires.wanted c.leave-disk.ensures.disk c.in-NoMemory.ensures.found (omega (arith, c.in-NoMemory.ensures.counted)) u

pub returns-then-may_be-clause-falls : goal.returns-then-may_be-clause-falls
returns-then-may_be-clause-falls g c =
    let b = c.begin.ensures.begins in
    begun_falls g.D.Disk.faults_of g.D.Disk.told c.args.self.now c.begin.new.self c.args.ending c.in-Mounted.journal c.in-Mounted.cache (record { log = b.log; same = b.same })

pub returns-in-Mounted-clause-falls : goal.returns-in-Mounted-clause-falls
returns-in-Mounted-clause-falls g c =
    let m = c.miss.ensures.misses in
    other_falls g.D.Disk.moment_of g.D.Disk.left_since g.D.Disk.told g.D.Disk.image g.met.D.Disk.reads_an_image g.met.D.Disk.counts_now g.D.Disk.faults_of c.requires.start c.requires.opening
    c.args.self.now c.miss.new.self c.leave-disk.result c.into_disk.result c.args.ending (record { journal = c.in-Mounted.journal; identity = c.in-Mounted.identity; index = c.in-Mounted.ensures.found.0.0 }) _ _ c.requires.wanted c.leave-disk.ensures.disk
    c.in-Mounted.ensures.found.0.2 (c.may_be.ensures.other c.if-may_be.false) (record { log = m.log; same = m.same }) c.requires.back

pub returns-in-Refused-clause-falls : goal.returns-in-Refused-clause-falls
returns-in-Refused-clause-falls g c =
    let m = c.miss-in-Refused.ensures.misses in
    refused_falls g.D.Disk.moment_of g.D.Disk.left_since g.D.Disk.told g.D.Disk.image g.met.D.Disk.reads_an_image g.met.D.Disk.counts_now g.D.Disk.faults_of c.requires.start c.requires.opening
    c.args.self.now c.miss-in-Refused.new.self c.leave-disk.result c.in-Refused.disk c.args.ending _ _ c.requires.wanted c.leave-disk.ensures.disk
    c.in-Refused.ensures.cause (record { log = m.log; same = m.same }) c.requires.back

pub returns-clause-falls : goal.returns-clause-falls
returns-clause-falls g c = wanted_falls g.D.Disk.faults_of g.D.Disk.told c.args.self.now (record c.args.self.now { store = c.fill.new.self }) c.args.ending c.requires.wanted

pub returns-clause-kept : goal.returns-clause-kept
returns-clause-kept g c =
    as_before c.args.self.now (record c.args.self.now { store = c.fill.new.self }) c.fill.new.self c.args.self.now.cache c.args.self.now.held c.args.self.now.log refl refl refl

pub returns-then-may_be-clause-tells : goal.returns-then-may_be-clause-tells
returns-then-may_be-clause-tells g c =
    tells_in g.D.Disk.told c.args.self.now.store c.begin.new.self.store c.leave-disk.result c.in-Mounted.journal c.leave-disk.ensures.disk
    (ap (λ (b : Back g.row.D.Denot). b.store) c.begin.ensures.begins.same) c.in-Mounted.ensures.found.3

pub returns-in-Mounted-clause-tells : goal.returns-in-Mounted-clause-tells
returns-in-Mounted-clause-tells g c =
    tells_bare g.D.Disk.told c.args.self.now.store c.miss.new.self.store c.leave-disk.result c.into_disk.result c.leave-disk.ensures.disk
    (ap (λ (b : Back g.row.D.Denot). b.store) c.miss.ensures.misses.same)
    (subst (λ d. TellsAsBefore (g.D.Disk.told c.leave-disk.result) (g.D.Disk.told d)) (sym c.into_disk.ensures) c.in-Mounted.ensures.found.3)

pub returns-in-Refused-clause-tells : goal.returns-in-Refused-clause-tells
returns-in-Refused-clause-tells g c =
    tells_bare g.D.Disk.told c.args.self.now.store c.miss-in-Refused.new.self.store c.leave-disk.result c.in-Refused.disk c.leave-disk.ensures.disk
    (ap (λ (b : Back g.row.D.Denot). b.store) c.miss-in-Refused.ensures.misses.same) c.in-Refused.ensures.found.1

pub returns-clause-tells : goal.returns-clause-tells
returns-clause-tells g c =
    tells_bare g.D.Disk.told c.args.self.now.store c.fill.new.self c.leave-disk.result c.in-NoMemory.disk c.leave-disk.ensures.disk c.fill.ensures c.in-NoMemory.ensures.found.1

pub returns-then-may_be-clause-limit : goal.returns-then-may_be-clause-limit
returns-then-may_be-clause-limit g c had =
    limited_in c.begin.new.self.store c.in-Mounted.journal c.args.self.now.limit (ap (λ (b : Back g.row.D.Denot). b.store) c.begin.ensures.begins.same) c.in-Mounted.ensures.limited

pub returns-in-Mounted-clause-limit : goal.returns-in-Mounted-clause-limit
returns-in-Mounted-clause-limit g c had =
    limited_bare c.miss.new.self.store c.into_disk.result c.args.self.now.limit (ap (λ (b : Back g.row.D.Denot). b.store) c.miss.ensures.misses.same)

pub returns-in-Refused-clause-limit : goal.returns-in-Refused-clause-limit
returns-in-Refused-clause-limit g c had =
    limited_bare c.miss-in-Refused.new.self.store c.in-Refused.disk c.args.self.now.limit (ap (λ (b : Back g.row.D.Denot). b.store) c.miss-in-Refused.ensures.misses.same)

pub returns-clause-limit : goal.returns-clause-limit
returns-clause-limit g c had = limited_bare c.fill.new.self c.in-NoMemory.disk c.args.self.now.limit c.fill.ensures

pub returns-then-may_be-clause-finds : goal.returns-then-may_be-clause-finds
returns-then-may_be-clause-finds g c =
    let b = c.begin.ensures.begins in
    begun_finds g.D.Disk.moment_of g.D.Disk.left_since g.D.Disk.told g.D.Disk.image g.D.Disk.faults_of g.met.D.Disk.reads_an_image g.met.D.Disk.counts_now c.requires.start c.requires.opening
    c.args.self.now c.begin.new.self c.leave-disk.result c.args.ending (record { journal = c.in-Mounted.journal; identity = c.in-Mounted.identity; index = c.in-Mounted.ensures.found.0.0 }) c.in-Mounted.cache c.requires.wanted c.leave-disk.ensures.disk
    c.in-Mounted.ensures.found.0.2 c.in-Mounted.ensures.found.3 (record { log = b.log; same = b.same }) c.requires.back

pub returns-in-Mounted-clause-finds : goal.returns-in-Mounted-clause-finds
returns-in-Mounted-clause-finds g c =
    missed_finds g.D.Disk.told c.args.self.now c.miss.new.self (ap (λ (b : Back g.row.D.Denot). is_mounted_mode b.mode) c.miss.ensures.misses.same)

pub returns-in-Refused-clause-finds : goal.returns-in-Refused-clause-finds
returns-in-Refused-clause-finds g c =
    missed_finds g.D.Disk.told c.args.self.now c.miss-in-Refused.new.self (ap (λ (b : Back g.row.D.Denot). is_mounted_mode b.mode) c.miss-in-Refused.ensures.misses.same)

pub returns-clause-finds : goal.returns-clause-finds
returns-clause-finds g c = still_finds g.D.Disk.told c.args.self.now (record c.args.self.now { store = c.fill.new.self }) refl
