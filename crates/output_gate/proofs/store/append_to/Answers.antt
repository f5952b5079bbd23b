use Rattle.std.proofs.Common.{◌∙◌, sym, subst, refl, ap, Err, ℕ, arith}
use Rattle.do_disk.specs.Disk.{Rose}
use Rattle.output_gate.proofs.Flushes.{never_full}
use Rattle.output_gate.proofs.store.append_to.Goals as goal

pub returns-in-Ok : goal.returns-in-Ok
returns-in-Ok g c = record {
  appends = record {
    new = c.append.new.journal;
    is = refl;
    appended = c.in-Ok.ensures.appends.appended;
    unstaged = c.in-Ok.ensures.appends.unstaged;
    any_moment = c.append.ensures.appends.any_moment;
    ended = tt;
    full_keeps = tt;
    later = c.append.ensures.appends.later;
    telling = c.append.ensures.appends.telling;
    limit = c.append.ensures.appends.limit;
  };
  stores = record { stored = c.in-Ok.ensures.stored; kept = c.in-Ok.ensures.kept; same = tt };
}

pub returns-in-Err-DiskFailed : goal.returns-in-Err-DiskFailed
returns-in-Err-DiskFailed g c =
    let before = c.faults-before.ensures ∙ ap g.D.Disk.faults_of c.disk.ensures in
    let after = c.faults-after.ensures ∙ ap g.D.Disk.faults_of c.disk-in-Err-DiskFailed.ensures in
    let fails = c.in-Err-DiskFailed.ensures.appends.fails in
    record {
      appends = record {
        new = c.append.new.journal;
        is = refl;
        appended = tt;
        unstaged = tt;
        any_moment = c.append.ensures.appends.any_moment;
        ended = record {
          cause = (
            before,
            after,
            subst (λ (x : ℕ × ℕ). Rose x.0 x.1) (ap (λ (n : ℕ). (n, g.D.Disk.faults_of c.append.new.journal.disk)) (sym before) ∙ ap (λ (n : ℕ). (c.faults-before.result, n)) (sym after))
                (fails.failed (ap Err c.in-Err-DiskFailed.field-0-is)),
          );
          discards = refl;
          end = c.end-end.ensures;
        };
        full_keeps = λ n limit frames is. absurd (never_full is);
        later = c.append.ensures.appends.later;
        telling = c.append.ensures.appends.telling;
        limit = c.append.ensures.appends.limit;
      };
      stores = record { stored = tt; kept = tt; same = c.in-Err-DiskFailed.ensures.same_cache };
    }

pub returns-in-Err-Full : goal.returns-in-Err-Full
returns-in-Err-Full g c =
    let r = c.requires in
    let fails = c.in-Err-Full.ensures.appends.fails in
    record {
      appends = record {
        new = c.append.new.journal;
        is = refl;
        appended = tt;
        unstaged = tt;
        any_moment = c.append.ensures.appends.any_moment;
        ended = record {
          cause = (
            ((fails.full r.1 r.2 r.4).only c.in-Err-Full.needed c.in-Err-Full.limit (ap Err c.in-Err-Full.field-0-is)).2,
            λ object batches staged. let f = (fails.full object batches staged).only c.in-Err-Full.needed c.in-Err-Full.limit (ap Err c.in-Err-Full.field-0-is) in (omega (arith, f.0, f.2), f.1),
          );
          discards = refl;
          end = c.end-end.ensures;
        };
        full_keeps = λ n limit frames is rest. fails.keeps c.in-Err-Full.needed c.in-Err-Full.limit frames (ap Err c.in-Err-Full.field-0-is) rest;
        later = c.append.ensures.appends.later;
        telling = c.append.ensures.appends.telling;
        limit = c.append.ensures.appends.limit;
      };
      stores = record { stored = tt; kept = tt; same = c.in-Err-Full.ensures.same_cache };
    }
