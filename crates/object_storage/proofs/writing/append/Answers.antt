use Rattle.std.proofs.Common.{◌≡◌, ◌+◌, [], length, ap, sym, ◌∙◌, subst, arith}
use Rattle.std.specs.Prelude.{Result, Err}
use Rattle.std.proofs.lemmas.Result.{err_from_is_err_and}
use Rattle.storage_cache.specs.Cached.{Cached}
use Rattle.batch_journal.specs.Rest.{end_of}
use Rattle.batch_journal.specs.Frames.{journal_bytes}
use Rattle.batch_journal.specs.declared.journal.AppendFault.{AppendFault}
use Rattle.object_storage.specs.Steps.{Appends}
use Rattle.object_storage.specs.Stored.{with_staged, HasStored, HasKept}
use Rattle.object_storage.proofs.Going.{appended, kept_grows}
use Rattle.object_storage.proofs.writing.append.Goals as goal

pub returns-in_err-append-clause-appends : goal.returns-in_err-append-clause-appends
returns-in_err-append-clause-appends g c =
    let p = err_from_is_err_and c.from_residual.result c.from_residual.ensures.1 in
    let failed = c.in_err-append.ensures in
    subst (λ (r : Result (Unit {0}) AppendFault). Appends g.D.Disk.moment_of g.D.Disk.left_since g.D.Disk.told g.D.Disk.image g.D.Disk.faults_of c.args.journal.now c.append.new.self r) (sym (p.1 ∙ ap Err p.2))
    (record {
      appended = tt;
      unstaged = tt;
      calls = tt;
      any_moment = failed.any_moment;
      fails = record { failed = failed.failed; full = failed.full; drops = failed.full_drops; keeps = failed.full_keeps; end = failed.same_end };
      later = failed.later;
      telling = failed.telling;
      limit = failed.same_limit;
    })

pub returns-clause-appends : goal.returns-clause-appends
returns-clause-appends g c =
    let done = c.in_ok-append.ensures in
    record {
      appended = done.appended;
      unstaged = done.unstaged;
      calls = done.calls;
      any_moment = done.any_moment;
      fails = record { failed = done.failed; full = done.full; drops = done.full_drops; keeps = done.full_keeps; end = tt };
      later = done.later;
      telling = done.telling;
      limit = done.same_limit;
    }

pub returns-clause-stored : goal.returns-clause-stored
returns-clause-stored g c = λ frames object staged m rest unwritten named is.
    let done = c.in_ok-append.ensures in
    let later = done.appended frames object staged rest unwritten named in
    let at : end_of c.append.new.self ≡ length (journal_bytes (with_staged frames object staged)) + 1 = later.end in
    subst (λ (x : Cached). HasStored (with_staged frames object staged) object [] x m) (sym c.flushed.ensures)
    (appended frames object staged c.args.cache.now m is (omega (arith, at, c.end.ensures, c.fits.ensures)))

pub returns-clause-kept : goal.returns-clause-kept
returns-clause-kept g c = λ frames object staged keeps.
    subst (HasKept (with_staged frames object staged)) (sym c.flushed.ensures) (kept_grows frames object staged c.args.cache.now keeps)
