use Rattle.std.proofs.Common.{◌≡◌, ℕ, ◌+◌, ◌≤◌, Some, length, sym, subst, OnErr, false}
use Rattle.do_disk.specs.FileCalls.{read_range, with_one, Adds, Rewrites}
use Rattle.do_disk.proofs.Files.{on_err, cut_read, cut_write}
use Rattle.do_disk.proofs.sync_again.write_again.Goals as goal

pub returns-in_err-read_at-clause-failed : goal.returns-in_err-read_at-clause-failed
returns-in_err-read_at-clause-failed g c =
    on_err c.from_residual.result (cut_read (g.F.FileCalls.calls c.args.file.now) (g.F.FileCalls.calls c.read_at.new.self) c.args.at
    (length c.args.piece.now) (rw c.in_err-read_at.was at c.read_at.ensures))

pub returns-clause-failed : goal.returns-clause-failed
returns-clause-failed g c =
    let calls = g.F.FileCalls.calls in
    let piece = c.read_at.new.into in
    let before = calls c.args.file.now in
    let mid = calls c.read_at.new.self in
    let now = calls c.write_at.new.self in
    let same : length piece ≡ length c.args.piece.now = c.read_at.auto.into in
    let read : mid ≡ with_one before (read_range c.args.at (length c.args.piece.now) (Some piece)) = rw c.in_ok-read_at.was at c.read_at.ensures in
    let whole : mid ≡ with_one before (read_range c.args.at (length piece) (Some piece))
    = subst (λ (n : ℕ). mid ≡ with_one before (read_range c.args.at n (Some piece))) (sym same) read in
    subst (λ (n : ℕ). OnErr c.write_at.result ((end : ℕ) → c.args.at + n ≤ end → Adds before now (λ made. Rewrites end c.args.at made false))) same
    (cut_write before mid now c.args.at piece c.write_at.result whole c.write_at.ensures)
