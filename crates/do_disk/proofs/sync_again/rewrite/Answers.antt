use Rattle.std.proofs.Common.{◌≡◌, ◌+◌, ℕ, Bool, false, [], ◌∷◌, length, is_ok, ap, sym, subst, arith}
use Rattle.std.proofs.lemmas.List.{length-take}
use Rattle.std.proofs.lemmas.Result.{err_from_is_err_and}
use Rattle.do_disk.specs.FileCalls.{synced_all, Adds, Rewrites, synced}
use Rattle.do_disk.proofs.Files.{HasRewritten, begins, goes_on, ends}
use Rattle.do_disk.proofs.sync_again.rewrite.Goals as goal

pub loop-at-init : goal.loop-at-init
loop-at-init g c = begins (g.F.FileCalls.calls c.args.file.now) c.args.end c.args.from

pub returns-in_err-write_again : goal.returns-in_err-write_again
returns-in_err-write_again g c =
    let before = g.F.FileCalls.calls c.args.file.now in
    let mid = g.F.FileCalls.calls c.loop-at.file in
    let now = g.F.FileCalls.calls c.write_again.new.file in
    let end = c.args.end in
    let p = err_from_is_err_and c.from_residual.result c.from_residual.ensures.1 in
    let cut = c.in_err-write_again.ensures.failed end (omega (arith, length-take c.min-n.result c.loop-at.piece)) in
    subst (λ (done : Bool). Adds before now (λ made. Rewrites end c.args.from made done)) (sym (ap is_ok p.1))
    (ends before mid now end c.args.from c.loop-at.at false c.loop-at.invariant cut)

pub loop-at-preserved : goal.loop-at-preserved
loop-at-preserved g c =
    let before = g.F.FileCalls.calls c.args.file.now in
    let mid = g.F.FileCalls.calls c.loop-at.file in
    let now = g.F.FileCalls.calls c.write_again.new.file in
    let end = c.args.end in
    let piece = c.write_again.new.piece in
    let same : length piece ≡ c.min-n.result = omega (arith, length-take c.min-n.result c.loop-at.piece) in
    subst (λ (n : ℕ). HasRewritten before now end c.args.from (c.loop-at.at + n)) same
    (goes_on before mid now end c.args.from c.loop-at.at piece c.loop-at.invariant c.in_ok-write_again.ensures.done (omega arith))

pub returns : goal.returns
returns g c =
    let before = g.F.FileCalls.calls c.args.file.now in
    let mid = g.F.FileCalls.calls c.loop-at.file in
    let now = g.F.FileCalls.calls c.sync.new.self in
    let done = is_ok c.sync.result in
    ends before mid now c.args.end c.args.from c.loop-at.at done c.loop-at.invariant
    (synced_all done ∷ [], c.sync.ensures, synced c.loop-at.at done (omega arith))
