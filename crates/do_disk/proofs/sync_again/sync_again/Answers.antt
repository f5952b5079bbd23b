use Rattle.std.proofs.Common.{◌≡◌, ◌-◌, min, ℕ, Bool, is_ok, ap, sym, subst, arith}
use Rattle.std.proofs.lemmas.Result.{err_from_is_err_and}
use Rattle.do_disk.specs.FileCalls.{Adds, Rewrites, SyncsAgain}
use Rattle.do_disk.proofs.Files.{not_asked, asked}
use Rattle.do_disk.proofs.sync_again.sync_again.Goals as goal

pub returns-in_err-end : goal.returns-in_err-end
returns-in_err-end g c =
    let old = g.F.FileCalls.calls c.args.file.now in
    let now = g.F.FileCalls.calls c.length.new.self in
    let p = err_from_is_err_and c.from_residual.result c.from_residual.ensures.1 in
    let none = rw c.in_err-end.was at c.length.ensures in
    subst (λ (done : Bool). Adds old now (λ made. SyncsAgain c.args.place c.args.before made done)) (sym (ap is_ok p.1))
    (not_asked old now c.args.place c.args.before none)

pub returns : goal.returns
returns g c =
    let calls = g.F.FileCalls.calls in
    let end = c.in_ok-end.end in
    let done = is_ok c.rewrite.result in
    let given = rw c.in_ok-end.was at c.length.ensures in
    let from : c.saturating_sub.result ≡ min c.args.place end - c.args.before = omega arith in
    let rest = subst (λ (n : ℕ). Adds (calls c.length.new.self) (calls c.rewrite.new.file) (λ made. Rewrites end n made done)) from c.rewrite.ensures in
    asked (calls c.args.file.now) (calls c.length.new.self) (calls c.rewrite.new.file) c.args.place c.args.before end done given rest
