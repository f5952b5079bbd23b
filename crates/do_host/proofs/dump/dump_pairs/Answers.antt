use Rattle.std.proofs.Common.{◌≡◌, ◌∙◌, ℕ, List, [], Ok, refl, sym, subst, rules}
use Rattle.std.specs.Prelude.{IfOk}
use Rattle.std.proofs.lemmas.List.{nil_from_length}
use Rattle.std.proofs.lemmas.Result.{err_from_is_err_and}
use Rattle.do_value.specs.declared.value.Value.{Value}
use Rattle.do_host.specs.SlotLines.{pair_line}
use Rattle.do_host.proofs.Dumping.{printed_none, printed_on, printed_all, printed_part, writes_all, writes_front}
use Rattle.do_host.proofs.dump.dump_pairs.Goals as goal

pub loop-pair-init : goal.loop-pair-init
loop-pair-init g c =
    let all : c.into_iter-pair-iterator.result.rest.items ≡ c.args.pairs.items = search rules in
    record {
      printed = printed_none _ _ _ _ all;
      steady = refl;
    }

pub loop-pair-preserved : goal.loop-pair-preserved
loop-pair-preserved g c =
    let pair : List ℕ × Value = c.in-Some.pair in
    let line : IfOk c.pair_line.result (λ bytes. bytes.items ≡ pair_line c.args.slot pair) =
    subst (λ (key : List ℕ). IfOk c.pair_line.result (λ bytes. bytes.items ≡ pair_line c.args.slot (key, pair.1))) c.as_str.ensures.text c.pair_line.ensures in
    record {
      printed = printed_on _ _ _ _ pair _ _ _ c.loop-pair.invariant.printed c.in-Some.ensures.steps.0 (c.in_ok-put_line.ensures.writes (pair_line c.args.slot pair) line).whole;
      steady = c.in_ok-put_line.ensures.steady (λ failed. cc) ∙ c.loop-pair.invariant.steady;
    }

pub returns-in_err-put_line-clause-writes : goal.returns-in_err-put_line-clause-writes
returns-in_err-put_line-clause-writes g c =
    let pair : List ℕ × Value = c.in-Some.pair in
    let line : IfOk c.pair_line.result (λ bytes. bytes.items ≡ pair_line c.args.slot pair) =
    subst (λ (key : List ℕ). IfOk c.pair_line.result (λ bytes. bytes.items ≡ pair_line c.args.slot (key, pair.1))) c.as_str.ensures.text c.pair_line.ensures in
    let p = err_from_is_err_and c.from_residual.result c.from_residual.ensures.1 in
    writes_front _ _ _ c.from_residual.result p.0 p.1
    (printed_part _ _ _ _ pair _ _ _ c.loop-pair.invariant.printed c.in-Some.ensures.steps.0 (c.in_err-put_line.ensures.writes (pair_line c.args.slot pair) line).front)

pub returns-clause-writes : goal.returns-clause-writes
returns-clause-writes g c =
    let rest = c.loop-pair.pair-iterator.rest in
    let none : rest.items ≡ [] = nil_from_length rest.items (sym rest.ok.0 ∙ c.in-None.ensures.steps.0) in
    writes_all _ _ _ (Ok tt) (printed_all _ _ _ _ _ c.loop-pair.invariant.printed none)
