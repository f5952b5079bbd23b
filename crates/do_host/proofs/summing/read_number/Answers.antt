use Rattle.std.proofs.Common.{◌≡◌, ◌∙◌, Some, sym, ap, codes, arith}
use Rattle.std.proofs.lemmas.Int.{ints, to_z-of_z}
use Rattle.std.specs.Int.{w64}
use Rattle.do_value.specs.declared.value.Value.{Value}
use Rattle.batch_journal.specs.Places.{IsPlaceIn}
use Rattle.do_host.specs.Storage.{left_by}
use Rattle.do_host.specs.Sums.{counted, number_left}
use Rattle.do_host.proofs.Values.{value_there}
use Rattle.do_host.proofs.summing.read_number.Goals as goal

pub returns-clause-number : goal.returns-clause-number
returns-clause-number g c = λ frames rest stands told.
    let there = value_there (IsPlaceIn frames) c.args.index.now (left_by frames) stands (codes "n") c.in-Some.place (sym c.get.ensures ∙ c.in-Some.is) in
    let value : c.in_ok-value.value ≡ there.0 = c.in_ok-value.ensures.value frames there.0 rest there.2 told in
    let number : c.number_of.result ≡ number_left frames = c.number_of.ensures.number ∙ ap (λ (v : Value). counted (Some v)) value ∙ ap counted (sym there.1) in
    to_z-of_z w64 c.number_of.result (record { sfits = omega (arith, ints, c.number_of.ensures.safe.0, c.number_of.ensures.safe.1) }) ∙ number

pub read_value-requires : goal.read_value-requires
read_value-requires g c =
    let r = c.requires in
    let there = value_there (IsPlaceIn r.0) c.args.index.now (left_by r.0) r.2 (codes "n") c.in-Some.place (sym c.get.ensures ∙ c.in-Some.is) in
    (r.0, there.0, r.1, there.2)
