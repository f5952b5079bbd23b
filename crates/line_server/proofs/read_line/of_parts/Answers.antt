use Rattle.std.proofs.Common.{◌≡◌, ◌≢◌, length, arith, map, sym, ◌∙◌}
use Rattle.std.proofs.lemmas.List.{length-map}
use Rattle.serde_json.specs.View.{view}
use borrow.Author.Tests.{ltb-true, ltb-false}
use Rattle.line_server.proofs.Texts.{other_parts}
use Rattle.line_server.proofs.read_line.of_parts.Goals as goal
use Rattle.line_server.proofs.read_line.of_parts.Goals.{in_default-via-then-parts-lt2, in_default-via-else-parts-lt2+else-parts-lt3+else-parts-lt4+then-parts-lt6, in_default-via-else-parts-lt2+else-parts-lt3+else-parts-lt4+else-parts-lt6+else-parts-lt7}

pub returns-in_default-clause-asks : goal.returns-in_default-clause-asks
returns-in_default-clause-asks c =
    let two : length c.args.parts.now ≢ 2 =
    elim c.in_default.branch [
      | in_default-via-then-parts-lt2 w ↦ omega (arith, ltb-true, ltb-false)
      | in_default-via-else-parts-lt2+else-parts-lt3+else-parts-lt4+then-parts-lt6 w ↦ omega (arith, ltb-true, ltb-false)
      | in_default-via-else-parts-lt2+else-parts-lt3+else-parts-lt4+else-parts-lt6+else-parts-lt7 w ↦ omega (arith, ltb-true, ltb-false)
    ] in
    let three : length c.args.parts.now ≢ 3 =
    elim c.in_default.branch [
      | in_default-via-then-parts-lt2 w ↦ omega (arith, ltb-true, ltb-false)
      | in_default-via-else-parts-lt2+else-parts-lt3+else-parts-lt4+then-parts-lt6 w ↦ omega (arith, ltb-true, ltb-false)
      | in_default-via-else-parts-lt2+else-parts-lt3+else-parts-lt4+else-parts-lt6+else-parts-lt7 w ↦ omega (arith, ltb-true, ltb-false)
    ] in
    let six : length c.args.parts.now ≢ 6 =
    elim c.in_default.branch [
      | in_default-via-then-parts-lt2 w ↦ omega (arith, ltb-true, ltb-false)
      | in_default-via-else-parts-lt2+else-parts-lt3+else-parts-lt4+then-parts-lt6 w ↦ omega (arith, ltb-true, ltb-false)
      | in_default-via-else-parts-lt2+else-parts-lt3+else-parts-lt4+else-parts-lt6+else-parts-lt7 w ↦ omega (arith, ltb-true, ltb-false)
    ] in
    let same : length (map view c.args.parts.now) ≡ length c.args.parts.now = length-map c.args.parts.now view in
    sym (other_parts (map view c.args.parts.now) (λ e. two (sym same ∙ e)) (λ e. three (sym same ∙ e)) (λ e. six (sym same ∙ e)))
