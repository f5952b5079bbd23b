use Rattle.std.proofs.Common.{◌≡◌, map, ap, sym, ◌∙◌}
use Rattle.serde_json.specs.View.{view}
use Rattle.line_server.specs.Asked.{parts_ask, asked_in}
use Rattle.line_server.proofs.Texts.{array_asks}
use Rattle.line_server.proofs.read_line.request.Goals as goal

pub returns-in-Some-clause-asks : goal.returns-in-Some-clause-asks
returns-in-Some-clause-asks c =
    let parts : parts_ask (map view c.as_slice.result.now) ≡ asked_in (view c.args.json.now) =
    ap (λ items. parts_ask (map view items)) c.as_slice.ensures.value ∙ array_asks (view c.args.json.now) (map view c.in-Some.parts.now.items) c.in-Some.ensures in
    rw (sym parts) c.of_parts.ensures.asks
