use Rattle.std.proofs.Common.{◌≡◌, List, ℕ, ap, ◌∙◌}
use Rattle.std.proofs.lemmas.Result.{IfOk-weaker}
use Rattle.line_server.specs.Raw.{IsRaw}
use Rattle.line_server.specs.Bodies.{body_seen}
use Rattle.line_server.specs.Requests.{json_of_line, or_json, body_of}
use Rattle.line_server.proofs.Texts.{kept_body}
use Rattle.line_server.proofs.raw_line.RawLine.body.Goals as goal

pub returns-clause-body : goal.returns-clause-body
returns-clause-body c =
    IfOk-weaker c.read_body.result (λ body. body_seen body ≡ or_json (json_of_line c.deref.result.now)) (λ body. (line : List ℕ) → IsRaw line c.args.self.now → body_seen body ≡ body_of line)
    (λ body read line is. read ∙ ap (λ kept. or_json (json_of_line kept)) c.deref.ensures.value ∙ kept_body line c.args.self.now is c.if-self-gt-MOST_LINE_BYTES.false) c.read_body.ensures.body
