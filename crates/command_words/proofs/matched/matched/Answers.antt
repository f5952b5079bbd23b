use Rattle.std.proofs.Common.{◌∙◌, sym, ap}
use Rattle.std.proofs.lemmas.Result.{IfOk-weaker}
use Rattle.clap.specs.Words.{found_of, rows_of}
use Rattle.command_words.specs.Matched.{asked_at}
use Rattle.command_words.proofs.Answered.{some_pair}
use Rattle.command_words.proofs.matched.matched.Goals as goal

pub returns-in-Some-clause-asked : goal.returns-in-Some-clause-asked
returns-in-Some-clause-asked c =
    let is = some_pair _ _ _ c.in-Some.name.now (rows_of (found_of c.in-Some.inner.now)) c.in-Some.ensures.name c.in-Some.ensures.rows in
    IfOk-weaker c.commanded.result _ _ (λ command asked. asked ∙ ap asked_at (sym is)) c.commanded.ensures.asked
