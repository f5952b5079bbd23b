use Rattle.clap.specs.Words.{app_of}
use Rattle.command_words.specs.Seen.{asked_of}
use Rattle.command_words.proofs.Answered.{of_matches, of_refusal}
use Rattle.command_words.proofs.reading.command_of.Goals as goal

pub returns-in-Ok-try_get_matches_from-clause-asked : goal.returns-in-Ok-try_get_matches_from-clause-asked
returns-in-Ok-try_get_matches_from-clause-asked c =
    let parsed = c.in-Ok-try_get_matches_from.ensures in
    of_matches c.args.words.now (app_of c.in-Ok.program) c.in-Ok-try_get_matches_from.matches asked_of c.matched.result c.in-Ok.ensures parsed.kinds parsed.matches c.matched.ensures.asked

pub returns-in-Err-try_get_matches_from-clause-asked : goal.returns-in-Err-try_get_matches_from-clause-asked
returns-in-Err-try_get_matches_from-clause-asked c =
    let refused = c.in-Err-try_get_matches_from.ensures in
    of_refusal c.args.words.now (app_of c.in-Ok.program) c.in-Err-try_get_matches_from.error asked_of c.refused.result c.in-Ok.ensures refused.kinds c.refused.ensures.usage c.refused.ensures.kind
