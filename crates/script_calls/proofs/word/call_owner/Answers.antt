use Rattle.std.proofs.Common.{sym, ap, ◌∙◌}
use Rattle.do_value.specs.Seen.{trees_in}
use Rattle.script_asks.specs.Words.{word_call_of}
use Rattle.script_calls.proofs.Ended.{does_as, over_at_once}
use Rattle.script_calls.proofs.Named.{word_named, word_unnamed}
use Rattle.script_mean.specs.Calls.{call_word}
use Rattle.script_mean.specs.Turn.{ends}
use Rattle.script_calls.proofs.word.call_owner.Goals as goal

pub returns-in-Some-clause-same : goal.returns-in-Some-clause-same
returns-in-Some-clause-same c =
    does_as _ _ c.args.state.now c.do_word.new.state c.do_word.result (word_named call_word word_call_of _ c.owner_call.result c.in-Some.call (trees_in c.args.args.items) c.owner_call.ensures c.in-Some.is) c.do_word.ensures.same

pub returns-in-None-clause-same : goal.returns-in-None-clause-same
returns-in-None-clause-same c =
    over_at_once _ c.args.state.now c.nowhere.result (word_unnamed call_word word_call_of _ c.owner_call.result (trees_in c.args.args.items) c.owner_call.ensures c.in-None.is ∙ ap ends (sym c.nowhere.ensures))
