use Rattle.std.proofs.Common.{sym, ap, ◌∙◌}
use Rattle.do_value.specs.Seen.{trees_in}
use Rattle.script_asks.specs.Words.{word_call_of}
use Rattle.script_calls.proofs.Ended.{does_as}
use Rattle.script_mean.specs.Calls.{call_word}
use Rattle.script_mean.specs.Storing.{value_of}
use Rattle.script_mean.specs.Turn.{ask_outside}
use Rattle.script_mean.specs.declared.ask.Ask.TheVariants as asked
use Rattle.script_ops.specs.Calls.{argument}
use Rattle.script_calls.proofs.word.do_word.Goals as goal

pub returns-in-Fetches-clause-same : goal.returns-in-Fetches-clause-same
returns-in-Fetches-clause-same c =
    does_as _ _ c.args.state.now c.ask_outside.new.self c.ask_outside.result
    (ap (λ k. call_word (word_call_of k) (trees_in c.args.args.items)) c.in-Fetches.is
    ∙ ap (λ v. ask_outside (asked.Fetch v)) (sym (c.in_ok-first_of-in-Fetches.ensures ∙ ap (λ vs. value_of (argument 0 (trees_in vs))) c.deref.ensures.value)))
    c.ask_outside.ensures.same
