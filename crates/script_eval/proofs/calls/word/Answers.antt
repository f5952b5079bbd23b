use Rattle.std.proofs.Common.{sym, ap}
use Rattle.do_value.specs.Seen.{trees_in}
use Rattle.script_mean.specs.Meaning.{word_named}
use Rattle.script_eval.proofs.Called.{word_acts}
use Rattle.script_eval.proofs.Doings.{does_so}
use Rattle.script_eval.proofs.calls.word.Goals as goal

pub returns : goal.returns
returns c =
    word_acts c.args.name c.args.got c.args.state.now c.call_word.new.state c.in_ok-call_word.field-0
    (does_so _ _ c.args.state.now c.call_word.new.state c.in_ok-call_word.field-0
    (ap (λ n. word_named n (trees_in c.args.got.items)) (sym c.as_str.ensures))
    c.in_ok-call_word.ensures.same)
    c.in_ok-call_word.ensures.ready
