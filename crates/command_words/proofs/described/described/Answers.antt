use Rattle.std.proofs.Common.{◌∙◌, ap, ap₂}
use Rattle.clap.specs.Words.{App, with_subcommand}
use Rattle.command_words.proofs.described.described.Goals as goal

pub returns : goal.returns
returns c =
    let top = λ (a : App). a.top in
    let serve = c.in_ok-serve_described.ensures in
    let check = c.in_ok-check_described.ensures in
    let dump = c.in_ok-dump_described.ensures in
    let made = c.in_ok-gen_described.ensures in
    c.in_ok-program.ensures.shape made.local ∙ ap₂ with_subcommand (c.in_ok-subcommand-3.ensures.shape dump.local
    ∙ ap₂ with_subcommand (c.in_ok-subcommand-2.ensures.shape check.local ∙ ap₂ with_subcommand (c.in_ok-subcommand.ensures.shape serve.local
    ∙ ap₂ with_subcommand c.bare.ensures.app (ap top serve.app)) (ap top check.app)) (ap top dump.app)) (ap top made.app)
