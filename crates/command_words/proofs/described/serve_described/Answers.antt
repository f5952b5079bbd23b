use Rattle.std.proofs.Common.{◌≡◌, ◌∙◌, ap₂, rules, codes}
use Rattle.clap.specs.Words.{new_rule, rule_of, with_rule}
use Rattle.command_words.specs.Described.{option_described}
use Rattle.command_words.proofs.described.serve_described.Goals as goal

pub returns-clause-app : goal.returns-clause-app
returns-clause-app c =
    let slots : rule_of c.option_described.result ≡ option_described (codes "slots") = search rules in
    let workers : rule_of c.option_described-2.result ≡ option_described (codes "workers") = search rules in
    let journal : rule_of c.option_described-3.result ≡ option_described (codes "journal-bytes") = search rules in
    let script : rule_of c.new-2.result ≡ new_rule (codes "script") = search rules in
    let folder : rule_of c.new-3.result ≡ new_rule (codes "folder") = search rules in
    c.in_ok-command.ensures.shape (search rules) ∙ ap₂ with_rule (c.in_ok-arg-4.ensures.shape (search rules)
    ∙ ap₂ with_rule (c.in_ok-arg-3.ensures.shape (search rules) ∙ ap₂ with_rule (c.in_ok-arg-2.ensures.shape (search rules)
    ∙ ap₂ with_rule (c.in_ok-arg.ensures.shape (search rules) ∙ ap₂ with_rule c.new.ensures.app slots) workers) journal) script) folder
