-- The program's commands as `clap` has them.
use Rattle.std.specs.Prelude.{true, Some, codes}
use Rattle.clap.specs.Words.{App, Rule, Text, new_app, new_rule, with_rule, with_subcommand}

-- an option that is read back under its own name
abbrev pub option_described : Text → Rule
option_described name = record (new_rule name) { long = Some name }

abbrev pub serve_described : App
serve_described = with_rule (with_rule (with_rule (with_rule (with_rule (new_app (codes "serve")) (option_described (codes "slots")))
    (option_described (codes "workers"))) (option_described (codes "journal-bytes"))) (new_rule (codes "script"))) (new_rule (codes "folder"))

abbrev pub check_described : App
check_described = with_rule (new_app (codes "check")) (new_rule (codes "script"))

abbrev pub dump_described : App
dump_described = with_rule (with_rule (new_app (codes "dump")) (option_described (codes "slots"))) (new_rule (codes "folder"))

abbrev pub gen_described : App
gen_described = with_rule (with_rule (with_rule (new_app (codes "gen")) (new_rule (codes "seed"))) (new_rule (codes "count"))) (new_rule (codes "folder"))

-- the program takes no name of its own among the words, and has no help
abbrev pub bare : App
bare = let app = new_app (codes "durable") in
    record app { top = record app.top { no_binary_name = true; disable_help_flag = true; disable_help_subcommand = true } }

abbrev pub described : App
described = with_subcommand (with_subcommand (with_subcommand (with_subcommand bare serve_described.top) check_described.top) dump_described.top)
    gen_described.top
