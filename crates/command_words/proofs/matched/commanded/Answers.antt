use Rattle.std.proofs.Common.{◌≡◌, bytes_eq, codes, false, sym, rules}
use Rattle.clap.specs.Words.{first_of, found_of, rows_of}
use Rattle.command_words.proofs.Whole.{no_command}
use Rattle.command_words.proofs.matched.commanded.Goals as goal

pub returns-else-eq-4-clause-asked : goal.returns-else-eq-4-clause-asked
returns-else-eq-4-clause-asked c =
    let name = c.args.name.now in
    let serve : bytes_eq (codes "serve") name ≡ false = search rules in
    let check : bytes_eq (codes "check") name ≡ false = search rules in
    let dump : bytes_eq (codes "dump") name ≡ false = search rules in
    let made : bytes_eq (codes "gen") name ≡ false = search rules in
    sym (no_command name (λ id. first_of id (rows_of (found_of c.args.inner.now))) serve check dump made)
