use Rattle.std.proofs.Common.{[], ◌∷◌, codes}
use Rattle.command_words.proofs.Plain.{plain_asked}
use Rattle.command_words.proofs.laws.words_without_options.Goals as goal

pub returns-clause-places : goal.returns-clause-places
returns-clause-places c = plain_asked

pub returns-clause-serve : goal.returns-clause-serve
returns-clause-serve c script folder s f = plain_asked (codes "serve") (script ∷ folder ∷ []) (s, (f, tt))

pub returns-clause-check : goal.returns-clause-check
returns-clause-check c script s = plain_asked (codes "check") (script ∷ []) (s, tt)

pub returns-clause-dump : goal.returns-clause-dump
returns-clause-dump c folder f = plain_asked (codes "dump") (folder ∷ []) (f, tt)

pub returns-clause-made : goal.returns-clause-made
returns-clause-made c seed count folder s n f = plain_asked (codes "gen") (seed ∷ count ∷ folder ∷ []) (s, (n, (f, tt)))
