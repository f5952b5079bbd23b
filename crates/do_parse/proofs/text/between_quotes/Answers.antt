use Rattle.std.proofs.Common.{◌<◌, length, arith}
use Rattle.std.proofs.lemmas.Str.{IsCharBoundary-after_ascii}
use Rattle.do_parse.proofs.text.between_quotes.Goals as goal

-- the first byte is ASCII, so the text may be cut behind it
pub range-requires-clause-start_boundary : goal.range-requires-clause-start_boundary
range-requires-clause-start_boundary c some = let within : 0 < length c.args.quoted.now = omega arith in IsCharBoundary-after_ascii c.args.quoted.now 0 c.utf8.quoted within c.requires.first
