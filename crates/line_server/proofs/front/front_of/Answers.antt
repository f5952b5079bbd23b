use Rattle.std.proofs.Common.{refl}
use Rattle.line_server.proofs.Finding.{front_part, front_whole}
use Rattle.line_server.proofs.front.front_of.Goals as goal

pub returns-in-Some : goal.returns-in-Some
returns-in-Some c = front_whole c.args.bytes.now c.fitting-looked.result.now c.args.most c.in-Some.at c.fitting-looked.ensures (rw c.in-Some.is at c.memchr.ensures)

pub returns-in-None : goal.returns-in-None
returns-in-None c = front_part c.args.bytes.now c.fitting-looked.result.now c.args.most _ c.fitting-looked.ensures refl c.requires.room c.requires.some (rw c.in-None.is at c.memchr.ensures)
