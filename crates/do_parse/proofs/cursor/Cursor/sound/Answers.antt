use Rattle.std.proofs.Common.{subst}
use Rattle.do_parse.specs.Sound.{AreSound}
use Rattle.do_parse.proofs.Sound.{left_sound}
use Rattle.do_parse.proofs.cursor.Cursor.sound.Goals as goal

pub returns : goal.returns
returns c = subst (λ ts. AreSound ts) c.self.view_is (left_sound c.self.inside.at c.self.inside.tokens.now c.self.invariant.1)
