use Rattle.std.proofs.Common.{refl, sym, subst, arith}
use Rattle.batch_journal.specs.Frames.{Version, marker, MayStand}
use Rattle.batch_journal.proofs.Held.{held_marker}
use Rattle.batch_journal.proofs.reading.Reading.pass_marker.Goals as goal

pub returns-clause-more : goal.returns-clause-more
returns-clause-more c = record {
  frame = marker;
  stands = subst (λ (v : Version). MayStand v marker) (sym c.requires.format) tt;
  same = refl;
  is = refl;
  more = λ frames held place. held_marker c.args.self.now _ frames held c.requires.format refl refl refl refl (omega (arith, place));
}
