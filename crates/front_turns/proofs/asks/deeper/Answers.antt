use Rattle.std.proofs.Common.{◌≡◌, ◌+◌, ◌<◌, refl, true, arith}
use Rattle.std.specs.Prelude.{ℕ, nat_lt}
use Rattle.std.proofs.lemmas.Bool.Decides.{nat_tests}
use Rattle.timeline.specs.Limits.{most_depth}
use Rattle.front_turns.proofs.asks.deeper.Goals as goal

deep : (n : ℕ) → 16 < n → nat_lt most_depth n ≡ true
deep n h = grind (arith, nat_tests, h)

pub returns-then-depth-gt-MOST_DEPTH : goal.returns-then-depth-gt-MOST_DEPTH
returns-then-depth-gt-MOST_DEPTH c = record {
  same = λ made. rw (deep (c.args.depth + 1) (omega (arith, c.if-depth-gt-MOST_DEPTH.true)), deep c.args.depth (omega (arith, c.if-depth-gt-MOST_DEPTH.true))) refl;
  exact = λ few. omega (arith, c.if-depth-gt-MOST_DEPTH.true, few);
}
