use Rattle.std.proofs.Common.{sym, refl, ap, ℕ, List, [], map, arith}
use Rattle.do_tree.specs.Lookup.{constructor_of}
use Rattle.timeline.specs.declared.entry.Entry.{Entry}
use Rattle.timeline.specs.declared.event.Event.{Event}
use Rattle.front_half.proofs.Blocks.{begun_gated}
use Rattle.front_half.proofs.half.Half.new.Goals as goal

pub returns-clause-stands : goal.returns-clause-stands
returns-clause-stands g c = λ script known. record {
  class = refl;
  known = known;
  incarnation = refl;
  count = refl;
  mode = λ class is. ([], sym c.begin.ensures.object, c.begin.ensures.holds _);
  gate = λ class is. begun_gated (constructor_of script class) c.args.alarm;
  deferred = c.new.ensures;
  stuck = refl;
  delivered_from = omega arith;
  sent_from = omega arith;
  events = ap (λ (es : List (ℕ × Event)). map (λ d. d.1) es) c.new-2.ensures.items;
  said = ap (λ (es : List Entry). map (λ e. e.body) es) c.new-5.ensures.items;
}
