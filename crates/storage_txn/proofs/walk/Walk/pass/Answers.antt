use Rattle.std.proofs.Common.{◌≡◌, ℕ, List, None, true, false, sym, ap, ◌∙◌}
use Rattle.std.specs.Prelude.{option_map}
use Rattle.std.specs.FinMap.{get}
use Rattle.storage_map.specs.Readings.{keeps}
use Rattle.storage_map.specs.Stored.{value_after}
use Rattle.storage_txn.specs.Ahead.{at_front}
use Rattle.storage_txn.proofs.Passing.{place_front}
use Rattle.storage_txn.proofs.Listing.{moved_left, moved_walk, moved_fewer, kept_value, unkept_value}
use Rattle.storage_txn.proofs.walk.Walk.pass.Goals as goal

pub returns-then-not-keeps-clause-left : goal.returns-then-not-keeps-clause-left
returns-then-not-keeps-clause-left c =
    let w = c.args.self.now in
    let no : keeps w.options.now c.args.key.now ≡ false = ap (keeps w.options.now) (sym c.as_str.ensures.text) ∙ sym c.keeps.ensures ∙ c.if-not-keeps.true in
    moved_left w c.args.key None c.take-place.new.self c.take-below.new.self c.requires.walk c.requires.nearest c.take-place.ensures.left c.take-below.ensures.left (unkept_value (keeps w.options.now c.args.key.now) (value_after c.args.key.now (at_front c.args.key.now w.below) w.ops.now) no)

pub returns-then-not-keeps-clause-walk : goal.returns-then-not-keeps-clause-walk
returns-then-not-keeps-clause-walk c = moved_walk c.args.self.now c.args.key c.take-place.new.self c.take-below.new.self c.requires.walk c.requires.nearest c.take-place.ensures.left c.take-below.ensures.left

pub returns-then-not-keeps-clause-fewer : goal.returns-then-not-keeps-clause-fewer
returns-then-not-keeps-clause-fewer c = moved_fewer c.args.self.now c.args.key c.take-place.new.self c.take-below.new.self c.requires.walk c.requires.nearest c.take-place.ensures.left c.take-below.ensures.left

pub latest_at-requires-clause-place : goal.latest_at-requires-clause-place
latest_at-requires-clause-place c =
    let w = c.args.self.now in
    let yes : keeps w.options.now c.args.key.now ≡ true = ap (keeps w.options.now) (sym c.as_str.ensures.text) ∙ sym c.keeps.ensures ∙ c.if-not-keeps.false in
    c.take-place.ensures.place
    ∙ place_front w c.args.key.now c.requires.walk c.requires.nearest yes
    ∙ ap (λ (k : List ℕ). get w.places.now.at k) (sym c.as_str-2.ensures.text)

pub returns-clause-left : goal.returns-clause-left
returns-clause-left c =
    let w = c.args.self.now in
    let k = c.args.key.now in
    let yes : keeps w.options.now k ≡ true = ap (keeps w.options.now) (sym c.as_str.ensures.text) ∙ sym c.keeps.ensures ∙ c.if-not-keeps.false in
    let value = option_map (λ value. value.now) c.over.result in
    moved_left w c.args.key value c.take-place.new.self c.take-below.new.self c.requires.walk c.requires.nearest c.take-place.ensures.left c.take-below.ensures.left
    (kept_value (keeps w.options.now k) c.latest_at.result (option_map (λ value. value.now) c.take-below.result) (at_front k w.below) value k w.ops.now yes c.over.ensures
    (λ was. ap (λ (q : List ℕ). value_after q was w.ops.now) (sym c.as_str-2.ensures.text) ∙ c.latest_at.ensures was)
    c.take-below.ensures.value)

pub returns-clause-walk : goal.returns-clause-walk
returns-clause-walk c = moved_walk c.args.self.now c.args.key c.take-place.new.self c.take-below.new.self c.requires.walk c.requires.nearest c.take-place.ensures.left c.take-below.ensures.left

pub returns-clause-fewer : goal.returns-clause-fewer
returns-clause-fewer c = moved_fewer c.args.self.now c.args.key c.take-place.new.self c.take-below.new.self c.requires.walk c.requires.nearest c.take-place.ensures.left c.take-below.ensures.left
