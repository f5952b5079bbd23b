use Rattle.std.proofs.Common.{sym, ◌∙◌}
use Rattle.storage_txn.proofs.Passing.{place_within, place_key}
use Rattle.storage_txn.proofs.walk.Walk.first_placed.Goals as goal

pub key_at-requires : goal.key_at-requires
key_at-requires c = place_within c.args.self.now c.in_ok-place.place c.requires (sym c.first.ensures ∙ c.in_ok-place.was)

pub returns : goal.returns
returns c = c.key_at.ensures ∙ place_key c.args.self.now c.in_ok-place.place c.requires (sym c.first.ensures ∙ c.in_ok-place.was)
