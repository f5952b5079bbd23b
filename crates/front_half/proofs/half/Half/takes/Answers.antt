use Rattle.std.proofs.Common.{◌∙◌, sym, refl}
use Rattle.do_tree.specs.Checked.{tree_of as script_in}
use Rattle.front_half.specs.declared.testing.Doing.TheVariants as act
use Rattle.front_half.proofs.Entered.{as_done, delivers_done, delivers_stopped, wants_done, wants_stopped, kept_done, kept_stopped}
use Rattle.front_half.proofs.Sent.{sent_none}
use Rattle.front_half.proofs.half.Half.takes.Goals as goal

pub delivers-requires : goal.delivers-requires
delivers-requires g c = (c.requires.0, c.requires.1, sym (c.decide.ensures c.requires.0 c.requires.1) ∙ c.in-Delivers.is)

pub returns-in-Delivers-clause-moves : goal.returns-in-Delivers-clause-moves
returns-in-Delivers-clause-moves g c =
    delivers_done g.T.Task.seen (script_in c.args.checked.now) c.args.self.now c.delivers.new.self c.args.event c.delivers.result
    (λ st half. sym (c.decide.ensures st half) ∙ c.in-Delivers.is) c.delivers.ensures.moves

pub returns-in-Delivers-clause-cut : goal.returns-in-Delivers-clause-cut
returns-in-Delivers-clause-cut g c =
    delivers_stopped g.T.Task.seen (script_in c.args.checked.now) c.args.self.now c.delivers.new.self c.args.event c.delivers.result
    (λ st half. sym (c.decide.ensures st half) ∙ c.in-Delivers.is) c.delivers.ensures.cut

pub returns-in-Wants-clause-moves : goal.returns-in-Wants-clause-moves
returns-in-Wants-clause-moves g c =
    wants_done g.T.Task.seen (script_in c.args.checked.now) c.args.self.now c.wants.new.self c.args.event c.wants.result
    (λ st half. sym (c.decide.ensures st half) ∙ c.in-Wants.is) c.wants.ensures.moves

pub returns-in-Wants-clause-cut : goal.returns-in-Wants-clause-cut
returns-in-Wants-clause-cut g c =
    wants_stopped g.T.Task.seen (script_in c.args.checked.now) c.args.self.now c.wants.new.self c.args.event c.wants.result
    (λ st half. sym (c.decide.ensures st half) ∙ c.in-Wants.is) c.wants.ensures.cut

pub returns-in-Defers-clause-moves : goal.returns-in-Defers-clause-moves
returns-in-Defers-clause-moves g c =
    kept_done g.T.Task.seen (script_in c.args.checked.now) c.args.self.now c.defers.new.self c.args.event act.Defers c.defers.result
    (λ st half. sym (c.decide.ensures st half) ∙ c.in-Defers.is) c.defers.ensures.moves

pub returns-in-Defers-clause-cut : goal.returns-in-Defers-clause-cut
returns-in-Defers-clause-cut g c =
    kept_stopped g.T.Task.seen (script_in c.args.checked.now) c.args.self.now c.defers.new.self c.args.event c.defers.result c.defers.ensures.same

pub returns-in-Defers-clause-too : goal.returns-in-Defers-clause-too
returns-in-Defers-clause-too g c = sent_none _ _ _ _ refl c.defers.ensures.sent

pub returns-in-Drops-clause-moves : goal.returns-in-Drops-clause-moves
returns-in-Drops-clause-moves g c =
    kept_done g.T.Task.seen (script_in c.args.checked.now) c.args.self.now c.drops.new.self c.args.event act.Drops c.drops.result
    (λ st half. sym (c.decide.ensures st half) ∙ c.in-Drops.is) c.drops.ensures.moves

pub returns-in-Drops-clause-cut : goal.returns-in-Drops-clause-cut
returns-in-Drops-clause-cut g c =
    kept_stopped g.T.Task.seen (script_in c.args.checked.now) c.args.self.now c.drops.new.self c.args.event c.drops.result c.drops.ensures.same

pub returns-in-Drops-clause-too : goal.returns-in-Drops-clause-too
returns-in-Drops-clause-too g c = sent_none _ _ _ _ refl c.drops.ensures.sent

pub returns-in-Sticks-clause-moves : goal.returns-in-Sticks-clause-moves
returns-in-Sticks-clause-moves g c = λ st half free.
    as_done g.T.Task.seen (script_in c.args.checked.now) c.args.self.now c.sticks.new.self st c.args.event act.Sticks
    (sym (c.decide.ensures st half) ∙ c.in-Sticks.is) (c.sticks.ensures.moves (script_in c.args.checked.now) st half)

pub returns-in-Sticks-clause-too : goal.returns-in-Sticks-clause-too
returns-in-Sticks-clause-too g c = sent_none _ _ _ _ refl c.sticks.ensures.sent
