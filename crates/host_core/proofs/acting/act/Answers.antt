use Rattle.do_tree.specs.Checked.{tree_of}
use Rattle.host_core.proofs.Actions.{acts_then, settles}
use Rattle.host_core.proofs.acting.act.Goals as goal

pub returns-clause-acts : goal.returns-clause-acts
returns-clause-acts g c =
    acts_then _ _ _ c.act_next-turned.ensures.acts (acts_then _ _ _ c.act_next-taken.ensures.acts (acts_then _ _ _ c.act_next-flushed.ensures.acts
    (acts_then _ _ _ c.act_next-released.ensures.acts c.act_next.ensures.acts)))

pub returns-clause-settled : goal.returns-clause-settled
returns-clause-settled g c =
    settles (tree_of c.args.checked.now) _ _ _ _ _ _ _ _ _ _ _ _ c.act_next-turned.ensures.idle c.act_next-taken.ensures.idle c.act_next-flushed.ensures.idle
    c.act_next-released.ensures.idle c.act_next.ensures.idle

pub returns-clause-one : goal.returns-clause-one
returns-clause-one g c origin one =
    c.act_next.ensures.one origin (c.act_next-released.ensures.one origin (c.act_next-flushed.ensures.one origin
    (c.act_next-taken.ensures.one origin (c.act_next-turned.ensures.one origin one))))

pub returns-clause-tells : goal.returns-clause-tells
returns-clause-tells g c tells =
    c.act_next-turned.ensures.tells (c.act_next-taken.ensures.tells (c.act_next-flushed.ensures.tells (c.act_next-released.ensures.tells (c.act_next.ensures.tells tells))))
