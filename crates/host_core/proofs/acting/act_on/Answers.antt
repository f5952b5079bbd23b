use Rattle.host_core.proofs.Actions.{acts_then}
use Rattle.host_core.proofs.acting.act_on.Goals as goal

pub returns-in_err-act-clause-one : goal.returns-in_err-act-clause-one
returns-in_err-act-clause-one g c origin one = c.act.ensures.one origin (c.loop.invariant.one origin one)

pub returns-then-not-branch-clause-one : goal.returns-then-not-branch-clause-one
returns-then-not-branch-clause-one g c origin one = c.act.ensures.one origin (c.loop.invariant.one origin one)

pub returns-in_err-act-clause-tells : goal.returns-in_err-act-clause-tells
returns-in_err-act-clause-tells g c tells = c.loop.invariant.tells (c.act.ensures.tells tells)

pub returns-then-not-branch-clause-tells : goal.returns-then-not-branch-clause-tells
returns-then-not-branch-clause-tells g c tells = c.loop.invariant.tells (c.act.ensures.tells tells)

pub loop-preserved : goal.loop-preserved
loop-preserved g c = record {
  can_next = tt;
  can = c.act.ensures.again;
  one = λ origin one. c.act.ensures.one origin (c.loop.invariant.one origin one);
  tells = λ tells. c.loop.invariant.tells (c.act.ensures.tells tells);
  acts = acts_then _ _ _ c.loop.invariant.acts c.act.ensures.acts;
  finite = tt;
}
