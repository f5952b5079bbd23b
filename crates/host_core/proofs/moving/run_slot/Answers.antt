use Rattle.do_tree.specs.Checked.{tree_of}
use Rattle.host_core.proofs.Goings.{on_ok, on_ok_by, on_err_by, going_stands, gives_goes, gives_stands, acts_goes, hands_goes, hands_stands, hands_rests}
use Rattle.host_core.proofs.Tells.{told_handed}
use Rattle.host_core.proofs.moving.run_slot.Goals as goal

pub returns-in_err-give-clause-stands : goal.returns-in_err-give-clause-stands
returns-in_err-give-clause-stands g c =
    on_err_by c.from_residual.result (λ limit content named posts routed going.
    gives_stands g.D.Disk.moment_of g.D.Disk.left_since g.D.Disk.told g.D.Disk.image g.D.Disk.faults_of limit (tree_of c.args.checked.now) content named posts routed
    c.args.core.now c.give.new.core c.args.inbox.now c.give.new.inbox c.args.out.now c.give.result c.give.ensures.gives c.give.ensures.one going)

pub returns-in_err-act_on-clause-stands : goal.returns-in_err-act_on-clause-stands
returns-in_err-act_on-clause-stands g c =
    on_err_by c.from_residual-in_err-act_on.result (λ limit content named posts routed going.
    going_stands g.D.Disk.moment_of g.D.Disk.left_since g.D.Disk.told g.D.Disk.image g.D.Disk.faults_of limit (tree_of c.args.checked.now) content named posts routed
    c.act_on.new.core c.give.new.inbox c.args.out.now
    (acts_goes g.D.Disk.moment_of g.D.Disk.left_since g.D.Disk.told g.D.Disk.image g.D.Disk.faults_of limit (tree_of c.args.checked.now) content named posts routed
    c.give.new.core c.act_on.new.core c.give.new.inbox c.args.out.now c.act_on.ensures.acts c.act_on.ensures.one
    (gives_goes g.D.Disk.moment_of g.D.Disk.left_since g.D.Disk.told g.D.Disk.image g.D.Disk.faults_of limit (tree_of c.args.checked.now) content named posts routed
    c.args.core.now c.give.new.core c.args.inbox.now c.give.new.inbox c.args.out.now c.give.result c.in_ok-give.field-0 c.in_ok-give.was c.give.ensures.gives
    c.give.ensures.one going)))

pub returns-clause-going : goal.returns-clause-going
returns-clause-going g c =
    on_ok_by c.hand_on.result (λ done is limit content named posts routed going.
    hands_goes g.D.Disk.moment_of g.D.Disk.left_since g.D.Disk.told g.D.Disk.image g.D.Disk.faults_of limit (tree_of c.args.checked.now) content named posts routed
    c.act_on.new.core c.hand_on.new.core c.give.new.inbox c.args.out.now c.hand_on.new.out c.hand_on.result done is c.hand_on.ensures.hands
    (c.hand_on.ensures.one (tree_of c.args.checked.now))
    (acts_goes g.D.Disk.moment_of g.D.Disk.left_since g.D.Disk.told g.D.Disk.image g.D.Disk.faults_of limit (tree_of c.args.checked.now) content named posts routed
    c.give.new.core c.act_on.new.core c.give.new.inbox c.args.out.now c.act_on.ensures.acts c.act_on.ensures.one
    (gives_goes g.D.Disk.moment_of g.D.Disk.left_since g.D.Disk.told g.D.Disk.image g.D.Disk.faults_of limit (tree_of c.args.checked.now) content named posts routed
    c.args.core.now c.give.new.core c.args.inbox.now c.give.new.inbox c.args.out.now c.give.result c.in_ok-give.field-0 c.in_ok-give.was c.give.ensures.gives
    c.give.ensures.one going)))

pub returns-clause-stands : goal.returns-clause-stands
returns-clause-stands g c =
    on_err_by c.hand_on.result (λ limit content named posts routed going.
    hands_stands g.D.Disk.moment_of g.D.Disk.left_since g.D.Disk.told g.D.Disk.image g.D.Disk.faults_of limit (tree_of c.args.checked.now) content named posts routed
    c.act_on.new.core c.hand_on.new.core c.give.new.inbox c.args.out.now c.hand_on.new.out c.hand_on.result c.hand_on.ensures.hands
    (c.hand_on.ensures.one (tree_of c.args.checked.now))
    (acts_goes g.D.Disk.moment_of g.D.Disk.left_since g.D.Disk.told g.D.Disk.image g.D.Disk.faults_of limit (tree_of c.args.checked.now) content named posts routed
    c.give.new.core c.act_on.new.core c.give.new.inbox c.args.out.now c.act_on.ensures.acts c.act_on.ensures.one
    (gives_goes g.D.Disk.moment_of g.D.Disk.left_since g.D.Disk.told g.D.Disk.image g.D.Disk.faults_of limit (tree_of c.args.checked.now) content named posts routed
    c.args.core.now c.give.new.core c.args.inbox.now c.give.new.inbox c.args.out.now c.give.result c.in_ok-give.field-0 c.in_ok-give.was c.give.ensures.gives
    c.give.ensures.one going)))

pub returns-clause-resting : goal.returns-clause-resting
returns-clause-resting g c =
    on_ok_by c.hand_on.result (λ done is.
    hands_rests (tree_of c.args.checked.now) c.act_on.new.core c.hand_on.new.core c.give.new.inbox c.args.out.now c.hand_on.new.out c.hand_on.result done is
    (on_ok c.give.result c.in_ok-give.field-0 c.in_ok-give.was c.give.ensures.gives.all).1 c.in_ok-act_on.ensures.settled c.hand_on.ensures.hands)

pub returns-clause-again : goal.returns-clause-again
returns-clause-again g c =
    let can = c.act_on.ensures.again in
    (can.0, c.hand_on.ensures.one (tree_of c.args.checked.now) can.0 can.1)

pub returns-in_err-act_on-clause-tells : goal.returns-in_err-act_on-clause-tells
returns-in_err-act_on-clause-tells g c tells = c.give.ensures.tells (c.act_on.ensures.tells tells)

pub returns-clause-tells : goal.returns-clause-tells
returns-clause-tells g c tells =
    c.give.ensures.tells (c.act_on.ensures.tells
    (told_handed g.D.Disk.told c.act_on.new.core c.hand_on.new.core c.args.out.now c.hand_on.new.out c.hand_on.result c.hand_on.ensures.hands tells))
