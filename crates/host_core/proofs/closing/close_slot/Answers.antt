use Rattle.std.proofs.Common.{◌∙◌, sym, ap, subst}
use Rattle.std.specs.Prelude.{OnOk}
use Rattle.timeline.specs.Logs.{backed, fronted}
use Rattle.object_front.specs.Evaluated.{seen}
use Rattle.front_half.specs.Turning.{CanTurn}
use Rattle.object_front.specs.declared.front.Front.{Front}
use Rattle.output_gate.specs.Serving.{CanServe}
use Rattle.output_gate.specs.Storing.{IsDiskOf}
use Rattle.output_gate.specs.declared.back.Back.{Back}
use Rattle.host_core.proofs.Quiet.{is_let_go_of}
use Rattle.host_core.proofs.Rows.{can_turn, is_row_of}
use Rattle.host_core.proofs.Settled.{is_settled_of}
use Rattle.host_core.specs.Closing.{AddsLeft}
use Rattle.host_core.proofs.closing.close_slot.Goals as goal

pub ask-asked-requires : goal.ask-asked-requires
ask-asked-requires g c =
    let one = c.requires.1.1 in (
      c.requires.0,
      subst (λ (front : Front). CanTurn seen c.requires.0 front.half) (sym c.split-front.ensures.0) (can_turn c.requires.0 c.args.core.front.half one.st one.front_stands),
    )

pub row_of-requires : goal.row_of-requires
row_of-requires g c =
    let origin = c.requires.1.0 in
    let one = c.requires.1.1 in
    subst (λ (back : Back g.row.D.Denot). CanServe g.D.Disk.moment_of g.D.Disk.left_since g.D.Disk.told g.D.Disk.image g.D.Disk.faults_of back) (sym c.split-front.ensures.1)
    (origin.start, origin.opening, one.back_stands)

pub returns-clause-row : goal.returns-clause-row
returns-clause-row g c =
    is_row_of g.D.Disk.moment_of g.D.Disk.left_since g.D.Disk.told g.D.Disk.image g.D.Disk.faults_of c.args.core c.row_of.result
    (subst (λ (back : Back g.row.D.Denot). IsDiskOf back.store c.row_of.result.store) c.split-front.ensures.1 c.row_of.ensures.store)
    (c.row_of.ensures.identity ∙ ap (λ (back : Back g.row.D.Denot). back.identity) c.split-front.ensures.1)
    (c.row_of.ensures.front ∙ ap (λ (front : Front). fronted front.half.log) c.split-front.ensures.0)
    (c.row_of.ensures.back ∙ ap (λ (back : Back g.row.D.Denot). backed back.log) c.split-front.ensures.1)
    c.one_is_history.ensures c.one_has_intake.ensures c.one_has_got.ensures c.one_has_class.ensures c.one_has_left.ensures c.one_has_told.ensures c.one_is_owed.ensures c.one_is_limited.ensures
    c.one_tells_no_end.ensures c.one_drops.ensures c.one_without_class.ensures

pub returns-clause-quiet : goal.returns-clause-quiet
returns-clause-quiet g c =
    is_let_go_of g.D.Disk.moment_of g.D.Disk.left_since g.D.Disk.told g.D.Disk.image g.D.Disk.faults_of c.args.core c.row_of.result
    (subst (λ (back : Back g.row.D.Denot). IsDiskOf back.store c.row_of.result.store) c.split-front.ensures.1 c.row_of.ensures.store)
    (c.row_of.ensures.front ∙ ap (λ (front : Front). fronted front.half.log) c.split-front.ensures.0)
    (c.row_of.ensures.back ∙ ap (λ (back : Back g.row.D.Denot). backed back.log) c.split-front.ensures.1) c.one_has_let_go.ensures

pub returns-clause-settled : goal.returns-clause-settled
returns-clause-settled g c =
    is_settled_of g.D.Disk.moment_of g.D.Disk.left_since g.D.Disk.told g.D.Disk.image g.D.Disk.faults_of c.args.core c.row_of.result
    (subst (λ (back : Back g.row.D.Denot). IsDiskOf back.store c.row_of.result.store) c.split-front.ensures.1 c.row_of.ensures.store)
    (c.row_of.ensures.front ∙ ap (λ (front : Front). fronted front.half.log) c.split-front.ensures.0)
    (c.row_of.ensures.back ∙ ap (λ (back : Back g.row.D.Denot). backed back.log) c.split-front.ensures.1)
    c.one_is_quiet.ensures c.one_leaves.ensures c.one_rests.ensures c.one_sticks.ensures c.one_serves_once.ensures
    c.one_has_let_go.ensures c.one_waits_for_fetches.ensures c.one_without_class.ensures

pub returns-clause-left : goal.returns-clause-left
returns-clause-left g c =
    subst (λ (front : Front). OnOk c.ask-asked.result (AddsLeft c.args.slot front.half c.args.asked c.args.left.now.items c.ask-asked.new.left.items)) c.split-front.ensures.0 c.ask-asked.ensures

pub returns-clause-tells : goal.returns-clause-tells
returns-clause-tells g c is = (
  c.row_of.result.store,
  subst (λ (back : Back g.row.D.Denot). IsDiskOf back.store c.row_of.result.store) c.split-front.ensures.1 c.row_of.ensures.store,
  is,
)
