use Rattle.do_tree.specs.Checked.{tree_of}
use Rattle.mailbox.specs.Runs.{log_of}
use Rattle.host_core.proofs.Routings.{going_can}
use Rattle.host_core.proofs.Servings.{serving_ran, served_ran, can_after, on_ok_then, on_err_then}
use Rattle.host_core.proofs.settling.go_round.Goals as goal

pub run_slots-requires : goal.run_slots-requires
run_slots-requires g c =
    let all = c.requires.serving in
    record {
      can = going_can g.D.Disk.moment_of g.D.Disk.left_since g.D.Disk.told g.D.Disk.image g.D.Disk.faults_of all.0 (tree_of c.args.checked.now) all.1 all.2
          (log_of c.args.switch.now) c.args.objects.now all.3.slots;
    }

pub route_all-requires : goal.route_all-requires
route_all-requires g c =
    let all = c.requires.serving in
    record {
      serving = (
        all.0,
        all.1,
        all.2,
        serving_ran g.D.Disk.moment_of g.D.Disk.left_since g.D.Disk.told g.D.Disk.image g.D.Disk.faults_of all.0 (tree_of c.args.checked.now) all.1 all.2 c.args.switch.now c.args.objects.now c.run_slots.new.objects c.run_slots.ensures.many c.run_slots.ensures.tells
            (c.in-Ok.ensures.going all.0 all.1 all.2 (log_of c.args.switch.now) all.3.slots) all.3,
      );
    }

pub returns-in-Ok-clause-serving : goal.returns-in-Ok-clause-serving
returns-in-Ok-clause-serving g c =
    on_ok_then c.route_all.result (λ holds limit contents named serving. holds limit contents named
    (serving_ran g.D.Disk.moment_of g.D.Disk.left_since g.D.Disk.told g.D.Disk.image g.D.Disk.faults_of limit (tree_of c.args.checked.now) contents named c.args.switch.now c.args.objects.now c.run_slots.new.objects c.run_slots.ensures.many c.run_slots.ensures.tells
    (c.in-Ok.ensures.going limit contents named (log_of c.args.switch.now) serving.slots) serving)) c.route_all.ensures.serving

pub returns-in-Ok-clause-served : goal.returns-in-Ok-clause-served
returns-in-Ok-clause-served g c =
    on_err_then c.route_all.result (λ holds limit contents named serving. holds limit contents named
    (serving_ran g.D.Disk.moment_of g.D.Disk.left_since g.D.Disk.told g.D.Disk.image g.D.Disk.faults_of limit (tree_of c.args.checked.now) contents named c.args.switch.now c.args.objects.now c.run_slots.new.objects c.run_slots.ensures.many c.run_slots.ensures.tells
    (c.in-Ok.ensures.going limit contents named (log_of c.args.switch.now) serving.slots) serving)) c.route_all.ensures.served

pub returns-in-Ok-clause-again : goal.returns-in-Ok-clause-again
returns-in-Ok-clause-again g c =
    let all = c.requires.serving in
    let ran = serving_ran g.D.Disk.moment_of g.D.Disk.left_since g.D.Disk.told g.D.Disk.image g.D.Disk.faults_of all.0 (tree_of c.args.checked.now) all.1 all.2 c.args.switch.now c.args.objects.now c.run_slots.new.objects c.run_slots.ensures.many c.run_slots.ensures.tells
    (c.in-Ok.ensures.going all.0 all.1 all.2 (log_of c.args.switch.now) all.3.slots) all.3 in
    can_after g.D.Disk.moment_of g.D.Disk.left_since g.D.Disk.told g.D.Disk.image g.D.Disk.faults_of all.0 (tree_of c.args.checked.now) all.1 all.2 c.route_all.new.switch c.route_all.new.objects c.route_all.result
    (on_ok_then c.route_all.result (λ holds. holds all.0 all.1 all.2 ran) c.route_all.ensures.serving)
    (on_err_then c.route_all.result (λ holds. holds all.0 all.1 all.2 ran) c.route_all.ensures.served)

pub returns-in-Ok-clause-resting : goal.returns-in-Ok-clause-resting
returns-in-Ok-clause-resting g c none = c.route_all.ensures.resting none (tree_of c.args.checked.now) c.in-Ok.ensures.resting

pub returns-in-Err-clause-served : goal.returns-in-Err-clause-served
returns-in-Err-clause-served g c limit contents named serving =
    served_ran g.D.Disk.moment_of g.D.Disk.left_since g.D.Disk.told g.D.Disk.image g.D.Disk.faults_of limit (tree_of c.args.checked.now) contents named c.args.switch.now c.args.objects.now c.run_slots.new.objects c.run_slots.ensures.many
    (c.in-Err.ensures.stands limit contents named (log_of c.args.switch.now) serving.slots) serving
