use Rattle.std.proofs.Common.{◌≡◌, IfOk, subst, arith}
use Rattle.std.proofs.lemmas.Grind.{common_steps}
use Rattle.do_tree.specs.Tree.{Class}
use Rattle.script_steps.specs.declared.focus.Focus.TheVariants as focus
use Rattle.script_steps.specs.declared.focus.Move.TheVariants as move
use Rattle.script_eval.proofs.AtOnce.{ended_from, moves_at_once}
use Rattle.script_eval.specs.Machines.{Applies, leads_of}
use Rattle.script_eval.specs.declared.act.Act.TheVariants as act
use Rattle.script_eval.proofs.machine.Machine.go_on.Goals as goal
use Rattle.script_eval.proofs.machine.Machine.go_on.Goals.{in_default-via-in-Then+in-0+in-Value-1, in_default-via-in-Then+in_default-1, in_default-via-in-Inside-1}

pub returns-in-Then-eq0-Ended : goal.returns-in-Then-eq0-Ended
returns-in-Then-eq0-Ended c =
    let o = c.in-Then-eq0-Ended.outcome in
    let is : c.args.m ≡ move.Then 0 (focus.Ended o) = grind (arith, common_steps) in
    moves_at_once c.args.m (focus.Ended o) c.args.self.now c.end_layer.new.self c.end_layer.result c.end_layer.new.focus is
    (ended_from o c.args.self.now c.end_layer.new.self c.end_layer.result c.end_layer.new.focus c.end_layer.ensures)

pub returns-in-Then-eq0-Leave : goal.returns-in-Then-eq0-Leave
returns-in-Then-eq0-Leave c =
    let is : c.args.m ≡ move.Then 0 (focus.Leave c.in-Then-eq0-Leave.outcome) = grind (arith, common_steps) in
    moves_at_once c.args.m (focus.Leave c.in-Then-eq0-Leave.outcome) c.args.self.now c.leave_block.new.self c.leave_block.result c.leave_block.new.focus is c.leave_block.ensures

pub returns-in-Then-eq0-Handed : goal.returns-in-Then-eq0-Handed
returns-in-Then-eq0-Handed c =
    let is : c.args.m ≡ move.Then 0 (focus.Handed c.in-Then-eq0-Handed.part c.in-Then-eq0-Handed.value) = grind (arith, common_steps) in
    moves_at_once c.args.m (focus.Handed c.in-Then-eq0-Handed.part c.in-Then-eq0-Handed.value) c.args.self.now c.hand_to_path.new.self c.hand_to_path.result c.hand_to_path.new.focus is c.hand_to_path.ensures

pub returns-in_default : goal.returns-in_default
returns-in_default c =
    elim c.in_default-1.branch [
      | in_default-via-in-Then+in-0+in-Value-1 w ↦
          let same : c.in_default-1.m ≡ c.args.m = grind (arith, common_steps) in
          subst (λ x. IfOk c.apply_move.result (λ p. (class : Class) → Applies class (act.Moves x) c.args.self.now c.apply_move.new.self (leads_of p c.apply_move.new.focus))) same c.apply_move.ensures
      | in_default-via-in-Then+in_default-1 w ↦
          let same : c.in_default-1.m ≡ c.args.m = grind (arith, common_steps) in
          subst (λ x. IfOk c.apply_move.result (λ p. (class : Class) → Applies class (act.Moves x) c.args.self.now c.apply_move.new.self (leads_of p c.apply_move.new.focus))) same c.apply_move.ensures
      | in_default-via-in-Inside-1 w ↦
          let same : c.in_default-1.m ≡ c.args.m = grind (arith, common_steps) in
          subst (λ x. IfOk c.apply_move.result (λ p. (class : Class) → Applies class (act.Moves x) c.args.self.now c.apply_move.new.self (leads_of p c.apply_move.new.focus))) same c.apply_move.ensures
    ]
