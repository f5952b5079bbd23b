use Rattle.do_tree.specs.Seen.{class_of}
use Rattle.script_steps.specs.declared.focus.Focus.TheVariants as focus
use Rattle.script_eval.proofs.Stepped.{steps_as, steps_ended, steps_so}
use Rattle.script_eval.proofs.machine.Machine.step.Goals as goal

pub returns-in-Ended : goal.returns-in-Ended
returns-in-Ended c = steps_ended (class_of c.args.class.now) c.args.part c.in-Ended.outcome c.args.self.now c.end_part.new.self c.end_part.result c.end_part.new.focus c.in-Ended.is c.end_part.ensures

pub returns-in-Value : goal.returns-in-Value
returns-in-Value c = steps_as (class_of c.args.class.now) c.args.part (focus.Value c.in-Value.awaited c.in-Value.expr) c.args.self.now c.unfold_value.new.self c.unfold_value.result c.unfold_value.new.focus c.in-Value.is c.unfold_value.ensures

pub returns-in-Variable : goal.returns-in-Variable
returns-in-Variable c = steps_as (class_of c.args.class.now) c.args.part (focus.Variable c.in-Variable.expr) c.args.self.now c.read_variable.new.self c.read_variable.result c.read_variable.new.focus c.in-Variable.is c.read_variable.ensures

pub returns-in-Named : goal.returns-in-Named
returns-in-Named c = steps_as (class_of c.args.class.now) c.args.part (focus.Named c.in-Named.name) c.args.self.now c.read_named.new.self c.read_named.result c.read_named.new.focus c.in-Named.is c.read_named.ensures

pub returns-in-Run : goal.returns-in-Run
returns-in-Run c = steps_as (class_of c.args.class.now) c.args.part (focus.Run c.in-Run.stmt) c.args.self.now c.unfold_statement.new.self c.unfold_statement.result c.unfold_statement.new.focus c.in-Run.is c.unfold_statement.ensures

pub returns-in-Body : goal.returns-in-Body
returns-in-Body c = steps_as (class_of c.args.class.now) c.args.part (focus.Body c.in-Body.block c.in-Body.place) c.args.self.now c.unfold_body.new.self c.unfold_body.result c.unfold_body.new.focus c.in-Body.is c.unfold_body.ensures

pub returns-in-Block : goal.returns-in-Block
returns-in-Block c = steps_as (class_of c.args.class.now) c.args.part (focus.Block c.in-Block.block) c.args.self.now c.enter_names.new.self c.enter_names.result c.enter_names.new.focus c.in-Block.is c.enter_names.ensures

pub returns-in-Declare : goal.returns-in-Declare
returns-in-Declare c = steps_as (class_of c.args.class.now) c.args.part (focus.Declare c.in-Declare.block c.in-Declare.place c.in-Declare.value) c.args.self.now c.declare.new.self c.declare.result c.declare.new.focus c.in-Declare.is c.declare.ensures

pub returns-in-Loop : goal.returns-in-Loop
returns-in-Loop c = steps_as (class_of c.args.class.now) c.args.part (focus.Loop c.in-Loop.test c.in-Loop.body c.in-Loop.between) c.args.self.now c.unfold_loop.new.self c.unfold_loop.result c.unfold_loop.new.focus c.in-Loop.is c.unfold_loop.ensures

pub returns-in-Count : goal.returns-in-Count
returns-in-Count c = steps_as (class_of c.args.class.now) c.args.part (focus.Count c.in-Count.node c.in-Count.value) c.args.self.now c.enter_count.new.self c.enter_count.result c.enter_count.new.focus c.in-Count.is c.enter_count.ensures

pub returns-in-Visit : goal.returns-in-Visit
returns-in-Visit c = steps_as (class_of c.args.class.now) c.args.part (focus.Visit c.in-Visit.node c.in-Visit.value) c.args.self.now c.enter_visit.new.self c.enter_visit.result c.enter_visit.new.focus c.in-Visit.is c.enter_visit.ensures

pub returns-in-Handle : goal.returns-in-Handle
returns-in-Handle c = steps_as (class_of c.args.class.now) c.args.part (focus.Handle c.in-Handle.node c.in-Handle.value) c.args.self.now c.enter_handler.new.self c.enter_handler.result c.enter_handler.new.focus c.in-Handle.is c.enter_handler.ensures

pub returns-in-Simple : goal.returns-in-Simple
returns-in-Simple c = steps_as (class_of c.args.class.now) c.args.part (focus.Simple c.in-Simple.inner) c.args.self.now c.unfold_simple.new.self c.unfold_simple.result c.unfold_simple.new.focus c.in-Simple.is c.unfold_simple.ensures

pub returns-in-Write : goal.returns-in-Write
returns-in-Write c = steps_as (class_of c.args.class.now) c.args.part (focus.Write c.in-Write.inner) c.args.self.now c.unfold_write.new.self c.unfold_write.result c.unfold_write.new.focus c.in-Write.is c.unfold_write.ensures

pub returns-in-Leave : goal.returns-in-Leave
returns-in-Leave c = steps_as (class_of c.args.class.now) c.args.part (focus.Leave c.in-Leave.outcome) c.args.self.now c.leave_block.new.self c.leave_block.result c.leave_block.new.focus c.in-Leave.is c.leave_block.ensures

pub returns-in-Handed : goal.returns-in-Handed
returns-in-Handed c = steps_as (class_of c.args.class.now) c.args.part (focus.Handed c.in-Handed.frame c.in-Handed.value) c.args.self.now c.hand_to_path.new.self c.hand_to_path.result c.hand_to_path.new.focus c.in-Handed.is c.hand_to_path.ensures

pub returns-in-Walk : goal.returns-in-Walk
returns-in-Walk c = steps_as (class_of c.args.class.now) c.args.part (focus.Walk c.in-Walk.awaited c.in-Walk.point c.in-Walk.node c.in-Walk.place) c.args.self.now c.walk_on.new.self c.walk_on.result c.walk_on.new.focus c.in-Walk.is c.walk_on.ensures

pub returns-in-Arguments : goal.returns-in-Arguments
returns-in-Arguments c = steps_as (class_of c.args.class.now) c.args.part (focus.Arguments c.in-Arguments.callee c.in-Arguments.got c.in-Arguments.node c.in-Arguments.link c.in-Arguments.place) c.args.self.now c.unfold_arguments.new.self c.unfold_arguments.result c.unfold_arguments.new.focus c.in-Arguments.is c.unfold_arguments.ensures

pub returns-in-Call : goal.returns-in-Call
returns-in-Call c = steps_so (class_of c.args.class.now) c.args.part (focus.Call c.in-Call.callee c.in-Call.got) c.args.self.now c.call.new.self c.call.result c.call.new.focus c.in-Call.is c.call.ensures

pub returns-in-Push : goal.returns-in-Push
returns-in-Push c = steps_as (class_of c.args.class.now) c.args.part (focus.Push c.in-Push.root c.in-Push.steps c.in-Push.node c.in-Push.place) c.args.self.now c.unfold_push.new.self c.unfold_push.result c.unfold_push.new.focus c.in-Push.is c.unfold_push.ensures

pub returns-in-Place : goal.returns-in-Place
returns-in-Place c = steps_as (class_of c.args.class.now) c.args.part (focus.Place c.in-Place.writing c.in-Place.root c.in-Place.steps c.in-Place.node c.in-Place.place) c.args.self.now c.unfold_place.new.self c.unfold_place.result c.unfold_place.new.focus c.in-Place.is c.unfold_place.ensures

pub returns-in-Written : goal.returns-in-Written
returns-in-Written c = steps_as (class_of c.args.class.now) c.args.part (focus.Written c.in-Written.writing c.in-Written.root c.in-Written.steps) c.args.self.now c.write_at.new.self c.write_at.result c.write_at.new.focus c.in-Written.is c.write_at.ensures

pub returns-in-Assign : goal.returns-in-Assign
returns-in-Assign c = steps_as (class_of c.args.class.now) c.args.part (focus.Assign c.in-Assign.root c.in-Assign.steps c.in-Assign.value) c.args.self.now c.assign.new.self c.assign.result c.assign.new.focus c.in-Assign.is c.assign.ensures

pub returns-in-Return : goal.returns-in-Return
returns-in-Return c = steps_as (class_of c.args.class.now) c.args.part (focus.Return c.in-Return.awaited c.in-Return.vars c.in-Return.outcome) c.args.self.now c.return_to.new.self c.return_to.result c.return_to.new.focus c.in-Return.is c.return_to.ensures

pub returns-in-Commit : goal.returns-in-Commit
returns-in-Commit c = steps_as (class_of c.args.class.now) c.args.part (focus.Commit c.in-Commit.outcome) c.args.self.now c.commit.new.self c.commit.result c.commit.new.focus c.in-Commit.is c.commit.ensures

pub returns-in-Unblock : goal.returns-in-Unblock
returns-in-Unblock c = steps_as (class_of c.args.class.now) c.args.part (focus.Unblock c.in-Unblock.awaited c.in-Unblock.outcome) c.args.self.now c.unblock.new.self c.unblock.result c.unblock.new.focus c.in-Unblock.is c.unblock.ensures
