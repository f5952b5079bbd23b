use denote.Param.Send.{sendable}
use Rattle.script_eval.proofs.SentTask.{task_send}
use Rattle.script_tests.proofs.tasks.sent.a_task_may_go_to_another_thread.Goals as goal

pub is_sent-requires-send-T : goal.is_sent-requires-send-T
is_sent-requires-send-T c κs = search (sendable, task_send)
