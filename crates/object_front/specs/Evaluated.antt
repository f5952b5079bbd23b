-- A task of the evaluator, as a front sees it: the turns that the meaning of scripts still gives it.
use Rattle.std.specs.Prelude.{◌≡◌, [], Option, None, Some, refl, slice_get}
use Rattle.do_tree.specs.Tree.{Class, Script}
use Rattle.front_turns.specs.Paused.{Paused}
use Rattle.script_eval.specs.Tasks.{class_in, has_block, rest_in, rest_with}
use Rattle.script_eval.specs.declared.task.Task.{Task}
use Rattle.object_front.specs.declared.evaluated.Evaluated.{Evaluated}

abbrev pub paused_task : Task → Paused
paused_task t = record { class = class_in t; block = has_block t; rest = λ script rs. rest_in script t rs }

abbrev pub seen : Evaluated → Paused
seen t = paused_task t.task.value

-- Without an answer it gives no turn, whatever its class.
rests_with : (class : Option Class) (t : Task) → rest_with class t [] ≡ []
rests_with None t = refl
rests_with (Some class) t = refl

pub stays : (t : Evaluated) (script : Script) → (seen t).rest script [] ≡ []
stays t script = rests_with (slice_get script.classes (class_in t.task.value)) t.task.value
