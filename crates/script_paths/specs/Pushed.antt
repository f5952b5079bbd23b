-- The call of a push.
use Rattle.std.specs.Prelude.{false, List, []}
use Rattle.do_tree.specs.Tree.{Links}
use Rattle.script_mean.specs.Calls.{Calls, push_to}
use Rattle.script_mean.specs.Meaning.{arguments, links}
use Rattle.script_mean.specs.Paths.{holds}
use Rattle.script_mean.specs.Places.{Root, Step}
use Rattle.script_mean.specs.Turn.{Run, ◌>>=◌}
use Rattle.script_steps.specs.Parts.{args_of, links_from}

-- The place is found, and the links are its call and those behind it.
abbrev pub pushed : Calls → Root → List Step → Links → Run
pushed calls root ss ls = arguments calls (args_of ls) [] (push_to root ss) >>= (λ r. links false calls (holds r) (links_from 1 ls))
