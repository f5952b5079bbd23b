-- What `serve` does. This project's profile.
use Rattle.std.specs.Prelude.{◌⊎◌, ℕ, List}
use Rattle.do_disk.specs.Asks.{for_text}
use Rattle.do_disk.specs.Disk.{IfTold}
use Rattle.do_tree.specs.Tree.{Script}
use Rattle.host_core.specs.Report.{AsksSlots, HasCause, IsOpened, IsReport, LeavesUnopened, PrintsLines, ReadsLines}
use Rattle.host_core.specs.declared.settings.ServeEnd.{ServeEnd}
use Rattle.do_host.specs.Endings.{TellsEnd}
use Rattle.do_host.specs.Outside.{Given, Left, Outside, with_asked}
use Rattle.do_host.specs.ScriptRuns.{EndsEarly}
use Rattle.do_host.specs.Scripts.{IsAccepted}

-- What `serve` is asked for: the path of the script, the folder of the slots, how many there are, and how many bytes the journal of each may have.
pub record Serving : Type 0 where
  pub script : List ℕ
  pub folder : List ℕ
  pub slots : ℕ
  pub journal : ℕ

-- The slots are served over this script. They end so, and leave the sink so, behind which the line of a bad slot is told. What holds at this end
-- is what serving promises.
pub record ServesTree {S R W : Type 0} (outside : Outside S R W) (tree : Script) (serving : Serving)
    (given : Given S R W) (left : Left S R W) : Type 0 where
  pub end : ServeEnd
  pub served : W
  pub tells : TellsEnd outside.sink.taken outside.sink.faults_of served left.out left.status end
  pub reports : IsReport outside.disks.moment_of outside.disks.left_since outside.disks.told outside.disks.faults_of
      serving.journal tree (given.depot.slots serving.folder) serving.slots end left.report
  pub lines : ReadsLines (outside.source.left given.input) (outside.source.left left.input) end left.report
  pub output : PrintsLines (outside.sink.taken given.out) (outside.sink.taken served) end left.report
  pub opened : IsOpened serving.slots given.input left.input given.out served end given.report left.report
  pub unopened : LeavesUnopened outside.disks.told outside.disks.image outside.disks.moment_of outside.disks.left_since
      (given.depot.slots serving.folder) end left.report
  pub causes : HasCause outside.disks.faults_of given.depot.faults left.depot.faults (outside.source.faults_of given.input)
      (outside.source.faults_of left.input) (outside.sink.faults_of given.out) (outside.sink.faults_of served) end left.report
  pub asked : AsksSlots given.depot.asked left.depot.asked serving.folder serving.slots left.report

-- `serve` over the slots, as the script is accepted; the depot was asked for the script, and then for slots alone.
pub record ServesSlots {S R W : Type 0} (outside : Outside S R W) (serving : Serving) (given : Given S R W) (left : Left S R W) : Type 0 where
  pub tree : Script
  pub accepted : IfTold (given.depot.texts serving.script) (λ text. IsAccepted text tree)
  pub serves : ServesTree outside tree serving (with_asked (for_text serving.script) given) left

-- `serve`: it ends before a slot is asked for, or serves over the slots.
abbrev pub ServeRun : {S R W : Type 0} → Outside S R W → Serving → Given S R W → Left S R W → Type 0
ServeRun outside serving given left = EndsEarly outside serving.script given left ⊎ ServesSlots outside serving given left
