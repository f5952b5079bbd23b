-- What an object's own steps do, and when none is left.
use Rattle.std.specs.Prelude.{◌≡◌, [], Bool, false, Result, Ok}
use Rattle.do_tree.specs.Tree.{Script}
use Rattle.do_value.specs.declared.fault.NoMemory.{NoMemory}
use Rattle.lane.specs.Lanes.{sent_on, StartsWith}
use Rattle.object_core.specs.Stepping.{HasNothing, IsHalted, given_by}
use Rattle.object_core.specs.declared.choice.Choice.{Choice}
use Rattle.object_core.specs.declared.choice.Choice.TheVariants.{Turn, Take, Flush, Release, Mend}
use Rattle.object_core.specs.declared.object.Core.{Core}
use Rattle.front_half.specs.Standing as front
use Rattle.output_gate.specs.Serving as back

-- It is given nothing, nothing is collected of it, and messages that leave stand behind the others.
pub record Acts {D : Type 0} (old new : Core D) : Type 0 where
  pub given : sent_on new.inbox ≡ sent_on old.inbox
  pub collected : new.out.got ≡ old.out.got
  pub left : StartsWith (sent_on new.out) (sent_on old.out)

-- It is given nothing by this.
abbrev pub IsOwn : Choice → Type 0
IsOwn choice = (result : Result Bool NoMemory) → given_by choice result ≡ []

-- Neither this step nor one before it did anything, and the half whose step it is isn't stopped.
pub record IsIdle {D : Type 0} (script : Script) (old new : Core D) (choice : Choice) (before : Result Bool NoMemory) : Type 0 where
  pub none_before : before ≡ Ok false
  pub same : new ≡ old
  pub nothing : HasNothing script old choice
  pub goes : IsHalted old choice → ⊥

-- No step has anything to do, and memory was wanting at none.
pub record HasSettled {D : Type 0} (script : Script) (core : Core D) : Type 0 where
  pub front_goes : front.is_stopped core.front.half ≡ false
  pub back_goes : back.is_stopped core.back ≡ false
  pub turned : HasNothing script core Turn
  pub taken : HasNothing script core Take
  pub flushed : HasNothing script core Flush
  pub released : HasNothing script core Release
  pub mended : HasNothing script core Mend
