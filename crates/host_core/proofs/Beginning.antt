-- The halves that are made of what was mounted.
use Rattle.std.proofs.Common.{◌≡◌, ◌∙◌, refl, sym, ap, subst, ℕ, List, Option, Some, None}
use Rattle.std.specs.Prelude.{IfSome, slice_get}
use Rattle.batch_journal.specs.Frames.{batches_in}
use Rattle.batch_journal.specs.Mounting.{IsMountOf}
use Rattle.batch_journal.specs.Reading.{IsObjectOf}
use Rattle.batch_journal.specs.declared.mount.Mounted.{Mounted}
use Rattle.do_disk.specs.Disk.{next_count}
use Rattle.do_tree.specs.Lookup.{class_named}
use Rattle.do_tree.specs.Tree.{Class, Script}
use Rattle.storage_map.specs.Limits.{Object}
use Rattle.front_half.proofs.Fitted.{named}
use Rattle.output_gate.specs.Logs.{IsFresh}
use Rattle.output_gate.specs.Serving.{IsBack}
use Rattle.object_core.specs.Limited.{end_in}
use Rattle.object_core.specs.One.{AreFresh, class_in}
use Rattle.host_workers.specs.declared.joining.Halves.{Halves}
use Rattle.host_core.specs.Begun.{HasBegun, IsMountedAt}

-- the script has the class that is found in it
abbrev IsKnown : Script → Option ℕ → Type 0
IsKnown script class = IfSome class (λ n. (c : Class) × (slice_get script.classes n ≡ Some c))

named_known : (script : Script) (name : List ℕ) (class : Option ℕ) → class_named script name ≡ class → IsKnown script class
named_known script name None is = tt
named_known script name (Some class) is = named script name class is

class_known : (script : Script) (object : Option Object) → IsKnown script (class_in script object)
class_known script None = tt
class_known script (Some object) = named_known script object.0 (class_named script object.0) refl

pub known_as : (script : Script) (object : Option Object) (class : Option ℕ) → class ≡ class_in script object → IsKnown script class
known_as script object class is = subst (λ (o : Option ℕ). IsKnown script o) (sym is) (class_known script object)

module _ {D : Type 0} (moment_of : D → ℕ) (left_since : D → ℕ → List ℕ → Type 0) (told : D → Option (List ℕ)) (image : D → List ℕ → Type 0) (faults_of : D → ℕ)
    (limit : ℕ) (script : Script) where
  -- the halves that are made of what was mounted
  pub has_begun : (content : Option (List ℕ)) (object : Option Object) (mounted : Mounted D) (halves : Halves D)
      → IsMountedAt moment_of left_since told image limit content object mounted → IsFresh mounted halves.back
      → ((disk : D) (is : IsMountOf told image moment_of left_since disk mounted)
      → IsBack moment_of left_since told image faults_of (batches_in is.frames) (next_count (moment_of disk)) halves.back)
      → AreFresh script halves.front.half halves.back → HasBegun moment_of left_since told image faults_of limit script content object halves
  has_begun content object mounted halves at fresh known are = record {
    start = batches_in at.mount.frames;
    opening = next_count (moment_of at.disk);
    fresh = are;
    stands = known at.disk at.mount;
    begun = record {
      frames = at.mount.frames;
      stand = (mounted.journal.version, at.mount.at_rest.of_grammar);
      recovered = λ file is. at.mount.recovers file (at.content_is ∙ is);
      names = subst (λ (o : Option Object). IsObjectOf o at.mount.frames) at.object at.mount.object;
      start = refl;
      opening = ap next_count at.first;
      object = fresh.identity ∙ at.object;
      left = refl;
      limited = fresh.limit ∙ at.limited;
      end = ap end_in fresh.store ∙ at.mount.at_rest.end;
    };
  }
