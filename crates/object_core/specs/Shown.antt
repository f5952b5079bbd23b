-- What the logs of every object show, also of one whose lanes are gone: laws, proved by a function of `laws`.
use Rattle.std.specs.Prelude.{ℕ, List, Option}
use Rattle.do_tree.specs.Tree.{Script}
use Rattle.storage_map.specs.declared.op.Op.{Op}
use Rattle.object_front.specs.declared.evaluated.Evaluated.{Evaluated}
use Rattle.front_half.specs.declared.half.Half.{Half}
use Rattle.output_gate.specs.Serving.{IsBack}
use Rattle.output_gate.specs.declared.back.Back.{Back}
use Rattle.object_core.specs.Classless.{OneWithoutClass}
use Rattle.object_core.specs.Drops.{OneDrops}
use Rattle.object_core.specs.Laws.{OneHasClass, OneHasGot, OneHasIntake, OneHasLeft, OneHasTold, OneIsHistory, OneIsLimited}
use Rattle.object_core.specs.One.{AreFresh, IsOneOf, mounted_at, unused}
use Rattle.object_core.specs.Owing.{OneIsOwed}
use Rattle.object_core.specs.Unended.{OneTellsNoEnd}
use Rattle.object_core.specs.declared.object.Core.{Core}

pub record AllShow {D : Type 0} (moment_of : D → ℕ) (left_since : D → ℕ → List ℕ → Type 0) (told : D → Option (List ℕ)) (image : D → List ℕ → Type 0)
    (faults_of : D → ℕ) : Type 0 where
  pub history : (core : Core D) → OneIsHistory moment_of left_since told image faults_of core
  pub intake : (core : Core D) → OneHasIntake moment_of left_since told image faults_of core
  pub got : (core : Core D) → OneHasGot moment_of left_since told image faults_of core
  pub class : (core : Core D) → OneHasClass moment_of left_since told image faults_of core
  pub left : (core : Core D) → OneHasLeft moment_of left_since told image faults_of core
  pub tells : (core : Core D) → OneHasTold moment_of left_since told image faults_of core
  pub owed : (core : Core D) → OneIsOwed moment_of left_since told image faults_of core
  pub limited : (core : Core D) → OneIsLimited moment_of left_since told image faults_of core
  pub unended : (core : Core D) → OneTellsNoEnd moment_of left_since told image faults_of core
  pub drops : (core : Core D) → OneDrops moment_of left_since told image faults_of core
  pub classless : (core : Core D) → OneWithoutClass moment_of left_since told image faults_of core

-- Halves that were just mounted are those of an object through whose lanes nothing went.
abbrev pub FreshAreOne : {D : Type 0} (moment_of : D → ℕ) (left_since : D → ℕ → List ℕ → Type 0) (told : D → Option (List ℕ)) (image : D → List ℕ → Type 0)
    (faults_of : D → ℕ) → Type 0
FreshAreOne {D} moment_of left_since told image faults_of = (script : Script) (start : List (List Op)) (opening : ℕ) (front : Half Evaluated) (back : Back D)
    → IsBack moment_of left_since told image faults_of start opening back → AreFresh script front back
    → IsOneOf moment_of left_since told image faults_of script (mounted_at start opening back) front unused back unused unused unused
