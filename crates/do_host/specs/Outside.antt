-- What contracts see of the outside of a run, as one value; and what a run was given and what it left. This project's profile.
use Rattle.std.specs.Prelude.{◌≡◌, ◌++◌, ℕ, List, [], ◌∷◌, Option}
use Rattle.do_disk.specs.Asks.{Ask}
use Rattle.host_core.specs.declared.report.Report.{Report}

-- Of a disk: what a read gives, what a crash now may leave, what a crash at some moment since that one might have left, the moment, the faults.
pub record Disks (S : Type 0) : Type 1 where
  pub told : S → Option (List ℕ)
  pub image : S → List ℕ → Type 0
  pub left_since : S → ℕ → List ℕ → Type 0
  pub moment_of : S → ℕ
  pub faults_of : S → ℕ

-- Of a source: the bytes that it has left, and its faults.
pub record Sources (R : Type 0) : Type 0 where
  pub left : R → Option (List ℕ)
  pub faults_of : R → ℕ

-- Of a sink: the bytes that it took, and its faults.
pub record Sinks (W : Type 0) : Type 0 where
  pub taken : W → Option (List ℕ)
  pub faults_of : W → ℕ

-- the outside of a run: its disks, its source and its sink
pub record Outside (S R W : Type 0) : Type 1 where
  pub disks : Disks S
  pub source : Sources R
  pub sink : Sinks W

-- A depot at some time: the texts at paths and the slots of folders, where it tells them; what it was asked, and its faults.
pub record DepotState : Type 0 where
  pub texts : List ℕ → Option (List ℕ)
  pub slots : List ℕ → ℕ → Option (List ℕ)
  pub asked : List Ask
  pub faults : ℕ

-- what a run was given: the depot, the input, the output and the report as they were
pub record Given (S R W : Type 0) : Type 0 where
  pub depot : DepotState
  pub input : R
  pub out : W
  pub report : Report S

-- what a run left: the same as they are then, and its status
pub record Left (S R W : Type 0) : Type 0 where
  pub depot : DepotState
  pub input : R
  pub out : W
  pub report : Report S
  pub status : ℕ

-- neither the input nor the report was touched
pub record LeavesInputAndReport {S R W : Type 0} (given : Given S R W) (left : Left S R W) : Type 0 where
  pub input : left.input ≡ given.input
  pub report : left.report ≡ given.report

-- what was given, where the depot was asked this too
abbrev pub with_asked : {S R W : Type 0} → Ask → Given S R W → Given S R W
with_asked ask given = record given { depot = record given.depot { asked = given.depot.asked ++ ask ∷ [] } }

-- Each of these by its parts: the members of a disk, a source, a sink and a depot.
abbrev pub disks_of : {S : Type 0} → (S → Option (List ℕ)) → (S → List ℕ → Type 0) → (S → ℕ → List ℕ → Type 0) → (S → ℕ) → (S → ℕ) → Disks S
disks_of told image left_since moment_of faults_of =
    record { told = told; image = image; left_since = left_since; moment_of = moment_of; faults_of = faults_of }

abbrev pub source_of : {R : Type 0} → (R → Option (List ℕ)) → (R → ℕ) → Sources R
source_of left faults_of = record { left = left; faults_of = faults_of }

abbrev pub sink_of : {W : Type 0} → (W → Option (List ℕ)) → (W → ℕ) → Sinks W
sink_of taken faults_of = record { taken = taken; faults_of = faults_of }

abbrev pub outside_of : {S R W : Type 0} → Disks S → Sources R → Sinks W → Outside S R W
outside_of disks source sink = record { disks = disks; source = source; sink = sink }

abbrev pub depot_of : {P : Type 0} → (P → List ℕ → Option (List ℕ)) → (P → List ℕ → ℕ → Option (List ℕ)) → (P → List Ask) → (P → ℕ) → P → DepotState
depot_of text_at slot_at asked faults_of depot =
    record { texts = text_at depot; slots = slot_at depot; asked = asked depot; faults = faults_of depot }

abbrev pub given_of : {S R W : Type 0} → DepotState → R → W → Report S → Given S R W
given_of depot input out report = record { depot = depot; input = input; out = out; report = report }

abbrev pub left_of : {S R W : Type 0} → DepotState → R → W → Report S → ℕ → Left S R W
left_of depot input out report status = record { depot = depot; input = input; out = out; report = report; status = status }
