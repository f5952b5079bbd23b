-- The end of the slots, as the run shows it.
use Rattle.std.proofs.Common.{◌≡◌, ◌≢◌, ◌≤◌, ⊎_elim, inr, ℕ, List, [], ◌∷◌, ◌++◌, length, Option, refl, sym, ap, subst, ◌∙◌, arith}
use Rattle.std.proofs.Math.Path.{fun_ext}
use Rattle.do_disk.specs.Asks.{Ask, for_text}
use Rattle.do_disk.specs.Disk.{IfTold, Rose}
use Rattle.do_tree.specs.Tree.{Script}
use Rattle.command_words.specs.Asked.{serves}
use Rattle.host_core.specs.declared.report.Report.{Report}
use Rattle.host_core.specs.declared.settings.Bad.{Bad}
use Rattle.host_core.specs.declared.settings.ServeEnd.{ServeEnd}
use Rattle.host_core.specs.declared.settings.ServeEnd.TheVariants as ends
use Rattle.do_host.specs.Endings.{TellsBad, TellsEnd}
use Rattle.do_host.specs.Outside.{DepotState, Given, Left, Outside, given_of}
use Rattle.do_host.specs.Runs.{AtAnyEnd, Runs}
use Rattle.do_host.specs.Scripts.{IsAccepted}
use Rattle.do_host.specs.ServeRuns.{ServesSlots, ServesTree, Serving}
use Rattle.do_host.specs.SlotLines.{bad_line}
use Rattle.do_host.specs.Status.{IsStatus, IsDumpStatus, IsSilentStatus, status_of}
use Rattle.do_host.specs.Written.{WritesAll, WritesFirstOf}

-- The status and the end: each status of the slots is that of its end; and a bad slot has three.
pub data Ends {W : Type 0} (wrote : W → ℕ) (taken : W → Option (List ℕ)) (out after : W) (status : ℕ) (end : ServeEnd) : Type 0 where
  plain : ((bad : Bad) → end ≡ ends.BadSlot bad → ⊥) → status ≡ status_of end → after ≡ out → Ends wrote taken out after status end
  told : (bad : Bad) → end ≡ ends.BadSlot bad → status ≡ 7 → WritesAll (taken out) (taken after) (bad_line bad) → wrote after ≡ wrote out → Ends wrote taken out after status end
  in_part : (bad : Bad) → end ≡ ends.BadSlot bad → status ≡ 6 → WritesFirstOf (taken out) (taken after) (bad_line bad) → Rose (wrote out) (wrote after) → Ends wrote taken out after status end
  untold : (bad : Bad) → end ≡ ends.BadSlot bad → status ≡ 4 → after ≡ out → Ends wrote taken out after status end

no_bad : (end : ServeEnd) (bad : Bad) → status_of end ≢ 7 → end ≡ ends.BadSlot bad → ⊥
no_bad end bad other is = other (ap status_of is)

module _ {W : Type 0} (wrote : W → ℕ) (taken : W → Option (List ℕ)) (out after : W) (status : ℕ) where
  ends_bad : (bad : Bad) → TellsBad taken wrote out after status (bad_line bad) → Ends wrote taken out after status (ends.BadSlot bad)
  ends_bad bad tells =
      ⊎_elim (λ whole. told bad refl whole.0 whole.1 whole.2) (λ rest. ⊎_elim (λ part. in_part bad refl part.0 part.1 part.2) (λ none. untold bad refl none.0 none.1) rest) tells

  pub shows_end : (end : ServeEnd) → TellsEnd taken wrote out after status end → Ends wrote taken out after status end
  shows_end ends.Finished tells = plain (λ bad. no_bad ends.Finished bad (λ e. omega (arith, e))) tells.0 tells.1
  shows_end ends.OpenFailed tells = plain (λ bad. no_bad ends.OpenFailed bad (λ e. omega (arith, e))) tells.0 tells.1
  shows_end (ends.BadSlot bad) tells = ends_bad bad tells
  shows_end ends.ReadFailed tells = plain (λ bad. no_bad ends.ReadFailed bad (λ e. omega (arith, e))) tells.0 tells.1
  shows_end ends.WriteFailed tells = plain (λ bad. no_bad ends.WriteFailed bad (λ e. omega (arith, e))) tells.0 tells.1
  shows_end ends.NoMemory tells = plain (λ bad. no_bad ends.NoMemory bad (λ e. omega (arith, e))) tells.0 tells.1

-- each end has a status, and 7 is that of a bad slot
end_status : (end : ServeEnd) → IsStatus (status_of end)
end_status ends.Finished = (0, omega arith, refl)
end_status ends.OpenFailed = (3, omega arith, refl)
end_status ends.NoMemory = (4, omega arith, refl)
end_status ends.ReadFailed = (5, omega arith, refl)
end_status ends.WriteFailed = (6, omega arith, refl)
end_status (ends.BadSlot bad) = (7, omega arith, refl)

end_seven : (end : ServeEnd) → status_of end ≡ 7 → (bad : Bad) × (end ≡ ends.BadSlot bad)
end_seven ends.Finished is = cc
end_seven ends.OpenFailed is = cc
end_seven ends.NoMemory is = cc
end_seven ends.ReadFailed is = cc
end_seven ends.WriteFailed is = cc
end_seven (ends.BadSlot bad) is = (bad, refl)

module _ {W : Type 0} (wrote : W → ℕ) (taken : W → Option (List ℕ)) (out after : W) (status : ℕ) (end : ServeEnd) where
  pub status_known : Ends wrote taken out after status end → IsStatus status
  status_known (plain other is same) = subst IsStatus (sym is) (end_status end)
  status_known (told bad is seven was counted) = (7, omega arith, sym seven)
  status_known (in_part bad is six was rose) = (6, omega arith, sym six)
  status_known (untold bad is four same) = (4, omega arith, sym four)

  pub not_usage : Ends wrote taken out after status end → status ≢ 1
  not_usage (plain other is same) one = status_of_one end (sym is ∙ one)
    where
      status_of_one : (end : ServeEnd) → status_of end ≡ 1 → ⊥
      status_of_one ends.Finished is = cc
      status_of_one ends.OpenFailed is = cc
      status_of_one ends.NoMemory is = cc
      status_of_one ends.ReadFailed is = cc
      status_of_one ends.WriteFailed is = cc
      status_of_one (ends.BadSlot bad) is = cc
  not_usage (told bad is seven was counted) one = omega (arith, seven, one)
  not_usage (in_part bad is six was rose) one = omega (arith, six, one)
  not_usage (untold bad is four same) one = omega (arith, four, one)

  pub ends_seven : Ends wrote taken out after status end → status ≡ 7 → (bad : Bad) × (end ≡ ends.BadSlot bad)
  ends_seven (plain other is same) seven = end_seven end (sym is ∙ seven)
  ends_seven (told bad is own was counted) seven = (bad, is)
  ends_seven (in_part bad is six was rose) seven = (bad, is)
  ends_seven (untold bad is four same) seven = (bad, is)

  pub ends_silent : Ends wrote taken out after status end → IsSilentStatus status → after ≡ out
  ends_silent (plain other is same) silent = same
  ends_silent (told bad is seven was counted) silent = absurd (silent.4 seven)
  ends_silent (in_part bad is six was rose) silent = absurd (silent.3 six)
  ends_silent (untold bad is four same) silent = same

-- a dump has one of its statuses, as it reads nothing
plain_dump : (end : ServeEnd) → end ≢ ends.ReadFailed → IsDumpStatus (status_of end)
plain_dump ends.Finished other = (0, omega arith, refl)
plain_dump ends.OpenFailed other = (1, omega arith, refl)
plain_dump ends.NoMemory other = (2, omega arith, refl)
plain_dump ends.ReadFailed other = absurd (other refl)
plain_dump ends.WriteFailed other = (3, omega arith, refl)
plain_dump (ends.BadSlot bad) other = (4, omega arith, refl)

pub dump_known : {W : Type 0} (wrote : W → ℕ) (taken : W → Option (List ℕ)) (out after : W) (status : ℕ) (end : ServeEnd) → end ≢ ends.ReadFailed → Ends wrote taken out after status end → IsDumpStatus status
dump_known wrote taken out after status end other (plain no_bad is same) = subst IsDumpStatus (sym is) (plain_dump end other)
dump_known wrote taken out after status end other (told bad is seven was counted) = (4, omega arith, sym seven)
dump_known wrote taken out after status end other (in_part bad is six was rose) = (3, omega arith, sym six)
dump_known wrote taken out after status end other (untold bad is four same) = (2, omega arith, sym four)

-- a run that serves over the slots
module _ {S R W : Type 0} (outside : Outside S R W) (serving : Serving) (given : Given S R W) (left : Left S R W) (some : 1 ≤ serving.slots) (run : ServesSlots outside serving given left) where
  shown : Ends outside.sink.faults_of outside.sink.taken run.serves.served left.out left.status run.serves.end
  shown = shows_end outside.sink.faults_of outside.sink.taken run.serves.served left.out left.status run.serves.end run.serves.tells

  any_slots : AtAnyEnd outside given left
  any_slots =
      let opened = run.serves.opened in
      record {
        statuses = status_known outside.sink.faults_of outside.sink.taken run.serves.served left.out left.status run.serves.end shown;
        line_limit = run.serves.lines.limit;
        unread = λ none. let same = opened.unread (omega (arith, some, ap length none)) in (same.0, same.2, same.3);
        silent = λ none silent. ap outside.sink.taken
            (ends_silent outside.sink.faults_of outside.sink.taken run.serves.served left.out left.status run.serves.end shown silent ∙ (opened.unread (omega (arith, some, ap length none))).1);
      }

  pub serve_runs : (workers : ℕ) → Runs (serves serving.script serving.folder serving.slots workers serving.journal) outside given left
  serve_runs workers = record {
    any = any_slots;
    input = record {
      bad_slot_kept = λ seven.
          let bad = ends_seven outside.sink.faults_of outside.sink.taken run.serves.served left.out left.status run.serves.end shown seven in
          run.serves.opened.kept bad.0 bad.1;
      accepted = run.serves.lines.accepted;
    };
    status_one = λ one. absurd (not_usage outside.sink.faults_of outside.sink.taken run.serves.served left.out left.status run.serves.end shown one);
    as_asked = inr run;
  }

-- a depot by its parts
abbrev parts : (List ℕ → Option (List ℕ)) → (List ℕ → ℕ → Option (List ℕ)) → List Ask → ℕ → DepotState
parts texts slots asked faults = record { texts = texts; slots = slots; asked = asked; faults = faults }

-- the same of slots that were served once the script was read
pub serve_read : {S R W : Type 0} (outside : Outside S R W) (serving : Serving) (tree : Script) (depot depot_now : DepotState) (input : R) (out : W) (report : Report S) (left : Left S R W) (workers : ℕ)
    → 1 ≤ serving.slots → ((path : List ℕ) → depot_now.texts path ≡ depot.texts path) → ((folder : List ℕ) (number : ℕ) → depot_now.slots folder number ≡ depot.slots folder number)
    → (path : List ℕ) → path ≡ serving.script → depot_now.asked ≡ depot.asked ++ for_text path ∷ [] → depot_now.faults ≡ depot.faults
    → IfTold (depot.texts path) (λ text. IsAccepted text tree) → ServesTree outside tree serving (given_of depot_now input out report) left
    → Runs (serves serving.script serving.folder serving.slots workers serving.journal) outside (given_of depot input out report) left
serve_read outside serving tree depot depot_now input out report left workers some same_texts same_slots path own whole steady accepted served =
    serve_runs outside serving (given_of depot input out report) left some (record {
      tree = tree;
      accepted = subst (λ (p : List ℕ). IfTold (depot.texts p) (λ text. IsAccepted text tree)) own accepted;
      serves = subst (λ (d : DepotState). ServesTree outside tree serving (given_of d input out report) left) depot_is served;
    }) workers
  where
    depot_is : depot_now ≡ record depot { asked = depot.asked ++ for_text serving.script ∷ [] }
    depot_is =
        ap (λ (t : List ℕ → Option (List ℕ)). parts t depot_now.slots depot_now.asked depot_now.faults) (fun_ext same_texts)
        ∙ ap (λ (s : List ℕ → ℕ → Option (List ℕ)). parts depot.texts s depot_now.asked depot_now.faults) (fun_ext (λ folder. fun_ext (λ number. same_slots folder number)))
        ∙ ap (λ (q : List Ask). parts depot.texts depot.slots q depot_now.faults) (whole ∙ ap (λ (p : List ℕ). depot.asked ++ for_text p ∷ []) own)
        ∙ ap (λ (n : ℕ). parts depot.texts depot.slots (depot.asked ++ for_text serving.script ∷ []) n) steady
