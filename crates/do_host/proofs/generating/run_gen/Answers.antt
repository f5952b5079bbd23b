use Rattle.std.proofs.Common.{◌≡◌, List, ℕ, refl, subst}
use Rattle.std.specs.Prelude.{string_bytes}
use Rattle.do_tree.specs.Checked.{tree_of}
use Rattle.do_host.specs.GenRuns.{gen_script}
use Rattle.do_host.specs.Scripts.{IsAccepted}
use Rattle.do_host.proofs.Generated.{made_runs, none_runs}
use Rattle.do_host.proofs.Words.{wanting_runs}
use Rattle.do_host.proofs.generating.run_gen.Goals as goal

pub returns-in_default : goal.returns-in_default
returns-in_default g c = rw c.end_at.ensures (wanting_runs _ _ c.requires _)

pub returns-in-Ok-accept : goal.returns-in-Ok-accept
returns-in-Ok-accept g c =
    let told = c.args.told in
    let text : c.as_bytes.result.now ≡ gen_script = c.as_bytes.ensures.value in
    made_runs _ told.seed told.count (string_bytes told.folder) _ _
    (c.serve_made.ensures told.seed c.in-Ok.ensures (subst (λ (t : List ℕ). IsAccepted t (tree_of c.in-Ok-accept.checked)) text c.in-Ok-accept.ensures.accepted))

pub returns-in-Err : goal.returns-in-Err
returns-in-Err g c =
    let told = c.args.told in
    let text : c.as_bytes.result.now ≡ gen_script = c.as_bytes.ensures.value in
    none_runs _ _ _ c.in-Err.end c.as_bytes.result.now text c.in-Err.ensures.stopped c.end_early.ensures.ends c.in-Err.ensures.refused (record { input = c.end_early.ensures.input; report = refl }) refl
    told.seed told.count (string_bytes told.folder) c.requires
