use Rattle.std.proofs.Common.{◌∙◌, refl, sym, ap}
use Rattle.command_words.specs.Asked.{checks, dumps, usage}
use Rattle.command_words.specs.Seen.{asked_of}
use Rattle.do_host.proofs.Words.{runs_as, usage_runs, wanting_runs}
use Rattle.do_host.proofs.program.run.Goals as goal

pub returns-in-Ok-Serve : goal.returns-in-Ok-Serve
returns-in-Ok-Serve g c = runs_as _ _ _ _ _ (ap asked_of (sym c.in-Ok-Serve.field-0-is) ∙ c.in-Ok-Serve.ensures.asked) c.run_serve.ensures

pub returns-in-Ok-Check : goal.returns-in-Ok-Check
returns-in-Ok-Check g c =
    runs_as _ _ _ _ _ (ap checks c.as_str.ensures.value ∙ ap asked_of (sym c.in-Ok-Check.field-0-is) ∙ c.in-Ok-Check.ensures.asked) (c.check_script.ensures c.args.report.now c.requires)

pub returns-in-Ok-Dump : goal.returns-in-Ok-Dump
returns-in-Ok-Dump g c =
    runs_as _ _ _ _ _ (ap (λ folder. dumps folder c.in-Ok-Dump.slots) c.as_str-in-Ok-Dump.ensures.value ∙ ap asked_of (sym c.in-Ok-Dump.field-0-is) ∙ c.in-Ok-Dump.ensures.asked) c.run_dump.ensures

pub returns-in-Ok-Gen : goal.returns-in-Ok-Gen
returns-in-Ok-Gen g c = runs_as _ _ _ _ _ (ap asked_of (sym c.in-Ok-Gen.field-0-is) ∙ c.in-Ok-Gen.ensures.asked) c.run_gen.ensures

pub returns-in-Ok-Usage : goal.returns-in-Ok-Usage
returns-in-Ok-Usage g c =
    let e = c.end_with.ensures in
    runs_as usage _ _ _ _ (ap asked_of (sym c.in-Ok-Usage.field-0-is) ∙ c.in-Ok-Usage.ensures.asked)
    (usage_runs _ _ _ c.as_bytes.result.now c.requires (record { input = e.input; report = refl }) refl c.as_bytes.ensures.value e.status e.whole e.written e.failed)

pub returns-in-Err : goal.returns-in-Err
returns-in-Err g c = rw c.end_at.ensures (wanting_runs _ _ c.requires _)
