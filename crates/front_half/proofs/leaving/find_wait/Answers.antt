use Rattle.std.proofs.Common.{◌∙◌, ap, sym}
use Rattle.std.specs.Prelude.{Option, unwrap_or}
use Rattle.std.specs.Option.{option_copied}
use Rattle.std.proofs.lemmas.Result.{IfOk-weaker}
use Rattle.timeline.specs.declared.notice.Waits.{Waits}
use Rattle.timeline.specs.declared.notice.Waits.TheVariants.{Block}
use Rattle.front_half.proofs.leaving.find_wait.Goals as goal

pub returns-in-None : goal.returns-in-None
returns-in-None c = ap (λ (kept : Option Waits). unwrap_or kept Block) (sym (ap option_copied c.in-None.is) ∙ c.get.ensures)

pub returns-in-Some : goal.returns-in-Some
returns-in-Some c =
    IfOk-weaker c.copy_waits.result _ _
    (λ waits same. same ∙ ap (λ (kept : Option Waits). unwrap_or kept Block) (sym (ap option_copied c.in-Some.is) ∙ c.get.ensures)) c.copy_waits.ensures
