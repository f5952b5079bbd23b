use Rattle.std.proofs.Common.{inr, sym, ◌∙◌, subst}
use Rattle.do_tree.specs.Seen.{script_of}
use Rattle.do_host.specs.Scripts.{IsAccepted}
use Rattle.do_host.proofs.Accepted.{checked_fault, ends_early, line_at, short_text}
use Rattle.do_host.proofs.accept.accept.Goals as goal

pub returns-in-Ok-check-clause-accepted : goal.returns-in-Ok-check-clause-accepted
returns-in-Ok-check-clause-accepted c =
    subst (IsAccepted c.args.text.now) (sym c.in-Ok-check.ensures.ok)
    (record {
      short = short_text c.args.text.now (λ long. let e = c.in-Ok.ensures.too_long long in cc);
      read = c.in-Ok.ensures.accepts;
      only = c.in-Ok.ensures.only;
      faultless = c.in-Ok-check.ensures.faultless;
    })

pub returns-in-Err-check-clause-refused : goal.returns-in-Err-check-clause-refused
returns-in-Err-check-clause-refused c = λ line refused.
    let at = line_at c.in-Err-check.fault.place _ c.refuse.result c.refuse.ensures line refused in
    let named = sym c.check_word.ensures ∙ at.some in
    record {
      place = c.in-Err-check.fault.place;
      word = at.is;
      refused = inr (record {
        kind = c.in-Err-check.fault.kind;
        named = named;
        tree = script_of c.in-Ok.script;
        short = short_text c.args.text.now (λ long. let e = c.in-Ok.ensures.too_long long in cc);
        read = c.in-Ok.ensures.accepts;
        only = c.in-Ok.ensures.only;
        fault = checked_fault (script_of c.in-Ok.script) c.in-Err-check.fault at.is named c.in-Err-check.ensures.err;
      });
      line_is = at.line_is;
    }

pub returns-in-Err-check-clause-stopped : goal.returns-in-Err-check-clause-stopped
returns-in-Err-check-clause-stopped c = ends_early _ _ c.refuse.result c.refuse.ensures

pub returns-in-Err-clause-stopped : goal.returns-in-Err-clause-stopped
returns-in-Err-clause-stopped c = ends_early _ _ c.refuse-in-Err.result c.refuse-in-Err.ensures
