use Rattle.std.proofs.Common.{◌≡◌, Err, refl, sym, ◌∙◌, ap, subst, arith}
use Rattle.do_tree.specs.Seen.{script_of}
use Rattle.do_parse.specs.Fault.{IsFault}
use Rattle.do_parse.specs.Parsed.{Parses}
use Rattle.do_parse.specs.declared.fault.ParseKind.TheVariants as kind
use Rattle.do_parse.specs.Pieces.{IsWhole, NothingLeft}
use Rattle.do_parse.specs.declared.stop.Stop.TheVariants.{Unexpected, TooNested}
use Rattle.do_parse.proofs.Top.{top_accepts, top_only, top_fault, top_unexpected, top_nested}
use Rattle.do_parse.specs.Sound.{AreSound}
use Rattle.do_parse.proofs.Sound.{lexed_sound}
use Rattle.do_parse.proofs.answer.parse.Goals as goal

pub new-cursor-requires : goal.new-cursor-requires
new-cursor-requires c =
    subst (λ ts. AreSound ts) (sym c.deref.ensures.value)
    (lexed_sound c.args.text.now c.in-Ok.lexed.tokens.items c.in-Ok.lexed.fault (omega arith) c.in-Ok.ensures.lexed)

pub returns-in-None-clause-accepts : goal.returns-in-None-clause-accepts
returns-in-None-clause-accepts c =
    top_accepts c.args.text.now c.in-Ok.lexed.tokens.items c.new-cursor.result c.script.new.self c.in-Ok.lexed.fault (script_of c.in-Ok-script.script)
    c.in-Ok.ensures.lexed c.in-None.is (c.new-cursor.ensures ∙ c.deref.ensures.value) c.in-Ok-script.ensures.end c.in-Ok-script.ensures.parses

pub returns-in-None-clause-only : goal.returns-in-None-clause-only
returns-in-None-clause-only c other o =
    top_only c.args.text.now c.in-Ok.lexed.tokens.items c.new-cursor.result c.script.new.self c.in-Ok.lexed.fault (script_of c.in-Ok-script.script) other
    c.in-Ok.ensures.lexed c.in-None.is (c.new-cursor.ensures ∙ c.deref.ensures.value) c.in-Ok-script.ensures.end c.in-Ok-script.ensures.parses o

pub returns-in-Ok-script-clause-refuses : goal.returns-in-Ok-script-clause-refuses
returns-in-Ok-script-clause-refuses c =
    subst (λ f. IsFault c.args.text.now f) (sym c.of_token.ensures)
    (top_fault c.args.text.now c.in-Ok.lexed.tokens.items c.new-cursor.result c.script.new.self c.in-Ok.lexed.fault c.in-Some.fault (script_of c.in-Ok-script.script) (omega arith)
    c.in-Ok.ensures.lexed c.in-Some.is (c.new-cursor.ensures ∙ c.deref.ensures.value) c.in-Ok-script.ensures.end c.in-Ok-script.ensures.parses)

pub returns-in-Err-Unexpected-clause-refuses : goal.returns-in-Err-Unexpected-clause-refuses
returns-in-Err-Unexpected-clause-refuses c =
    let p = rw c.in-Err-Unexpected.field-0-is at c.in-Err-Unexpected.ensures.parses in
    subst (λ f. IsFault c.args.text.now f) (sym (rw c.next.ensures at c.wrong_at.ensures))
    (top_unexpected c.args.text.now c.in-Ok.lexed.tokens.items c.script.new.self c.in-Ok.lexed.fault c.end_of_text-end.result (omega arith) c.end_of_text-end.ensures.value
    c.in-Ok.ensures.lexed (subst (λ x. Parses IsWhole NothingLeft x c.script.new.self (Err Unexpected)) (c.new-cursor.ensures ∙ c.deref.ensures.value) p))

pub returns-in-Err-TooNested-clause-refuses : goal.returns-in-Err-TooNested-clause-refuses
returns-in-Err-TooNested-clause-refuses c =
    let p = rw c.in-Err-TooNested.field-0-is at c.in-Err-TooNested.ensures.parses in
    subst (λ at. IsFault c.args.text.now (record { place = at; kind = kind.TooNested })) (sym c.place.ensures)
    (top_nested c.args.text.now c.in-Ok.lexed.tokens.items c.script.new.self c.in-Ok.lexed.fault (omega arith)
    c.in-Ok.ensures.lexed (subst (λ x. Parses IsWhole NothingLeft x c.script.new.self (Err TooNested)) (c.new-cursor.ensures ∙ c.deref.ensures.value) p))
