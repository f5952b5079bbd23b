use Rattle.std.proofs.Common.{◌-◌, ℕ, List, length, drop, sym, ◌∙◌, ap, subst, arith, IsUtf8}
use Rattle.std.proofs.lemmas.List.{length-take}
use Rattle.do_lex.specs.Lexemes.{text_value}
use Rattle.do_parse.proofs.Unescaping.{text_value-IsUtf8, length-text_value}
use Rattle.do_parse.proofs.text.text_of.Goals as goal

pub new_text-requires : goal.new_text-requires
new_text-requires c =
    let inside = c.between_quotes-inside.result.now in
    let same = c.in-Ok.ensures.cases.0 ∙ c.deref.ensures.value ∙ c.in_ok-bytes.ensures ∙ ap (λ xs. text_value xs) c.as_bytes.ensures.value in
    omega (arith, c.requires.short, ap (λ (xs : List ℕ). length xs) same, length-text_value inside, ap (λ (xs : List ℕ). length xs) c.between_quotes-inside.ensures, length-take (length c.args.token.now - 2) (drop 1 c.args.token.now))

pub unreachable-requires : goal.unreachable-requires
unreachable-requires c =
    let inside = c.between_quotes-inside.result.now in
    let same = c.deref.ensures.value ∙ c.in_ok-bytes.ensures ∙ ap (λ xs. text_value xs) c.as_bytes.ensures.value in
    c.in-Err.ensures.cases.0 (subst (λ xs. IsUtf8 xs) (sym same) (text_value-IsUtf8 inside c.between_quotes-inside.utf8))
