use Rattle.std.proofs.Common.{◌≡◌, ◌∷◌, drop, refl, sym, ◌∙◌, ap, subst, arith}
use Rattle.std.proofs.lemmas.List.{take_rest}
use Rattle.do_lex.specs.Lexemes.{text_value}
use Rattle.do_parse.proofs.Escapes.{read_more_bytes}
use Rattle.do_parse.proofs.text.unescaped.Goals as goal

pub loop-at-preserved : goal.loop-at-preserved
loop-at-preserved c = record {
  within = omega arith;
  value = read_more_bytes c.args.inside.now c.loop-at.bytes.items c.push.new.self.items c.loop-at.at c.first_of-unit.result.len c.first_of-unit.result.byte c.loop-at.invariant.value c.in_ok-push.ensures.items (subst (λ ys. text_value ys ≡ c.first_of-unit.result.byte ∷ text_value (drop c.first_of-unit.result.len ys)) (take_rest c.args.inside.now c.loop-at.at) c.first_of-unit.ensures.value);
}
