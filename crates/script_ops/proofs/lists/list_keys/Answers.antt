use Rattle.std.proofs.Common.{sym, ap, ◌∙◌, subst}
use Rattle.do_value.specs.Sound.{IsValue}
use Rattle.do_value.specs.Tree.{items, fields, pairs_of}
use Rattle.script_ops.specs.Answers.{Gives}
use Rattle.script_ops.specs.Errors.{within_limits}
use Rattle.script_ops.specs.Lists.{fields_of}
use Rattle.script_ops.proofs.Bounded.{keys_within}
use Rattle.script_ops.proofs.Parts.{fields_back, keys_walked}
use Rattle.script_ops.proofs.lists.list_keys.Goals as goal

pub returns : goal.returns
returns c =
    let pairs = c.args.of.now in
    let walked = keys_walked pairs c.as_slice-key-items.result.now c.loop-key.key-index _ c.as_slice-key-items.ensures.pairs c.loop-key-test.false c.loop-key.invariant in
    let value : IsValue (fields (fields_of (pairs_of pairs))) = subst (λ ps. IsValue (fields ps)) (sym (fields_back pairs)) c.as_slice-key-items.ensures.within in
    subst (λ meant. Gives meant c.list_value.result) (ap (λ ts. within_limits (items ts)) walked ∙ keys_within (fields_of (pairs_of pairs)) value) c.list_value.ensures
