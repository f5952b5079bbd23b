use Rattle.std.proofs.Common.{◌≡◌, ◌+◌, ◌<◌, [], ◌∷◌, ◌++◌, map, drop, length, sym, ap, ◌∙◌, subst, arith}
use Rattle.std.specs.Str.{IsUtf8, IsCharBoundary}
use Rattle.std.proofs.lemmas.Str.{IsUtf8-drop}
use Rattle.do_value.specs.Limits.{most_bytes}
use Rattle.do_value.specs.Tree.{text, items, size_of}
use Rattle.do_value.specs.Seen.{trees_in}
use Rattle.script_ops.specs.Answers.{Gives}
use Rattle.script_ops.specs.Errors.{within_limits}
use Rattle.script_ops.specs.Texts.{pieces}
use Rattle.script_ops.proofs.Bounded.{size_more, pieces_large}
use Rattle.script_ops.proofs.Pieces.{split_here, split_ends, one_more, last_one}
use Rattle.script_ops.proofs.texts.split.Goals as goal

pub loop-piece-preserved : goal.loop-piece-preserved
loop-piece-preserved c =
    let found = c.in-Some.ensures.cases in
    let kept = c.loop-piece.invariant in
    let pushed = c.in_ok-push_text.ensures ∙ ap (λ x. trees_in c.loop-piece.parts.items ++ text x ∷ []) c.in_ok-word.ensures in
    let after_is : drop found.1 c.loop-piece.rest.now ≡ c.in-Some.after.now = sym found.4 in
    let whole : IsUtf8 (drop found.1 c.loop-piece.rest.now) =
    IsUtf8-drop c.loop-piece.rest.now found.1 kept.0 (subst (λ n. IsCharBoundary c.loop-piece.rest.now n) (sym found.2.1.ends) found.2.1.after) in (
      subst IsUtf8 after_is whole,
      ap (λ done. done ++ map text (pieces c.args.separator.now c.in-Some.after.now)) pushed
          ∙ one_more _ _ c.args.separator.now c.loop-piece.rest.now c.in-Some.piece.now c.in-Some.after.now kept.1
          (split_here c.args.separator.now c.loop-piece.rest.now c.in-Some.piece.now c.in-Some.after.now c.requires.some found),
      omega (arith, found.7),
      ap (λ n. n + (5 + length c.in-Some.piece.now)) kept.3 ∙ sym (size_more (trees_in c.loop-piece.parts.items) c.in-Some.piece.now) ∙ ap (λ ts. size_of (items ts)) (sym pushed),
      omega arith,
    )

pub returns-then-size-gt-MOST_BYTES : goal.returns-then-size-gt-MOST_BYTES
returns-then-size-gt-MOST_BYTES c =
    let kept = c.loop-piece.invariant in
    let pushed = c.in_ok-push_text.ensures ∙ ap (λ x. trees_in c.loop-piece.parts.items ++ text x ∷ []) c.in_ok-word.ensures in
    let large : most_bytes < size_of (items (trees_in c.push_text.new.texts.items)) =
    omega (arith, kept.3, size_more (trees_in c.loop-piece.parts.items) c.in-Some.piece.now, ap (λ ts. size_of (items ts)) pushed) in
    pieces_large (trees_in c.push_text.new.texts.items) (map text (pieces c.args.separator.now c.in-Some.after.now)) (pieces c.args.separator.now c.args.text.now)
    (ap (λ done. done ++ map text (pieces c.args.separator.now c.in-Some.after.now)) pushed
    ∙ one_more _ _ c.args.separator.now c.loop-piece.rest.now c.in-Some.piece.now c.in-Some.after.now kept.1
    (split_here c.args.separator.now c.loop-piece.rest.now c.in-Some.piece.now c.in-Some.after.now c.requires.some c.in-Some.ensures.cases))
    large

pub returns : goal.returns
returns c =
    let pushed = c.in_ok-push_text-2.ensures ∙ ap (λ x. trees_in c.loop-piece.parts.items ++ text x ∷ []) c.in_ok-word-2.ensures in
    subst (λ ts. Gives (within_limits (items ts)) c.list_value.result)
    (pushed ∙ last_one _ _ c.args.separator.now c.loop-piece.rest.now c.loop-piece.invariant.1 (split_ends c.args.separator.now c.loop-piece.rest.now c.in_default.ensures.cases))
    c.list_value.ensures
