use Rattle.std.proofs.Common.{◌≡◌, ◌<◌, length, arith}
use Rattle.std.proofs.lemmas.Grind.{common_steps}
use Rattle.do_tree.specs.declared.expr.Expr.TheVariants as node
use Rattle.script_steps.proofs.Stripped.{group_is, lazy_bare, lazy_is, strict_bare, strict_is}
use Rattle.script_steps.proofs.strip.inside.Goals as goal

pub returns-in-Group-clause-same : goal.returns-in-Group-clause-same
returns-in-Group-clause-same c =
    let is : c.args.expr.now ≡ node.Group c.in-Group.at c.in-Group.inside = grind (arith, common_steps) in
    λ awaited calls. group_is awaited calls _ _ _ is

pub returns-then-is_empty-clause-same : goal.returns-then-is_empty-clause-same
returns-then-is_empty-clause-same c =
    let is : c.args.expr.now ≡ node.Lazy c.in-Lazy.at c.in-Lazy.chain c.in-Lazy.first c.in-Lazy.rest = grind (arith, common_steps) in
    let none : length c.in-Lazy.rest.items ≡ 0 = grind (arith, common_steps) in
    λ awaited calls. lazy_is awaited calls _ _ _ _ _ is none

pub returns-else-is_empty-clause-bare : goal.returns-else-is_empty-clause-bare
returns-else-is_empty-clause-bare c =
    let is : c.args.expr.now ≡ node.Lazy c.in-Lazy.at c.in-Lazy.chain c.in-Lazy.first c.in-Lazy.rest = grind (arith, common_steps) in
    let some : 0 < length c.in-Lazy.rest.items = grind (arith, common_steps) in
    λ none. lazy_bare _ _ _ _ _ is some

pub returns-then-is_empty-2-clause-same : goal.returns-then-is_empty-2-clause-same
returns-then-is_empty-2-clause-same c =
    let is : c.args.expr.now ≡ node.Strict c.in-Strict.at c.in-Strict.first c.in-Strict.rest = grind (arith, common_steps) in
    let none : length c.in-Strict.rest.items ≡ 0 = grind (arith, common_steps) in
    λ awaited calls. strict_is awaited calls _ _ _ _ is none

pub returns-else-is_empty-2-clause-bare : goal.returns-else-is_empty-2-clause-bare
returns-else-is_empty-2-clause-bare c =
    let is : c.args.expr.now ≡ node.Strict c.in-Strict.at c.in-Strict.first c.in-Strict.rest = grind (arith, common_steps) in
    let some : 0 < length c.in-Strict.rest.items = grind (arith, common_steps) in
    λ none. strict_bare _ _ _ _ is some
