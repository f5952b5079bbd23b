-- How many expressions links are, one link after another.
use Rattle.std.proofs.Common.{◌≡◌, ◌+◌, true, false, refl}
use Rattle.do_tree.specs.Nodes.{with_link}
use Rattle.do_tree.specs.Tree.{Links}
use Rattle.do_tree.specs.declared.expr.Arg.TheBlock as kept
use Rattle.do_tree.specs.declared.expr.Link.{Link}
use Rattle.script_mean.specs.Paths.{is_called, parts, parts_behind_call, parts_behind_two_calls}

-- A call is no step of its own.
pub parts_past_call : (l : Link) (ls : Links) → is_called (with_link l ls) ≡ true → parts (with_link l ls) ≡ parts ls
parts_past_call (kept.Field n) ls e = absurd cc
parts_past_call (kept.Index' at p e) ls h = absurd cc
parts_past_call (kept.Call' at p args) ls e = refl

-- A field and an index are one each.
pub parts_past_step : (l : Link) (ls : Links) → is_called (with_link l ls) ≡ false → parts (with_link l ls) ≡ 1 + parts ls
parts_past_step (kept.Field n) ls e = refl
parts_past_step (kept.Index' at p e) ls h = refl
parts_past_step (kept.Call' at p args) ls e = absurd cc

-- Behind the first call, where this is it and where it isn't.
pub behind_this_call : (l : Link) (ls : Links) → is_called (with_link l ls) ≡ true → parts_behind_call (with_link l ls) ≡ parts ls
behind_this_call (kept.Field n) ls e = absurd cc
behind_this_call (kept.Index' at p e) ls h = absurd cc
behind_this_call (kept.Call' at p args) ls e = refl

pub behind_later_call : (l : Link) (ls : Links) → is_called (with_link l ls) ≡ false → parts_behind_call (with_link l ls) ≡ parts_behind_call ls
behind_later_call (kept.Field n) ls e = refl
behind_later_call (kept.Index' at p e) ls h = refl
behind_later_call (kept.Call' at p args) ls e = absurd cc

-- Behind the second call, where this is the first and where it isn't.
pub behind_this_and_next : (l : Link) (ls : Links) → is_called (with_link l ls) ≡ true → parts_behind_two_calls (with_link l ls) ≡ parts_behind_call ls
behind_this_and_next (kept.Field n) ls e = absurd cc
behind_this_and_next (kept.Index' at p e) ls h = absurd cc
behind_this_and_next (kept.Call' at p args) ls e = refl

pub behind_later_calls : (l : Link) (ls : Links) → is_called (with_link l ls) ≡ false → parts_behind_two_calls (with_link l ls) ≡ parts_behind_two_calls ls
behind_later_calls (kept.Field n) ls e = refl
behind_later_calls (kept.Index' at p e) ls h = refl
behind_later_calls (kept.Call' at p args) ls e = absurd cc
