-- The truth of values.
use Rattle.std.specs.Prelude.{pos, Bool, true, false, not, ◌==◌, length}
use Rattle.std.specs.Ordering.{int_eq}
use Rattle.do_value.specs.Tree.{Tree, undefined, null, boolean, number, text, list, rec}

-- JavaScript's conversion to a truth value: all is true but `false`, 0, the empty text, `null` and `undefined`.
abbrev pub is_true : Tree → Bool
is_true undefined = false
is_true null = false
is_true (boolean b) = b
is_true (number z) = not (int_eq z (pos 0))
is_true (text bytes) = not (length bytes == 0)
is_true (list ts) = true
is_true (rec ps) = true
