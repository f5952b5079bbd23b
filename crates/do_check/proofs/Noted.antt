-- What a sorted set with text keys has after one insertion.
use Rattle.std.proofs.Common.{◌≡◌, ℕ, Bool, true, false, cond, List, refl, ap, ◌∙◌}
use Rattle.std.proofs.lemmas.Map.Text.{btree_set_updates_text}
use Rattle.std.specs.BTreeSet as sorted
use Rattle.std.specs.BTreeSet.{BTreeSet, contains_text}
use Rattle.std.specs.Prelude.{◌||◌, String, string_bytes}
use Rattle.std.specs.Str.{bytes_eq}
use Rattle.std.specs.String.{string_cmp}

chosen_or : (b c : Bool) → cond b true c ≡ (b || c)
chosen_or true c = refl
chosen_or false c = refl

pub noted_in : {Y : Type 0} (key : String Y) (text : List ℕ) (old new : BTreeSet (String Y)) → string_bytes key ≡ text
    → sorted.Updates string_cmp old new key true → (other : List ℕ) → contains_text new other ≡ (bytes_eq text other || contains_text old other)
noted_in key text old new e u other =
    btree_set_updates_text (string_bytes key) old new true u other
    ∙ chosen_or (bytes_eq (string_bytes key) other) (contains_text old other)
    ∙ ap (λ t. bytes_eq t other || contains_text old other) e
