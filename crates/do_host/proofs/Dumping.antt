-- Texts that are written one behind the other, and the text of a slot.
use Rattle.std.proofs.Common.{◌≡◌, ◌+◌, ℕ, List, [], ◌∷◌, ◌++◌, length, take, false, Option, Some, None, option_map, Result, Ok, Err, OnOk, refl, sym, ap, subst, ◌∙◌, arith, append_assoc}
use Rattle.std.proofs.lemmas.List.{append-nil, length-append, take-append-le}
use Rattle.std.proofs.lemmas.Grind.{flat_map-append}
use Rattle.std.proofs.Math.Seq.{take-append-add, take-length}
use Rattle.serde_json.specs.Written.{has_float}
use Rattle.do_value.specs.Seen.{tree_of}
use Rattle.do_value.specs.declared.value.Value.{Value}
use Rattle.do_host.specs.Dump.{pairs_text}
use Rattle.do_host.specs.Written.{WritesAll, WritesFirstOf, Writes}
use Rattle.do_host.specs.SlotLines.{pair_json, pair_line}
use Rattle.line_server.proofs.Printing.{has_no_float}

-- nothing was written
pub all_none : (taken : Option (List ℕ)) → WritesAll taken taken []
all_none None = refl
all_none (Some had) = ap Some (sym (append-nil had))

pub front_none : (taken : Option (List ℕ)) (text : List ℕ) → WritesFirstOf taken taken text
front_none taken text = (0, omega arith, all_none taken)

-- all of it is its first bytes
pub front_all : (before after : Option (List ℕ)) (text : List ℕ) → WritesAll before after text → WritesFirstOf before after text
front_all before after text was = (length text, omega arith, was ∙ ap (λ all. option_map (λ taken. taken ++ all) before) (sym (take-length text)))

-- the first bytes are those of a longer text
pub front_longer : (before after : Option (List ℕ)) (text more : List ℕ) → WritesFirstOf before after text → WritesFirstOf before after (text ++ more)
front_longer before after text more (n, short, was) =
    (n, omega (arith, length-append text more, short), was ∙ ap (λ first. option_map (λ taken. taken ++ first) before) (sym (take-append-le n text more short)))

-- one text behind another
pub all_on : (before middle after : Option (List ℕ)) (text more : List ℕ) → WritesAll before middle text → WritesAll middle after more → WritesAll before after (text ++ more)
all_on None middle after text more was now = now ∙ ap (option_map (λ taken. taken ++ more)) was
all_on (Some had) middle after text more was now = now ∙ ap (option_map (λ taken. taken ++ more)) was ∙ ap Some (append_assoc had text more)

part_taken : (before middle after : Option (List ℕ)) (text more : List ℕ) (n : ℕ) → WritesAll before middle text → after ≡ option_map (λ taken. taken ++ take n more) middle
    → after ≡ option_map (λ taken. taken ++ take (length text + n) (text ++ more)) before
part_taken None middle after text more n was now = now ∙ ap (option_map (λ taken. taken ++ take n more)) was
part_taken (Some had) middle after text more n was now =
    now ∙ ap (option_map (λ taken. taken ++ take n more)) was ∙ ap Some (append_assoc had text (take n more) ∙ ap (λ r. had ++ r) (sym (take-append-add text more n)))

pub front_on : (before middle after : Option (List ℕ)) (text more : List ℕ) → WritesAll before middle text → WritesFirstOf middle after more → WritesFirstOf before after (text ++ more)
front_on before middle after text more was (n, short, now) =
    (length text + n, omega (arith, length-append text more, short), part_taken before middle after text more n was now)

-- what a good end, or a stop, has written
pub writes_all : {T E : Type 0} (before after : Option (List ℕ)) (text : List ℕ) (result : Result T E) → WritesAll before after text → Writes before after text result
writes_all before after text (Ok done) was = record { whole = was; front = front_all before after text was }
writes_all before after text (Err end) was = record { whole = tt; front = front_all before after text was }

pub writes_front : {T E : Type 0} (before after : Option (List ℕ)) (text : List ℕ) (result : Result T E) (end : E) → result ≡ Err end → WritesFirstOf before after text → Writes before after text result
writes_front before after text result end is was = record { whole = subst (λ r. OnOk r (WritesAll before after text)) (sym is) tt; front = was }

-- a text that is written behind another
pub writes_on : {T E : Type 0} (before middle after : Option (List ℕ)) (text more : List ℕ) (result : Result T E) → WritesAll before middle text → Writes middle after more result → Writes before after (text ++ more) result
writes_on before middle after text more (Ok done) was then = record { whole = all_on before middle after text more was then.whole; front = front_on before middle after text more was then.front }
writes_on before middle after text more (Err end) was then = record { whole = tt; front = front_on before middle after text more was then.front }

-- a line that was made, and a part of it
pub writes_line : {T E : Type 0} (before after : Option (List ℕ)) (bytes text : List ℕ) (result : Result T E) → bytes ≡ text → WritesAll before after bytes → Writes before after text result
writes_line before after bytes text result same was = writes_all before after text result (subst (λ b. WritesAll before after b) same was)

pub writes_part : {T E : Type 0} (before after : Option (List ℕ)) (bytes text : List ℕ) (result : Result T E) (end : E) → result ≡ Err end → bytes ≡ text → WritesFirstOf before after bytes → Writes before after text result
writes_part before after bytes text result end is same was = writes_front before after text result end is (subst (λ b. WritesFirstOf before after b) same was)

-- no float stands in the JSON of a pair
pub pair_has_no_float : (slot : ℕ) (key : List ℕ) (value : Value) → has_float (pair_json slot key value) ≡ false
pair_has_no_float slot key value = rw (has_no_float (tree_of value)) refl

-- a pair more
pub pairs_on : (slot : ℕ) (pairs : List (List ℕ × Value)) (pair : List ℕ × Value) → pairs_text slot (pairs ++ pair ∷ []) ≡ pairs_text slot pairs ++ pair_line slot pair
pairs_on slot pairs pair = flat_map-append (pair_line slot) pairs (pair ∷ []) ∙ ap (λ r. pairs_text slot pairs ++ r) (append-nil (pair_line slot pair))

-- the pairs that were printed, and those that are left, are all
pub record IsPrinted (slot : ℕ) (before after : Option (List ℕ)) (left all : List (List ℕ × Value)) : Type 0 where
  pub done : List (List ℕ × Value)
  pub split : done ++ left ≡ all
  pub written : WritesAll before after (pairs_text slot done)

pub printed_none : (slot : ℕ) (taken : Option (List ℕ)) (left all : List (List ℕ × Value)) → left ≡ all → IsPrinted slot taken taken left all
printed_none slot taken left all same = record { done = []; split = same; written = all_none taken }

pub printed_on : (slot : ℕ) (before middle after : Option (List ℕ)) (pair : List ℕ × Value) (left rest all : List (List ℕ × Value)) → IsPrinted slot before middle left all → left ≡ pair ∷ rest → WritesAll middle after (pair_line slot pair) → IsPrinted slot before after rest all
printed_on slot before middle after pair left rest all so_far first was = record {
  done = so_far.done ++ pair ∷ [];
  split = append_assoc so_far.done (pair ∷ []) rest ∙ ap (λ pairs. so_far.done ++ pairs) (sym first) ∙ so_far.split;
  written = subst (λ text. WritesAll before after text) (sym (pairs_on slot so_far.done pair)) (all_on before middle after (pairs_text slot so_far.done) (pair_line slot pair) so_far.written was);
}

pub printed_all : (slot : ℕ) (before after : Option (List ℕ)) (left all : List (List ℕ × Value)) → IsPrinted slot before after left all → left ≡ [] → WritesAll before after (pairs_text slot all)
printed_all slot before after left all so_far none =
    subst (λ pairs. WritesAll before after (pairs_text slot pairs)) (sym (append-nil so_far.done) ∙ ap (λ pairs. so_far.done ++ pairs) (sym none) ∙ so_far.split) so_far.written

-- a part of the text of a pair more is a part of that of all
pub printed_part : (slot : ℕ) (before middle after : Option (List ℕ)) (pair : List ℕ × Value) (left rest all : List (List ℕ × Value)) → IsPrinted slot before middle left all → left ≡ pair ∷ rest → WritesFirstOf middle after (pair_line slot pair)
    → WritesFirstOf before after (pairs_text slot all)
printed_part slot before middle after pair left rest all so_far first part =
    let whole : pairs_text slot all ≡ (pairs_text slot so_far.done ++ pair_line slot pair) ++ pairs_text slot rest =
    ap (pairs_text slot) (sym so_far.split ∙ ap (λ pairs. so_far.done ++ pairs) first ∙ sym (append_assoc so_far.done (pair ∷ []) rest)) ∙ flat_map-append (pair_line slot) (so_far.done ++ pair ∷ []) rest
    ∙ ap (λ text. text ++ pairs_text slot rest) (pairs_on slot so_far.done pair) in
    subst (λ text. WritesFirstOf before after text) (sym whole)
    (front_longer before after (pairs_text slot so_far.done ++ pair_line slot pair) (pairs_text slot rest) (front_on before middle after (pairs_text slot so_far.done) (pair_line slot pair) so_far.written part))
