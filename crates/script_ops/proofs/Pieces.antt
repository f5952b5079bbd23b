-- The pieces of a text, one after the other.
use Rattle.std.proofs.Common.{◌≡◌, ℕ, zero, suc, ◌-◌, ◌<◌, ◌≤◌, true, false, List, [], ◌∷◌, ◌++◌, map, length, take, drop, nat_eq, None, refl, sym, ap, ◌∙◌, append_assoc, arith}
use Rattle.std.specs.List.{starts_with}
use Rattle.std.specs.Str.Pattern.{LacksTextAt, FindsText, SplitsAroundMatch}
use Rattle.std.proofs.lemmas.Bool.{false_from_ne_true}
use Rattle.std.proofs.lemmas.List.{drop_at}
use Rattle.do_value.specs.Tree.{Tree, text}
use Rattle.script_ops.specs.Texts.{in_front, pieces_after, pieces}
use Rattle.script_ops.proofs.Found.{begins_true, begins_from}

-- bytes that are passed over are dropped
passed_over : (separator : List ℕ) (n : ℕ) (bytes : List ℕ) → pieces_after n separator bytes ≡ pieces_after 0 separator (drop n bytes)
passed_over separator zero bytes = refl
passed_over separator (suc n) [] = refl
passed_over separator (suc n) (b ∷ bytes) = passed_over separator n bytes

-- where the separator doesn't stand, the byte belongs to the first piece
front_byte : (separator : List ℕ) (b : ℕ) (bytes : List ℕ) → LacksTextAt separator (b ∷ bytes) 0 → pieces separator (b ∷ bytes) ≡ in_front b (pieces separator bytes)
front_byte separator b bytes lacks =
    let apart : starts_with nat_eq (b ∷ bytes) separator ≡ false = false_from_ne_true _ (λ h. lacks (drop (length separator) (b ∷ bytes)) (begins_true (b ∷ bytes) separator h)) in
    rw apart refl

-- where it stands, a piece ends
at_separator : (c : ℕ) (cs rest s : List ℕ) → s ≡ (c ∷ cs) ++ rest → pieces (c ∷ cs) s ≡ [] ∷ pieces (c ∷ cs) rest
at_separator c cs rest [] e = absurd (cc)
at_separator c cs rest (b ∷ bytes) e =
    let found : starts_with nat_eq (b ∷ bytes) (c ∷ cs) ≡ true = begins_from (b ∷ bytes) (c ∷ cs) rest e in
    let tails : bytes ≡ cs ++ rest = cc in
    let count : length (c ∷ cs) - 1 ≡ length cs = omega arith in
    let same : pieces_after (length (c ∷ cs) - 1) (c ∷ cs) bytes ≡ pieces (c ∷ cs) rest =
    passed_over (c ∷ cs) (length (c ∷ cs) - 1) bytes ∙ ap (λ n. pieces_after 0 (c ∷ cs) (drop n bytes)) count
    ∙ ap (λ x. pieces_after 0 (c ∷ cs) (drop (length cs) x)) tails ∙ ap (pieces_after 0 (c ∷ cs)) (drop_at cs rest (length cs) refl) in
    rw found (ap (λ ps. [] ∷ ps) same)

-- the text before the first separator is the first piece
first_piece : (i c : ℕ) (cs rest s : List ℕ) → ((k : ℕ) → k < i → LacksTextAt (c ∷ cs) s k) → drop i s ≡ (c ∷ cs) ++ rest
    → pieces (c ∷ cs) s ≡ take i s ∷ pieces (c ∷ cs) rest
first_piece zero c cs rest s lacks e = at_separator c cs rest s e
first_piece (suc i) c cs rest [] lacks e = absurd (cc)
first_piece (suc i) c cs rest (b ∷ bytes) lacks e =
    front_byte (c ∷ cs) b bytes (lacks 0 (omega arith))
    ∙ ap (in_front b) (first_piece i c cs rest bytes (λ k lt. lacks (suc k) (omega arith)) e)

-- a text without the separator is one piece
one_piece : (separator s : List ℕ) → ((k : ℕ) → k ≤ length s → LacksTextAt separator s k) → pieces separator s ≡ s ∷ []
one_piece separator [] lacks = refl
one_piece separator (b ∷ bytes) lacks =
    front_byte separator b bytes (lacks 0 (omega arith)) ∙ ap (in_front b) (one_piece separator bytes (λ k le. lacks (suc k) (omega arith)))

-- what `split_once` answers
pub split_here : (separator s front back : List ℕ) → 0 < length separator → SplitsAroundMatch (FindsText separator) s front back
    → pieces separator s ≡ front ∷ pieces separator back
split_here [] s front back some h = absurd (omega arith)
split_here (c ∷ cs) s front back some h =
    first_piece h.0 c cs (drop h.1 s) s h.2.0 h.2.1.split
    ∙ ap (λ x. x ∷ pieces (c ∷ cs) (drop h.1 s)) (sym h.3) ∙ ap (λ x. front ∷ pieces (c ∷ cs) x) (sym h.4)

pub split_ends : (separator s : List ℕ) → FindsText separator s None → pieces separator s ≡ s ∷ []
split_ends separator s lacks = one_piece separator s lacks

-- one piece more, and the last
pub one_more : (done all : List Tree) (separator s front back : List ℕ) → done ++ map text (pieces separator s) ≡ all
    → pieces separator s ≡ front ∷ pieces separator back → (done ++ text front ∷ []) ++ map text (pieces separator back) ≡ all
one_more done all separator s front back e here = append_assoc done (text front ∷ []) (map text (pieces separator back)) ∙ ap (λ ps. done ++ map text ps) (sym here) ∙ e

pub last_one : (done all : List Tree) (separator s : List ℕ) → done ++ map text (pieces separator s) ≡ all → pieces separator s ≡ s ∷ [] → done ++ text s ∷ [] ≡ all
last_one done all separator s e here = ap (λ ps. done ++ map text ps) (sym here) ∙ e
