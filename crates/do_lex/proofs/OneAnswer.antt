-- The lexical grammar gives one answer at a place.
use Rattle.std.proofs.Common.{◌≡◌, ℕ, ◌+◌, List, [], ◌∷◌, get_or, take, drop, Option, Some, None, Ok, Err, ⊎_elim, refl, sym, ◌∙◌, ap, subst}
use Rattle.std.proofs.lemmas.Bool.{cases_order}
use Rattle.do_lex.specs.Cut.{IsCut}
use Rattle.do_lex.specs.Kind.{word_kind}
use Rattle.do_lex.specs.Lexemes.{IsFirst}
use Rattle.do_lex.specs.Longest.{IsLongest}
use Rattle.do_lex.specs.Next.{Answer, opening_of, token, number_answer, text_answer, IsSeparatorBy, StandsBy, Gives, IsNext, unless_malformed}
use Rattle.do_lex.specs.Next.Gives.{skip, here}
use Rattle.do_lex.specs.declared.pieces.Span.{Span}
use Rattle.do_lex.specs.declared.pieces.Opening.{Opening}
use Rattle.do_lex.specs.declared.pieces.Opening.TheVariants as opens
use Rattle.do_lex.specs.declared.fault.LexFault.{LexFault}

-- one front is the longest
one_longest : (P : List ℕ → Type 0) (bytes : List ℕ) (m n : ℕ) → IsLongest P bytes m → IsLongest P bytes n → m ≡ n
one_longest P bytes m n a b =
    ⊎_elim (λ same. same)
    (λ apart. ⊎_elim (λ less. absurd (a.longest n less b.in_range b.holds)) (λ more. absurd (b.longest m more a.in_range a.holds)) apart)
    (cases_order m n)

-- one place is the first
one_first : (P : ℕ → Type 0) (m n : ℕ) → IsFirst P m → IsFirst P n → m ≡ n
one_first P m n a b =
    ⊎_elim (λ same. same)
    (λ apart. ⊎_elim (λ less. absurd (b.first m less a.holds)) (λ more. absurd (a.first n more b.holds)) apart)
    (cases_order m n)

-- one separator is at the front
one_separator : (o : Opening) (bytes : List ℕ) (m n : ℕ) → IsSeparatorBy o bytes m → IsSeparatorBy o bytes n → m ≡ n
one_separator opens.Blank bytes m n a b = a ∙ sym b
one_separator opens.LineComment bytes m n a b = one_longest _ bytes m n a b
one_separator opens.BlockComment bytes m n (i, first, a) (j, other, b) = a ∙ ap (λ k. k + 4) (one_first _ i j first other) ∙ sym b
one_separator opens.End bytes m n a b = absurd a
one_separator opens.Quote bytes m n a b = absurd a
one_separator opens.Digit bytes m n a b = absurd a
one_separator opens.Letter bytes m n a b = absurd a
one_separator opens.Other bytes m n a b = absurd a

-- where a separator is, nothing else stands
separator_alone : (o : Opening) (bytes : List ℕ) (n at : ℕ) (answer : Answer) → IsSeparatorBy o bytes n → StandsBy o bytes at answer → ⊥
separator_alone opens.Blank bytes n at answer a b = b
separator_alone opens.LineComment bytes n at answer a b = b
separator_alone opens.BlockComment bytes n at answer (i, first, a) b = b.0 i first.holds
separator_alone opens.End bytes n at answer a b = a
separator_alone opens.Quote bytes n at answer a b = a
separator_alone opens.Digit bytes n at answer a b = a
separator_alone opens.Letter bytes n at answer a b = a
separator_alone opens.Other bytes n at answer a b = a

-- one answer stands at the front
one_stands : (o : Opening) (bytes : List ℕ) (at : ℕ) (a b : Answer) → StandsBy o bytes at a → StandsBy o bytes at b → a ≡ b
one_stands opens.Blank bytes at a b h k = absurd h
one_stands opens.LineComment bytes at a b h k = absurd h
one_stands opens.BlockComment bytes at a b h k = h.1 ∙ sym k.1
one_stands opens.End bytes at a b h k = h ∙ sym k
one_stands opens.Other bytes at a b h k = h ∙ sym k
one_stands opens.Letter bytes at a b h k =
    h.answer_is ∙ ap (λ n. token (word_kind (take n bytes)) at n) (one_longest _ bytes h.n k.n h.longest k.longest) ∙ sym k.answer_is
one_stands opens.Digit bytes at a b h k =
    h.answer_is ∙ ap (number_answer bytes at) (one_longest _ bytes h.n k.n h.longest k.longest) ∙ sym k.answer_is
one_stands opens.Quote bytes at a b h k =
    let n_same = one_longest _ (drop 1 bytes) h.n k.n h.longest k.longest in
    let good_same = one_longest _ (drop 1 bytes) h.good k.good h.longest_good k.longest_good in
    h.answer_is ∙ (λ i. text_answer (get_or bytes 0 0) (drop 1 bytes) at (n_same i) (good_same i)) ∙ sym k.answer_is

-- one answer comes from a place on
one_given : {bytes : List ℕ} {at : ℕ} {a b : Answer} → Gives bytes at a → Gives bytes at b → a ≡ b
one_given {bytes} {at} {a} {b} (skip n s r) (skip m t q) =
    let same : m ≡ n = one_separator (opening_of bytes) bytes m n t s in
    one_given r (subst (λ k. Gives (drop k bytes) (at + k) b) same q)
one_given {bytes} {at} {a} {b} (skip n s r) (here h) = absurd (separator_alone (opening_of bytes) bytes n at b s h)
one_given {bytes} {at} {a} {b} (here h) (skip n s r) = absurd (separator_alone (opening_of bytes) bytes n at a s h)
one_given {bytes} {at} {a} {b} (here h) (here k) = one_stands (opening_of bytes) bytes at a b h k

pub one_next : (text : List ℕ) (at : ℕ) (a b : Answer) → IsNext text at a → IsNext text at b → a ≡ b
one_next text at a b h k = h.answer_is ∙ ap (unless_malformed text) (one_given h.gives k.gives) ∙ sym k.answer_is

-- what an end or a fault is as an answer
last_answer : Option LexFault → Answer
last_answer None = Ok None
last_answer (Some fault) = Err fault

last_next : (text : List ℕ) (at : ℕ) (last : Option LexFault) → IsCut text at [] last → IsNext text at (last_answer last)
unfolding last_answer
last_next text at None h = h
last_next text at (Some fault) h = h

same_last : (a b : Option LexFault) → last_answer a ≡ last_answer b → a ≡ b
unfolding last_answer
same_last None None e = refl
same_last None (Some y) e = cc
same_last (Some x) None e = cc
same_last (Some x) (Some y) e = cc

not_last : (a : Option LexFault) (span : Span) → last_answer a ≡ Ok (Some span) → ⊥
unfolding last_answer
not_last None span e = cc
not_last (Some x) span e = cc

some_same : (x y : Span) (a b : Answer) → a ≡ Ok (Some x) → b ≡ Ok (Some y) → a ≡ b → x ≡ y
some_same x y a b is_x is_y same = cc

pub one_cut : (text : List ℕ) (at : ℕ) (xs ys : List Span) (a b : Option LexFault) → IsCut text at xs a → IsCut text at ys b → (xs ≡ ys) × (a ≡ b)
one_cut text at [] [] a b h k = (refl, same_last a b (one_next text at (last_answer a) (last_answer b) (last_next text at a h) (last_next text at b k)))
one_cut text at [] (y ∷ ys) a b h k = absurd (not_last a y (one_next text at (last_answer a) (Ok (Some y)) (last_next text at a h) k.0))
one_cut text at (x ∷ xs) [] a b h k = absurd (not_last b x (one_next text at (last_answer b) (Ok (Some x)) (last_next text at b k) h.0))
one_cut text at (x ∷ xs) (y ∷ ys) a b h k =
    let same : x ≡ y = some_same x y (Ok (Some x)) (Ok (Some y)) refl refl (one_next text at (Ok (Some x)) (Ok (Some y)) h.0 k.0) in
    let rest = one_cut text x.end xs ys a b h.1 (subst (λ (s : Span). IsCut text s.end ys b) (sym same) k.1) in
    ((λ i. same i ∷ rest.0 i), rest.1)
