-- The printed text of a script's tree is a text of the same script, and no longer.
use Rattle.std.proofs.Common.{◌≡◌, ◌≤◌, ℕ, List, ◌∷◌, length, refl, sym, ap, subst, arith, IsUtf8}
use Rattle.std.proofs.lemmas.List.Elements.{All-cons, All-head, All-nil, All-tail}
use Rattle.do_tree.specs.Accepts.{IsScriptText, IsShallow, most_inside}
use Rattle.do_tree.specs.Lexeme.{Lexeme}
use Rattle.do_tree.specs.Print.{text_behind, text_of_pieces, text_of_script}
use Rattle.do_tree.specs.Tree.{Script}
use Rattle.do_tree.specs.Unplaced.{SameButPlaces}
use Rattle.do_tree.specs.declared.print_word.Edge.TheVariants as edge
use Rattle.do_tree.proofs.Lengths.{no_longer_than}
use Rattle.do_tree.proofs.Recut.{place_in, recut, sound, sound_utf8}
use Rattle.do_tree.proofs.Respelled.{Bare, Kept, Respelled, pieces, placed}
use Rattle.do_tree.proofs.Respelled.Kept.{kept_mark, kept_key, kept_name, kept_any, kept_no_word, kept_number, kept_text, kept_word_key}
use Rattle.do_tree.proofs.Respelled.Respelled.{none, keep, comma}
use Rattle.do_tree.proofs.ReprintedScript.{again_script}
use Rattle.do_tree.proofs.Walked.{Walk, cut_utf8, walk}

abbrev is_shallow : Lexeme → Type 0
is_shallow t = t.inside ≤ most_inside

-- as many phrases hold a printed token as held the token
kept_inside : (o : Lexeme) (b : Bare) → Kept o b → o.inside ≡ b.inside
kept_inside o _ (kept_mark e i) = i
kept_inside o _ (kept_key e i) = i
kept_inside o _ (kept_name e t i) = i
kept_inside o _ (kept_any e t i) = i
kept_inside o _ (kept_no_word e t w i) = i
kept_inside o _ (kept_number e n i) = i
kept_inside o _ (kept_text e b i) = i
kept_inside o _ (kept_word_key e b w i) = i

shallow_again : (at : List Bare → ℕ) {ts : List Lexeme} {bs : List Bare} → Respelled ts bs → IsShallow ts → IsShallow (placed at bs)
shallow_again at none h = All-nil is_shallow
shallow_again at (keep {o} {b} {os} {bs} k c r) h =
    All-cons is_shallow (record { kind = b.kind; text = b.text; at = at (b ∷ bs); inside = b.inside }) (placed at bs)
    (subst (λ n. n ≤ most_inside) (kept_inside o b k) (All-head is_shallow o os h)) (shallow_again at r (All-tail is_shallow o os h))
shallow_again at (comma {o} {os} {bs} e c r) h = shallow_again at r (All-tail is_shallow o os h)

module _ (text : List ℕ) (script : Script) (p : IsScriptText text script) where
  walked : Walk text 0 p.tokens
  walked = walk text (cut_utf8 text 0 p.spans p.cut) 0 p.spans p.tokens p.cut p.are

  pub printed_again : (again : Script) × IsScriptText (text_of_script script) again × SameButPlaces again script
  printed_again =
      let printed = text_of_script script in
      let spot = place_in printed in
      let a = again_script spot p.tokens script p.is in
      let bs = a.front.bares in
      let same : printed ≡ text_behind edge.Other (pieces bs) = ap text_of_pieces (sym a.are) in
      let s = sound text 0 walked a.front.like in
      let u : IsUtf8 printed = subst IsUtf8 (sym same) (sound_utf8 edge.Other bs s) in
      let r = recut printed u edge.Other bs s 0 (omega arith) same in
      (a.again, record { spans = r.spans; cut = r.cut; tokens = placed spot bs; are = r.are; shallow = shallow_again spot a.front.like p.shallow; is = a.is }, a.same)

  pub printed_short : length (text_of_script script) ≤ length text
  printed_short =
      let a = again_script (λ _. 0) p.tokens script p.is in
      subst (λ ps. length (text_of_pieces ps) ≤ length text) a.are (no_longer_than text walked a.front.like edge.Other refl)
