-- The text of slots that are printed one after another.
use Rattle.std.proofs.Common.{◌≡◌, ◌<◌, ◌+◌, ℕ, List, [], ◌∷◌, ◌++◌, length, drop, get_or, add-one, Option, refl, sym, ap, subst, ◌∙◌, append_assoc}
use Rattle.std.proofs.lemmas.List.{append-nil}
use Rattle.std.proofs.Math.Seq.{drop-cons}
use Rattle.storage_map.specs.Limits.{Object}
use Rattle.do_host.specs.Dump.{dump_text, slots_text}
use Rattle.do_host.specs.Storage.{Storage}
use Rattle.do_host.specs.Written.{WritesAll, WritesFirstOf}
use Rattle.do_host.proofs.Dumping.{all_none, all_on, front_longer, front_on}

-- The slots below this one were printed, and the text of the others is still to come.
pub record ArePrinted (before after : Option (List ℕ)) (slot : ℕ) (objects : List (Option Object)) (left : List Storage) (all : List ℕ) : Type 0 where
  pub done : List ℕ
  pub split : done ++ slots_text slot (drop slot objects) left ≡ all
  pub written : WritesAll before after done

pub printed_first : (taken : Option (List ℕ)) (objects : List (Option Object)) (ms : List Storage) → ArePrinted taken taken 0 objects ms (slots_text 0 objects ms)
printed_first taken objects ms = record { done = []; split = refl; written = all_none taken }

-- the text from a slot on begins with that of the slot
text_here : (slot : ℕ) (objects : List (Option Object)) (object : Option Object) (m : Storage) (rest : List Storage) → slot < length objects → get_or objects slot object ≡ object
    → slots_text slot (drop slot objects) (m ∷ rest) ≡ dump_text slot object m ++ slots_text (slot + 1) (drop (slot + 1) objects) rest
text_here slot objects object m rest less here =
    let cut : drop slot objects ≡ object ∷ drop (slot + 1) objects = drop-cons objects slot object less ∙ ap (λ (n : ℕ). get_or objects slot object ∷ drop n objects) (sym (add-one slot)) ∙ ap (λ (o : Option Object). o ∷ drop (slot + 1) objects) here in
    ap (λ (os : List (Option Object)). slots_text slot os (m ∷ rest)) cut

module _ (before middle after : Option (List ℕ)) (slot : ℕ) (objects : List (Option Object)) (object : Option Object) (m : Storage) (left rest : List Storage) (all : List ℕ)
    (so_far : ArePrinted before middle slot objects left all) (first : left ≡ m ∷ rest) (less : slot < length objects) (here : get_or objects slot object ≡ object) where
  split_here : (so_far.done ++ dump_text slot object m) ++ slots_text (slot + 1) (drop (slot + 1) objects) rest ≡ all
  split_here =
      append_assoc so_far.done (dump_text slot object m) (slots_text (slot + 1) (drop (slot + 1) objects) rest)
      ∙ ap (λ (text : List ℕ). so_far.done ++ text) (sym (text_here slot objects object m rest less here) ∙ ap (λ (ms : List Storage). slots_text slot (drop slot objects) ms) (sym first))
      ∙ so_far.split

  -- a slot more was printed
  pub printed_slot : WritesAll middle after (dump_text slot object m) → ArePrinted before after (slot + 1) objects rest all
  printed_slot was = record {
    done = so_far.done ++ dump_text slot object m;
    split = split_here;
    written = all_on before middle after so_far.done (dump_text slot object m) so_far.written was;
  }

  -- the first bytes of its text are some of all
  pub part_printed : WritesFirstOf middle after (dump_text slot object m) → WritesFirstOf before after all
  part_printed part =
      subst (λ (text : List ℕ). WritesFirstOf before after text) split_here
      (front_longer before after (so_far.done ++ dump_text slot object m) (slots_text (slot + 1) (drop (slot + 1) objects) rest) (front_on before middle after so_far.done (dump_text slot object m) so_far.written part))

-- without a slot left all was printed
no_text : (slot : ℕ) (objects : List (Option Object)) → slots_text slot objects [] ≡ []
no_text slot [] = refl
no_text slot (object ∷ objects) = refl

pub printed_slots : (before after : Option (List ℕ)) (slot : ℕ) (objects : List (Option Object)) (left : List Storage) (all : List ℕ) → ArePrinted before after slot objects left all → left ≡ [] → WritesAll before after all
printed_slots before after slot objects left all so_far none =
    subst (λ (text : List ℕ). WritesAll before after text)
    (sym (append-nil so_far.done) ∙ ap (λ (text : List ℕ). so_far.done ++ text) (sym (no_text slot (drop slot objects)) ∙ ap (λ (ms : List Storage). slots_text slot (drop slot objects) ms) (sym none)) ∙ so_far.split)
    so_far.written
