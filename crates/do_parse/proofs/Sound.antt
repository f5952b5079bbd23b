-- The tokens of a text are sound.
use Rattle.std.proofs.Common.{◌≡◌, ◌+◌, ◌-◌, ◌<◌, ◌≤◌, ℕ, List, [], ◌∷◌, length, get_or, take, drop, map, Option, Some, Ok, Err, ⊎_elim, refl, sym, ◌∙◌, ap, subst, arith, ltb}
use Rattle.std.specs.List.{All, slice_range}
use Rattle.std.specs.Str.Lossy.{utf8_valid_len}
use Rattle.std.proofs.lemmas.List.{drop-drop, length-drop, length-take-le, get_or-drop, get_or-take}
use Rattle.std.proofs.lemmas.List.Elements.{All-nil, All-cons}
use Rattle.do_lex.proofs.Numbers.{gives_number}
use Rattle.do_lex.proofs.Openings.{chosen}
use Rattle.do_lex.proofs.Spans.{IsTokenOf, IsTokenOf-gives}
use Rattle.do_lex.specs.Cursor.{span_of}
use Rattle.do_lex.specs.Cut.{IsCut}
use Rattle.do_value.specs.Limits.{most_number}
use Rattle.do_lex.specs.Lexemes.{IsNumber, number_value}
use Rattle.do_lex.specs.Next.{Answer, Gives, IsNext, reach, unless_malformed}
use Rattle.do_lex.specs.declared.fault.LexFault.{LexFault}
use Rattle.do_lex.specs.declared.fault.LexFault.TheVariants.{BadChar}
use Rattle.do_lex.specs.declared.kind.Kind.TheVariants as kinds
use Rattle.do_lex.specs.declared.pieces.Span.{Span}
use Rattle.do_lex.specs.Limits.{most_script_bytes}
use Rattle.do_lex.specs.declared.tokens.Token.{Token}
use Rattle.do_parse.specs.Cuts.{AreSlices, IsLexed}
use Rattle.do_parse.specs.Sound.{IsSound, AreSound}
use Rattle.do_parse.specs.Taken.{token_next}
use Rattle.do_parse.proofs.Peeking.{split_next}

-- what a script gives, where it is a token
given_is : (text : List ℕ) (given : Answer) (span : Span) → Ok (Some span) ≡ unless_malformed text given → given ≡ Ok (Some span)
given_is text given span h =
    ⊎_elim (λ (_, e). absurd (cc)) (λ (_, e). e)
    (chosen (ltb (utf8_valid_len text) (reach (length text) given)) (Err (BadChar (utf8_valid_len text))) given (Ok (Some span)) (sym h))

-- a slice of the text
slice_len : (text : List ℕ) (a b : ℕ) → a ≤ b → b ≤ length text → length (slice_range text a b) ≡ b - a
slice_len text a b h k = length-take-le (b - a) (drop a text) (omega (arith, h, k, length-drop a text))

slice_at : (text : List ℕ) (a b k : ℕ) → k < b - a → get_or (slice_range text a b) k 0 ≡ get_or text (a + k) 0
slice_at text a b k h = get_or-take (b - a) (drop a text) k 0 h ∙ get_or-drop a text k 0

number_slice : (text : List ℕ) (at a b before n : ℕ) → a ≡ at + before → b ≡ at + before + n → take n (drop before (drop at text)) ≡ slice_range text a b
number_slice text at a b before n h k =
    let len : n ≡ b - a = omega (arith, h, k) in
    ap (λ xs. take n xs) (drop-drop before at text) ∙ (λ i. take (len i) (drop (sym h i) text))

-- A token, with its place.
record SoundAt (text : List ℕ) (at : ℕ) (t : Token) : Type 0 where
  sound : IsSound t
  behind : at ≤ t.at
  some : t.at < t.end
  within : t.end ≤ length text

sound_at : (text : List ℕ) (at : ℕ) (t : Token) → length text ≤ most_script_bytes → at ≤ length text → IsNext text at (Ok (Some (span_of t))) → t.text.now ≡ slice_range text t.at t.end → SoundAt text at t
sound_at text at t small in_range n slice =
    let g : Gives (drop at text) at (Ok (Some (span_of t))) = subst (λ a. Gives (drop at text) at a) (given_is text n.given (span_of t) n.answer_is) n.gives in
    let w = IsTokenOf-gives text at (span_of t) in_range g in
    let len = slice_len text t.at t.end (omega (arith, w.some)) w.within in
    let zeroed : t.at + 0 ≡ t.at = omega arith in
    let final : t.at + (t.end - t.at - 1) ≡ t.end - 1 = omega (arith, w.some) in
    let number = λ (k : t.kind ≡ kinds.Number). gives_number (drop at text) at (Ok (Some (span_of t))) g (span_of t) refl k in
    record {
      sound = record {
        short = subst (λ (xs : List ℕ). length xs ≤ most_script_bytes) (sym slice) (omega (arith, len, small, w.within));
        first = subst (λ (xs : List ℕ). get_or xs 0 0 < 128) (sym slice)
            (subst (λ b. b < 128) (sym (slice_at text t.at t.end 0 (omega (arith, w.some)))) (subst (λ i. get_or text i 0 < 128) (sym zeroed) w.first));
        last = subst (λ (xs : List ℕ). get_or xs (length xs - 1) 0 < 128) (sym slice)
            (subst (λ m. get_or (slice_range text t.at t.end) (m - 1) 0 < 128) (sym len)
            (subst (λ b. b < 128) (sym (slice_at text t.at t.end (t.end - t.at - 1) (omega (arith, w.some)))) (subst (λ i. get_or text i 0 < 128) (sym final) w.last)));
        number = λ k. subst (λ xs. IsNumber xs) (number_slice text at t.at t.end (number k).before (number k).n (number k).start (number k).stop ∙ sym slice) (number k).number;
        small = λ k. subst (λ xs. number_value xs ≤ most_number) (number_slice text at t.at t.end (number k).before (number k).n (number k).start (number k).stop ∙ sym slice) (number k).small;
      };
      behind = w.behind;
      some = w.some;
      within = w.within;
    }

-- all tokens from a place on
record SoundFrom (text : List ℕ) (at : ℕ) (ts : List Token) : Type 0 where
  each : All IsSound ts
  few : at + length ts ≤ length text

sound_from : (text : List ℕ) (at : ℕ) (ts : List Token) (last : Option LexFault) → length text ≤ most_script_bytes → at ≤ length text → IsCut text at (map span_of ts) last → AreSlices text ts → SoundFrom text at ts
sound_from text at [] last small in_range cut slices = record { each = All-nil IsSound; few = omega (arith, in_range) }
sound_from text at (t ∷ ts) last small in_range cut slices =
    let one = sound_at text at t small in_range cut.0 slices.0 in
    let rest = sound_from text t.end ts last small one.within cut.1 slices.1 in
    record { each = All-cons IsSound t ts one.sound rest.each; few = omega (arith, one.behind, one.some, rest.few) }

pub lexed_sound : (text : List ℕ) (ts : List Token) (last : Option LexFault) → length text ≤ most_script_bytes → IsLexed text ts last → AreSound ts
lexed_sound text ts last small l =
    let s = sound_from text 0 ts last small (omega arith) l.cut l.slices in
    record { each = s.each; few = omega (arith, s.few, small) }

-- The tokens that are left are sound, and so is the next one.
pub left_sound : (k : ℕ) (ts : List Token) → AreSound ts → AreSound (drop k ts)
left_sound k ts s = record {
  each = λ i d l. subst (λ t. IsSound t) (sym (get_or-drop k ts i d)) (s.each (k + i) d (omega (arith, l, length-drop k ts)));
  few = omega (arith, s.few, length-drop k ts);
}

pub first_sound : (old new : List Token) (t : Token) → AreSound old → old ≡ t ∷ new → IsSound t
first_sound old new t s h = let n : AreSound (t ∷ new) = subst (λ ts. AreSound ts) h s in n.each 0 t (omega arith)

pub next_sound : (now : List Token) (t : Token) → AreSound now → token_next now ≡ Some t → IsSound t
next_sound now t s h = first_sound now (drop 1 now) t s (split_next now t h)
