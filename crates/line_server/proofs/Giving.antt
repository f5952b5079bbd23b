-- What a reader gives to a line.
use Rattle.std.proofs.Common.{◌≡◌, ◌<◌, ◌≤◌, ◌+◌, ℕ, List, [], ◌∷◌, ◌++◌, length, take, drop, Option, Some, false, true, refl, sym, ap, ◌∙◌, arith, append_assoc}
use Rattle.std.proofs.lemmas.List.{length-take-le, take-append-drop}
use Rattle.line_server.specs.Cut.{line_end}
use Rattle.line_server.specs.Front.{IsFront}
use Rattle.line_server.specs.Given.{AddsTo, Gives, IsAtEnd}
use Rattle.line_server.specs.Raw.{IsRaw}
use Rattle.line_server.specs.declared.bytes.Bytes.{Bytes}
use Rattle.line_server.specs.declared.bytes.Given.TheVariants as given
use Rattle.line_server.specs.declared.front.Front.TheVariants.{Whole, Part}
use Rattle.line_server.specs.declared.raw_line.RawLine.{RawLine}
use Rattle.line_server.proofs.Reading.{given_held}
use Rattle.line_server.proofs.Taking.{gives_on}

module _ {S : Type 0} (left : S → Option (List ℕ)) where
  -- bytes that are held are given with nothing read
  gives_held : (mid new : Bytes S) (bytes : List ℕ) → new.source ≡ mid.source → mid.buffer ≡ bytes ++ new.buffer → Gives left mid new bytes
  gives_held mid new bytes source split = λ before told. given_held before mid.buffer bytes new.buffer (left new.source) (ap left source ∙ told) split

  -- all up to an LF
  pub adds_rest : (old mid new : Bytes S) (raw more : RawLine) (most n : ℕ) → Gives left old mid [] → IsFront mid.buffer most (Whole n) → new.source ≡ mid.source → new.buffer ≡ drop (n + 1) mid.buffer → new.ended ≡ false
      → more.length ≡ raw.length + length (take n mid.buffer) → ((line : List ℕ) → IsRaw line raw → IsRaw (line ++ take n mid.buffer) more) → AddsTo left old new raw more most given.Rest
  adds_rest old mid new raw more most n first front source rest going long add =
      let split : mid.buffer ≡ (take n mid.buffer ++ line_end ∷ []) ++ new.buffer =
      front.3 ∙ ap (λ r. take n mid.buffer ++ line_end ∷ r) (sym rest) ∙ sym (append_assoc (take n mid.buffer) (line_end ∷ []) new.buffer) in (
        take n mid.buffer,
        record { no_end = front.2; length_is = long; more = add },
        omega (arith, front.0, length-take-le n mid.buffer (omega (arith, front.1))),
        gives_on left old mid new [] (take n mid.buffer ++ line_end ∷ []) first (gives_held mid new (take n mid.buffer ++ line_end ∷ []) source split),
        going,
      )

  -- some bytes
  pub adds_part : (old mid new : Bytes S) (raw more : RawLine) (most n : ℕ) → Gives left old mid [] → IsFront mid.buffer most (Part n) → new.source ≡ mid.source → new.buffer ≡ drop n mid.buffer → new.ended ≡ false
      → more.length ≡ raw.length + length (take n mid.buffer) → ((line : List ℕ) → IsRaw line raw → IsRaw (line ++ take n mid.buffer) more) → AddsTo left old new raw more most given.Part
  adds_part old mid new raw more most n first front source rest going long add =
      let split : mid.buffer ≡ take n mid.buffer ++ new.buffer = sym (take-append-drop n mid.buffer) ∙ ap (λ r. take n mid.buffer ++ r) (sym rest) in (
        take n mid.buffer,
        record { no_end = front.3; length_is = long; more = add },
        omega (arith, front.0, length-take-le n mid.buffer front.2),
        omega (arith, front.1, length-take-le n mid.buffer front.2),
        gives_on left old mid new [] (take n mid.buffer) first (gives_held mid new (take n mid.buffer) source split),
        going,
      )
