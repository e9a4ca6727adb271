-- Where the scan is in the bytes of a text, and where it stops.
use Rattle.std.proofs.Common.{◌≡◌, ◌↔◌, ℕ, ◌+◌, ◌<◌, refl, sym, ap, ◌∙◌, subst, arith}
use Rattle.std.proofs.Common.{List, [], ◌∷◌, ◌++◌, length, length-append, append-nil, chars, take}
use Rattle.std.proofs.Common.{Option, Some, None, ◌^◌, IsCharBoundary}
use Rattle.std.specs.Prelude.{IsUtf8, encode_utf8, encode_utf8_all}
use Rattle.std.proofs.lemmas.List.{append_cancel_right, take_at}
use Rattle.std.proofs.lemmas.Str.{encodes-chars, encodes-append, length-le-encodes, chars-append}
use Rattle.std.proofs.lemmas.Str.{chars_past_char, chars-nil, IsUtf8-past_char, IsUtf8-take}
use Rattle.std.proofs.lemmas.Str.{IsCharBoundary-at_seam}
use Rattle.jsonb_value.specs.declared.parser.number.Exponents.{Exponents}
use Rattle.jsonb_value.proofs.Json.Tests.{some_same, no_error}
use Rattle.json_fault.specs.declared.expected.Bracket.{Bracket}
use Rattle.json_fault.specs.declared.expected.Expected.{Expected}
use Rattle.json_fault.specs.declared.expected.Expected.TheVariants.{Value}
use Rattle.json_fault.specs.declared.fault.FaultReason.TheVariants.{Number}
use Rattle.json_fault.specs.Scan.{Move, changed, innermost_bracket, followed, scale_of, reason_at}
use Rattle.json_fault.specs.Fault.{EndsInNumber, IsFault}
use Rattle.json_fault.specs.Stop.{IsStop}
use Rattle.json_fault.proofs.Scanning.{IsReached, begun, moved, ended, stopped, next_comes}
use Rattle.json_fault.proofs.Stopping.{reason_is}

length_zero : (s : List ℕ) → length s ≡ 0 → s ≡ []
length_zero [] e = refl
length_zero (c ∷ s) e = absurd (let h : ⊥ = cc in h)

-- The scan of the text has come to this rest, from this offset on.
pub record IsAt (rule : Exponents) (text rest : List ℕ) (offset : ℕ) (e : Expected)
    (bs : List Bracket) : Type 0 where
  pub is_utf8 : IsUtf8 rest
  pub front : List ℕ
  pub reached : IsReached rule (chars text) front (chars rest) e bs
  pub is_offset : offset ≡ length (encode_utf8_all front)

module _ (rule : Exponents) (text : List ℕ) where
  pub at_first : (rest : List ℕ) (offset : ℕ) → IsUtf8 text → rest ≡ text → offset ≡ 0
      → IsAt rule text rest offset Value []
  at_first rest offset whole same none = record {
    is_utf8 = subst IsUtf8 (sym same) whole;
    front = [];
    reached = begun rule (chars text) (chars rest) (ap chars (sym same));
    is_offset = none;
  }

  pub at_next : (rest after : List ℕ) (offset further : ℕ) (e : Expected) (bs : List Bracket)
      (m : Move) (c : ℕ) → IsAt rule text rest offset e bs → rest ≡ encode_utf8 c ++ after
      → further ≡ offset + length (encode_utf8 c)
      → followed rule e (innermost_bracket bs) c ≡ Some m
      → IsAt rule text after further m.0 (changed m.1 bs)
  at_next rest after offset further e bs m c at cut moves is =
      let front = at.front in
      let size = ap length (encodes-append front (c ∷ [])) in
      let sum = length-append (encode_utf8_all front) (encode_utf8_all (c ∷ [])) in
      let one = length-append (encode_utf8 c) [] in
      let here = at.is_offset in
      record {
        is_utf8 = IsUtf8-past_char rest after c at.is_utf8 cut;
        front = front ++ c ∷ [];
        reached = moved rule m at.reached (chars_past_char rest after c at.is_utf8 cut) is;
        is_offset = omega arith;
      }

  -- the count of a number's fraction digits is below the length of the text
  pub count_within : (rest after : List ℕ) (offset most : ℕ) (e : Expected) (bs : List Bracket)
      (c : ℕ) → IsAt rule text rest offset e bs → rest ≡ encode_utf8 c ++ after
      → offset + length rest < most → scale_of e + 1 < most
  count_within rest after offset most e bs c at cut small =
      let counted = at.reached.sound.counted in
      let bytes = length-le-encodes at.front in
      let here = at.is_offset in
      let size = ap length cut ∙ length-append (encode_utf8 c) after in
      let one = length-le-encodes (c ∷ []) in
      let sum = length-append (encode_utf8 c) [] in
      omega arith

  -- the text may be cut at the scan's place
  cut_here : (rest : List ℕ) (offset : ℕ) (e : Expected) (bs : List Bracket) → IsUtf8 text
      → (at : IsAt rule text rest offset e bs)
      → IsCharBoundary text offset × (chars (take offset text) ≡ at.front)
  cut_here rest offset e bs whole at =
      let bytes = encode_utf8_all at.front in
      let same : text ≡ bytes ++ rest =
      sym (encodes-chars text whole) ∙ ap encode_utf8_all at.reached.is_split
      ∙ encodes-append at.front (chars rest)
      ∙ ap (λ r. bytes ++ r) (encodes-chars rest at.is_utf8) in
      let cut : IsCharBoundary text offset =
      subst (IsCharBoundary text) (sym at.is_offset)
      (IsCharBoundary-at_seam text bytes rest same at.is_utf8) in
      let taken : take offset text ≡ bytes =
      ap (take offset) same ∙ take_at bytes rest offset (sym at.is_offset) in
      let utf8 : IsUtf8 bytes = subst IsUtf8 taken (IsUtf8-take text offset whole cut) in (
        cut,
        ap chars taken ∙ append_cancel_right (chars bytes) at.front (chars rest)
            (sym (chars-append bytes rest utf8) ∙ ap chars (sym same) ∙ at.reached.is_split),
      )

  -- the scan stops for this reason
  stops : (rest : List ℕ) (offset : ℕ) (e : Expected) (bs : List Bracket) (o : Option ℕ)
      → IsUtf8 text → (at : IsAt rule text rest offset e bs) → IsFault rule at.front (chars rest)
      → (reason_at e o ≡ Number) ↔ EndsInNumber rule at.front (chars rest)
      → scale_of e + 1 < 2 ^ 64
      → IsStop rule text (record {
        offset = offset;
        next = record { exponents = rule; expected = e; top = innermost_bracket bs };
        character = o;
      })
  stops rest offset e bs o whole at fault reason small =
      let cut = cut_here rest offset e bs whole at in
      record {
        front = at.front;
        back = chars rest;
        is_split = at.reached.is_split;
        is_fault = fault;
        is_offset = at.is_offset;
        is_reason = reason;
        is_next = next_comes rule at.reached;
        is_small = small;
        is_cut = cut.0;
        is_front = cut.1;
      }

  -- the next character may not come
  pub stops_here : (rest after : List ℕ) (offset : ℕ) (e : Expected) (bs : List Bracket) (c : ℕ)
      → IsUtf8 text → IsAt rule text rest offset e bs → rest ≡ encode_utf8 c ++ after
      → followed rule e (innermost_bracket bs) c ≡ None → scale_of e + 1 < 2 ^ 64
      → IsStop rule text (record {
        offset = offset;
        next = record { exponents = rule; expected = e; top = innermost_bracket bs };
        character = Some c;
      })
  stops_here rest after offset e bs c whole at cut none small =
      let next = chars_past_char rest after c at.is_utf8 cut in
      stops rest offset e bs (Some c) whole at (stopped rule at.reached next none)
      (reason_is rule at.reached (Some c) (chars after, next) (λ d is.
      subst (λ (x : ℕ). followed rule e (innermost_bracket bs) x ≡ None) (some_same c d is) none))
      small

  -- the text ends here
  pub stops_at_end : (rest : List ℕ) (offset : ℕ) (e : Expected) (bs : List Bracket)
      → IsUtf8 text → IsAt rule text rest offset e bs → length rest ≡ 0
      → length text + 1 < 2 ^ 64
      → IsStop rule text (record {
        offset = length text;
        next = record { exponents = rule; expected = e; top = innermost_bracket bs };
        character = None;
      })
  stops_at_end rest offset e bs whole at none most =
      let nothing : chars rest ≡ [] = ap chars (length_zero rest none) ∙ chars-nil in
      let all : chars text ≡ at.front =
      at.reached.is_split ∙ ap (λ s. at.front ++ s) nothing ∙ append-nil at.front in
      let end : offset ≡ length text =
      at.is_offset
      ∙ ap length (ap encode_utf8_all (sym all) ∙ encodes-chars text whole) in
      let counted = at.reached.sound.counted in
      let bytes = length-le-encodes at.front in
      let here = at.is_offset in
      subst (λ (n : ℕ). IsStop rule text (record {
        offset = n;
        next = record { exponents = rule; expected = e; top = innermost_bracket bs };
        character = None;
      })) end
      (stops rest offset e bs None whole at (ended rule at.reached nothing)
      (reason_is rule at.reached None nothing (λ d is. no_error is)) (omega arith))
