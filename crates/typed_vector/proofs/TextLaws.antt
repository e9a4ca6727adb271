-- The values of rows that have texts are UTF-8.
use Rattle.std.proofs.Common.{◌≡◌, ℕ, Bool, true, false, List, [], ◌∷◌, length, sym, subst, arith}
use Rattle.std.specs.Prelude.{All}
use Rattle.std.specs.List.{AllZip}
use Rattle.std.specs.Str.{IsUtf8}
use Rattle.std.proofs.lemmas.List.Elements.{All-cons, All-head, All-nil, All-tail}
use Rattle.std.proofs.lemmas.Str.{IsUtf8-nil}
use Rattle.typed_vector.specs.Binaries.{IsBlankUnlessSet}
use Rattle.typed_vector.specs.Cells.{cell, cells}
use Rattle.typed_vector.specs.Texts.{HoldsText}

utf8_value : (v : List ℕ) (is : Bool) (rest : List ℕ) → IsBlankUnlessSet v is
    → HoldsText (cell v is rest) → IsUtf8 v
utf8_value v true rest blank held = held
utf8_value v false rest blank held = subst IsUtf8 (sym blank) IsUtf8-nil

pub utf8_values : (vs : List (List ℕ)) (bs : List Bool) (rests : List (List ℕ))
    → length rests ≡ length vs → AllZip IsBlankUnlessSet vs bs
    → All HoldsText (cells vs bs rests) → All IsUtf8 vs
utf8_values [] bs rests counted blank held = All-nil IsUtf8
utf8_values (v ∷ vs) [] rests counted blank held = absurd blank
utf8_values (v ∷ vs) (b ∷ bs) [] counted blank held = absurd (omega (arith, counted))
utf8_values (v ∷ vs) (b ∷ bs) (r ∷ rests) counted blank held =
    All-cons IsUtf8 v vs
    (utf8_value v b r blank.0 (All-head HoldsText (cell v b r) (cells vs bs rests) held))
    (utf8_values vs bs rests (omega (arith, counted)) blank.1
    (All-tail HoldsText (cell v b r) (cells vs bs rests) held))
