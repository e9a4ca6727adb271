-- Keys that are written in parts to a buffer, as far as there is room.
use Rattle.std.proofs.Common.{◌≡◌, ◌<◌, ◌^◌, ◌++◌, ℕ, suc, List, [], ◌∷◌}
use Rattle.std.proofs.Common.{length, refl, ap, ap₂, sym, ◌∙◌, arith}
use Rattle.std.specs.Prelude.{min}
use Rattle.std.proofs.Math.Seq.{drop-nil}
use Rattle.jsonb_comparable.specs.Sink.{length_64}
use Rattle.kohiblad.specs.declared.key_sink.KeyWriter.{KeyWriter}
use Rattle.kohiblad.specs.KeySink.{Continues, HasWritten, copied_at, cut_into}

cut_none : (before : List ℕ) → cut_into [] before ≡ before
cut_none [] = refl
cut_none (b ∷ before) = refl

length-cut : (key before : List ℕ) → length (cut_into key before) ≡ length before
length-cut [] [] = refl
length-cut [] (b ∷ before) = refl
length-cut (k ∷ key) [] = refl
length-cut (k ∷ key) (b ∷ before) = ap suc (length-cut key before)

cut_joined : (key bytes before : List ℕ)
    → copied_at (min (length key) (length before)) bytes (cut_into key before)
    ≡ cut_into (key ++ bytes) before
cut_joined [] bytes before =
    let none : min 0 (length before) ≡ 0 = omega arith in
    ap₂ (λ (k : ℕ) (xs : List ℕ). copied_at k bytes xs) none (cut_none before)
cut_joined (k ∷ key) bytes [] =
    let none : min (suc (length key)) 0 ≡ 0 = omega arith in
    ap (λ (k : ℕ). copied_at k bytes []) none ∙ drop-nil (length bytes)
cut_joined (k ∷ key) bytes (b ∷ before) =
    let less : min (suc (length key)) (suc (length before))
    ≡ suc (min (length key) (length before)) =
    omega arith in
    ap (λ (n : ℕ). copied_at n bytes (k ∷ cut_into key before)) less
    ∙ ap (λ (xs : List ℕ). k ∷ xs) (cut_joined key bytes before)

-- Bytes that come after a key in the buffer.
pub cut_on : (key bytes before out : List ℕ) (start len : ℕ) → length out < 2 ^ 64
    → out ≡ cut_into key before → len ≡ length_64 key → start ≡ min len (length out)
    → copied_at start bytes out ≡ cut_into (key ++ bytes) before
cut_on key bytes before out start len short is counted from =
    let same : length out ≡ length before = ap length is ∙ length-cut key before in
    let place : start ≡ min (length key) (length before) = omega (arith, same) in
    ap₂ (λ (k : ℕ) (xs : List ℕ). copied_at k bytes xs) place is ∙ cut_joined key bytes before

-- A writer at the beginning.
begun : (writer : KeyWriter) → writer.len ≡ 0 → HasWritten [] writer.out.now writer
begun writer none = record { out = sym (cut_none writer.out.now); len = omega (arith, none) }

-- What was written from the beginning on is the whole key.
pub all_written : (key : List ℕ) (old new : KeyWriter) → old.len ≡ 0 → Continues old new key
    → HasWritten key old.out.now new
all_written key old new none more = more.written [] old.out.now (begun old none)
