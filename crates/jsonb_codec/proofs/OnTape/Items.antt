-- One more value in an array.
use Rattle.std.proofs.Common.{◌≡◌, ℕ, suc, ◌+◌, ◌<◌, ◌%◌, ◌^◌, refl, sym, ap, subst, ◌∙◌, List, []}
use Rattle.std.proofs.Common.{◌∷◌, ◌++◌}
use Rattle.std.proofs.Common.{length, arith, length-append}
use Rattle.std.proofs.lemmas.List.{append_assoc, append-nil}
use Rattle.jsonb_value.specs.Tree.{Tree}
use Rattle.jsonb_value.specs.Value.{trees_of}
use Rattle.jsonb_value.specs.WellFormed.{IsTree, AreTrees}
use Rattle.jsonb_codec.specs.WordBytes.{word}
use Rattle.jsonb_codec.specs.Shape.{AllFit, FitsInside, entries, payloads, shape_count, shape_type}
use Rattle.jsonb_codec.specs.Canon.{shape_of, payload_of}
use Rattle.jsonb_codec.specs.Tape.{shapes_of}
use Rattle.jsonb_codec.proofs.Entries.{IsType, IsType-type_of, same_entry}
use Rattle.jsonb_codec.proofs.TreeShapes.{type_of-shape_of}
use Rattle.jsonb_codec.proofs.Words.{length-word-append, same_words}

pub entries_snoc : (ts : List Tree) (t : Tree) → entries (shapes_of (ts ++ t ∷ []))
    ≡ entries (shapes_of ts) ++ word (shape_type (shape_of t) + length (payload_of t))
entries_snoc [] t = append-nil (word (shape_type (shape_of t) + length (payload_of t)))
entries_snoc (u ∷ ts) t =
    ap (λ x. word (shape_type (shape_of u) + length (payload_of u)) ++ x) (entries_snoc ts t)
    ∙ sym (append_assoc (word (shape_type (shape_of u) + length (payload_of u)))
    (entries (shapes_of ts)) (word (shape_type (shape_of t) + length (payload_of t))))

pub payloads_snoc : (ts : List Tree) (t : Tree) → payloads (shapes_of (ts ++ t ∷ []))
    ≡ payloads (shapes_of ts) ++ payload_of t
payloads_snoc [] t = append-nil (payload_of t)
payloads_snoc (u ∷ ts) t =
    ap (λ x. payload_of u ++ x) (payloads_snoc ts t)
    ∙ sym (append_assoc (payload_of u) (payloads (shapes_of ts)) (payload_of t))

pub fit_snoc : (ts : List Tree) (t : Tree) → AllFit (shapes_of ts) → FitsInside (shape_of t)
    → length (payload_of t) < 2 ^ 28 → AllFit (shapes_of (ts ++ t ∷ []))
fit_snoc [] t h inside short = ((omega arith, (inside, short)), tt)
fit_snoc (u ∷ ts) t h inside short = (h.0, fit_snoc ts t h.1 inside short)

pub all_fit_front : (ts : List Tree) (t : Tree) → AllFit (shapes_of (ts ++ t ∷ []))
    → AllFit (shapes_of ts)
all_fit_front [] t h = tt
all_fit_front (u ∷ ts) t h = (h.0, all_fit_front ts t h.1)

pub count_items : (ts : List Tree) → shape_count (shapes_of ts) ≡ length ts
count_items [] = refl
count_items (t ∷ ts) = ap suc (count_items ts)

pub fit_last : (ts : List Tree) (t : Tree) → AllFit (shapes_of (ts ++ t ∷ []))
    → FitsInside (shape_of t) × (length (payload_of t) < 2 ^ 28)
fit_last [] t h = h.0.1
fit_last (u ∷ ts) t h = fit_last ts t h.1

pub trees_snoc : (ts : List Tree) (t : Tree) → AreTrees (trees_of ts) → IsTree t
    → AreTrees (trees_of (ts ++ t ∷ []))
trees_snoc [] t h is = (is, tt)
trees_snoc (u ∷ ts) t h is = (h.0, trees_snoc ts t h.1 is)

-- ---- the sizes in entry words

-- the entry words after the first, which has the size of its payload
pub record NextSize (ts : List Tree) (words : List ℕ) (n : ℕ) : Type 0 where
  pub rest : List Tree
  pub fit : AllFit (shapes_of rest)
  pub is : words ≡ entries (shapes_of rest)
  pub sized : length (payloads (shapes_of ts)) ≡ n + length (payloads (shapes_of rest))

pub next_size : (ts : List Tree) (left words : List ℕ) (tag n : ℕ) → AllFit (shapes_of ts)
    → left ≡ entries (shapes_of ts) → left ≡ word (tag + n) ++ words → tag % 2 ^ 28 ≡ 0
    → n < 2 ^ 28 → tag + n < 2 ^ 32 → NextSize ts words n
next_size [] left words tag n fit is found high short small =
    absurd (omega (arith, ap length is, ap length found, length-word-append (tag + n) words))
next_size (t ∷ ts) left words tag n fit is found high short small =
    let type : IsType (shape_type (shape_of t)) = subst IsType (sym (type_of-shape_of t))
    (IsType-type_of t) in
    let same = same_words {k = tag + n} {l = shape_type (shape_of t) + length (payload_of t)}
    {x = words} {y = entries (shapes_of ts)} small (omega (arith, type.room, fit.0.1.1))
    (sym found ∙ is) in
    let tagged : IsType tag = record { high = high; room = omega (arith, high, small) } in
    let sizes = same_entry {t = tag} {u = shape_type (shape_of t)} {m = n} {n = length
    (payload_of t)}
    tagged type short fit.0.1.1 same.0 in
    record {
      rest = ts;
      fit = fit.1;
      is = same.1;
      sized = omega (arith, sizes.1, length-append (payload_of t) (payloads (shapes_of ts)));
    }

pub no_size : (ts : List Tree) (left : List ℕ) → left ≡ entries (shapes_of ts) → length left < 4
    → length (payloads (shapes_of ts)) ≡ 0
no_size [] left is few = refl
no_size (t ∷ ts) left is few = absurd (omega (
  arith,
  few,
  ap length is,
  length-word-append (shape_type (shape_of t) + length (payload_of t)) (entries (shapes_of ts)),
))
