-- What is built means what its items mean, up to signed zeros.
use Rattle.std.proofs.Common.{◌≡◌, ℕ, List, [], ◌∷◌, Some, None, true, false, refl, sym}
use Rattle.std.proofs.Common.{ap, ◌∙◌}
use Rattle.std.specs.Map.{keys_of, values_of}
use Rattle.std.proofs.Common.{zero, suc, pos, negsuc}
use Rattle.jsonb_value.specs.declared.number.Number.{Number}
use Rattle.jsonb_value.specs.declared.number.Number.TheVariants.{Int64, UInt64, Decimal64}
use Rattle.jsonb_value.specs.declared.number.Number.TheVariants.{Decimal128}
use Rattle.jsonb_value.specs.Tree.{Tree, Trees, no_trees, tree, Pairs, no_pairs, pair}
use Rattle.jsonb_value.specs.Tree as trees
use Rattle.jsonb_value.specs.Norm.{norm_number, norm, norms, norm_pairs}
use Rattle.jsonb_value.proofs.PayloadLaws.{NumCode-number_payload, ExtCode-extension_payload}
use Rattle.jsonb.specs.ItemView.{ItemView, null, boolean, number, text, extension, raw, owned}
use Rattle.jsonb.specs.Entry.{Code}
use Rattle.jsonb.specs.Code.{ItemMeans}
use Rattle.jsonb.specs.Storage.{entry_of_item, codes_of, IsStored, IsHeld, AreStorable, AreHeld}
use Rattle.jsonb.specs.Building.{AreKeys, IsArrayOf, IsObjectOf}
use Rattle.jsonb.specs.Results.{AllMean, AllMeanAt, IsArrayUpToZeros, IsObjectUpToZeros}
use Rattle.jsonb.proofs.StorageLaws.{codes_of-AreCodes}
use Rattle.jsonb.proofs.StorageLaws.{AreStorable-FitArray}
use Rattle.jsonb.specs.StoredEntries.{AreCodesOf, AreMemberEntriesOf}
use Rattle.jsonb.proofs.ResultLaws.{IsCodeOf, IsCodeOf-document_code, Doc-IsArrayOf}
use Rattle.jsonb.proofs.ResultObjects.{Doc-IsObjectOf}

norm_number-norm_number : (x : Number) → norm_number (norm_number x) ≡ norm_number x
norm_number-norm_number (Int64 (pos zero)) = refl
norm_number-norm_number (Int64 (pos (suc n))) = refl
norm_number-norm_number (Int64 (negsuc n)) = refl
norm_number-norm_number (UInt64 n) = refl
norm_number-norm_number (Decimal64 d) = refl
norm_number-norm_number (Decimal128 d) = refl

-- the entry means the tree, up to signed zeros
abbrev MeansUpToZeros : Code → Tree → Type 0
MeansUpToZeros c t = (u : Tree) × (IsCodeOf c u × (norm u ≡ norm t))

-- The entry of an item means what the item means.
code_meaning : (x : ItemView) → IsStored x → IsHeld x → (t : Tree) → ItemMeans x t
    → MeansUpToZeros (entry_of_item x) t
code_meaning null stored held t h = (trees.null, ((refl, refl), cc h))
code_meaning (boolean true) stored held t h = (trees.boolean true, ((refl, refl), cc h))
code_meaning (boolean false) stored held t h =
    (trees.boolean false, ((refl, refl), cc h))
code_meaning (number None x) stored held t h = (
  trees.number (norm_number x),
  (
    (refl, NumCode-number_payload x held),
    ap trees.number (norm_number-norm_number x)
        ∙ ap norm (sym h),
  ),
)
code_meaning (number (Some p) x) stored held t h = (trees.number x, ((refl, held), cc h))
code_meaning (text s) stored held t h = (trees.text s, ((refl, (refl, held)), cc h))
code_meaning (extension None e) stored held t h =
    (trees.extension e, ((refl, ExtCode-extension_payload e held), cc h))
code_meaning (extension (Some p) e) stored held t h =
    (trees.extension e, ((refl, held), cc h))
code_meaning (raw b) stored held t h = (t, (IsCodeOf-document_code b t h, refl))
code_meaning (owned b) stored held t h = (t, (IsCodeOf-document_code b t h, refl))

codes_meaning : (xs : List ItemView) → AreStorable xs → AreHeld xs → (ts : Trees) → AllMean xs ts
    → (us : Trees) × (AreCodesOf (codes_of xs) us × (norms us ≡ norms ts))
codes_meaning [] storable held ts h = (no_trees, (refl, cc h))
codes_meaning (x ∷ xs) storable held no_trees h = absurd h
codes_meaning (x ∷ xs) storable held (tree t ts) h =
    let here = code_meaning x storable.0.0 held.0 t h.0 in
    let more = codes_meaning xs storable.1 held.1 ts h.1 in (
      tree here.0 more.0,
      ((here.1.0, more.1.0), cc (here.1.1, more.1.1)),
    )

-- The array built from items means what they mean, up to signed zeros.
pub IsArrayUpToZeros-IsArrayOf : (xs : List ItemView) (bytes : List ℕ) → IsArrayOf xs bytes
    → AreHeld xs → (ts : Trees) → AllMean xs ts → IsArrayUpToZeros ts bytes
IsArrayUpToZeros-IsArrayOf xs bytes h held ts mean =
    let fit = AreStorable-FitArray xs h.fit in
    let means = codes_meaning xs fit.0 held ts mean in
    record {
      stored = means.0;
      document = Doc-IsArrayOf xs bytes h means.0 means.1.0;
      same = means.1.1;
    }

pairs_meaning : (qs : List (List ℕ × ItemView)) → AreStorable (values_of qs)
    → AreHeld (values_of qs) → (ps : Pairs) → AllMeanAt qs ps
    → (us : Pairs)
    × (AreMemberEntriesOf (keys_of qs) (codes_of (values_of qs)) us
    × (norm_pairs us ≡ norm_pairs ps))
pairs_meaning [] storable held ps h = (no_pairs, (refl, cc h))
pairs_meaning (q ∷ qs) storable held no_pairs h = absurd h
pairs_meaning (q ∷ qs) storable held (pair k t ps) h =
    let here = code_meaning q.1 storable.0.0 held.0 t h.1.0 in
    let more = pairs_meaning qs storable.1 held.1 ps h.1.1 in (
      pair k here.0 more.0,
      (
        (h.0, (here.1.0, more.1.0)),
        cc (here.1.1, more.1.1),
      ),
    )

-- The object built from items at keys means what they mean, up to signed zeros.
pub IsObjectUpToZeros-IsObjectOf : (qs : List (List ℕ × ItemView)) (bytes : List ℕ)
    → IsObjectOf qs bytes → AreKeys (keys_of qs) → AreHeld (values_of qs) → (ps : Pairs)
    → AllMeanAt qs ps → IsObjectUpToZeros ps bytes
IsObjectUpToZeros-IsObjectOf qs bytes h keys held ps mean =
    let codes = codes_of-AreCodes (values_of qs) h.fit.codes h.fit.are h.fit.short in
    let means = pairs_meaning qs codes.1 held ps mean in
    record {
      stored = means.0;
      document = Doc-IsObjectOf qs bytes h keys means.0 means.1.0;
      same = means.1.1;
    }
