-- Why a text gives no document; and a document is as deep as the tree of its text.
use Rattle.std.proofs.Common.{◌≡◌, ◌⊎◌, ◌↔◌, ℕ, suc, ◌<◌, ◌≤◌, refl, ap, sym, subst, inl, inr}
use Rattle.std.proofs.Common.{List, chars, Result, Ok, Err, arith, ◌∙◌}
use Rattle.jsonb_value.specs.declared.error.Error.{Error}
use Rattle.jsonb_value.specs.declared.error.Error.TheVariants.{InvalidJson, InvalidJsonb}
use Rattle.jsonb_value.specs.declared.error.Error.TheVariants.{OutOfMemory}
use Rattle.jsonb_value.specs.declared.within.ParseError.{ParseError}
use Rattle.jsonb_value.specs.declared.within.ParseError.TheVariants.{Refused, TooDeep}
use Rattle.jsonb_value.specs.Depth.{depth, depths, pair_depths}
use Rattle.jsonb_value.specs.Norm.{norm, norms, norm_pairs}
use Rattle.jsonb_value.specs.Tree as trees
use Rattle.jsonb_value.specs.Tree.{Tree, null, boolean, number, extension, array, object}
use Rattle.jsonb_value.specs.Tree.{Trees, no_trees, tree, Pairs, no_pairs, pair}
use Rattle.jsonb_value.specs.declared.parser.number.Exponents.{Exponents}
use Rattle.jsonb_value.specs.declared.parser.number.Exponents.TheVariants.{Forbidden}
use Rattle.jsonb_value.specs.Json.Syntax.{JsonText}
use Rattle.jsonb_value.specs.TextDepth.{text_depth, HasDepthOfSpelled}
use Rattle.jsonb_value.specs.Plain.{IsPlain}
use Rattle.jsonb_value.specs.Text.{in_one_line, on_lines}
use Rattle.jsonb_value.proofs.DepthLaws.{failed, spelled_within}
use Rattle.jsonb_value.proofs.Json.SpelledLaws.{same_meaning}
use Rattle.jsonb_value.proofs.KindLaws.{tree_cmp-norm}
use Rattle.jsonb_value.proofs.NormTexts.{laid_out-norm}
use Rattle.jsonb_value.specs.WellFormed.{IsTree}
use Rattle.jsonb_codec.specs.Canon.{canon, Fits}
use Rattle.jsonb_codec.specs.Depth.{IsDocumentWithin}
use Rattle.jsonb_codec.specs.Doc.{Doc}
use Rattle.jsonb_codec.specs.Reread.{MeansAgain}
use Rattle.jsonb_codec.proofs.CanonLaws.{Doc-canon}
use Rattle.jsonb_codec.proofs.RereadLaws.{reread_text}
use Rattle.jsonb.specs.Parsing.{GivesEqual, IsParsedUnder, IsReadAgain, IsTextOf, ParsesTo}
use Rattle.jsonb.specs.Parsing.{ParsesUnder, ParsesUnderWithin}
use Rattle.jsonb.proofs.TextLaws.{display_text-Doc, pretty_display_text-Doc}

-- a text that gives no document
pub refused : (rule : Exponents) (text : List ℕ) (e : Error)
    → (e ≡ InvalidJson → (t : Tree) → JsonText rule (chars text) t → ⊥)
    → (e ≡ InvalidJsonb → (t : Tree) × (JsonText rule (chars text) t × (Fits t → ⊥)))
    → (e ≡ InvalidJson) ⊎ ((e ≡ InvalidJsonb) ⊎ (e ≡ OutOfMemory)) → ParsesUnder rule text (Err e)
refused rule text e invalid past (inl is) =
    subst (λ (x : Error). ParsesUnder rule text (Err x)) (sym is) (invalid is)
refused rule text e invalid past (inr (inl is)) =
    subst (λ (x : Error). ParsesUnder rule text (Err x)) (sym is) (past is)
refused rule text e invalid past (inr (inr is)) =
    subst (λ (x : Error). ParsesUnder rule text (Err x)) (sym is) tt

abbrev pub made : (A : Type 0) → A → Result A ParseError
made A a = Ok a

-- a refusal for another reason is of a text that nests within the depth
near : (n limit : ℕ) → (limit < n → ⊥) → n ≤ limit
near n limit other = omega (arith, other)

-- a document is of a text that nests within the depth
pub near_of : (A : Type 0) (n limit : ℕ) (a : A) → (made A a ≡ failed A TooDeep) ↔ (limit < n)
    → n ≤ limit
near_of A n limit a deep =
    near n limit (λ far. let same = deep.1 far in let never : ⊥ = cc in never)

-- a text that gives no document within a depth
pub refused_as : (A : Type 0) (rule : Exponents) (limit : ℕ) (text : List ℕ) (e : ParseError)
    → (failed A e ≡ failed A TooDeep) ↔ (limit < text_depth text)
    → (failed A e ≡ failed A (Refused InvalidJson) → (t : Tree) → JsonText rule (chars text) t → ⊥)
    → (failed A e ≡ failed A (Refused InvalidJsonb)
    → (t : Tree) × (JsonText rule (chars text) t × (Fits t → ⊥)))
    → (e ≡ TooDeep) ⊎ ((e ≡ Refused InvalidJson) ⊎ ((e ≡ Refused InvalidJsonb)
    ⊎ (e ≡ Refused OutOfMemory)))
    → ParsesUnderWithin rule limit text (Err e)
refused_as A rule limit text e deep invalid past only = by only
  where
    of : (f : ParseError) → e ≡ f → ParsesUnderWithin rule limit text (Err f)
        → ParsesUnderWithin rule limit text (Err e)
    of f is = subst (λ (x : ParseError). ParsesUnderWithin rule limit text (Err x)) (sym is)

    low : (f : Error) → e ≡ Refused f → text_depth text ≤ limit
    low f is = near (text_depth text) limit
        (λ far. let same = deep.1 far in let never : ⊥ = cc in never)

    by : (e ≡ TooDeep) ⊎ ((e ≡ Refused InvalidJson) ⊎ ((e ≡ Refused InvalidJsonb)
        ⊎ (e ≡ Refused OutOfMemory))) → ParsesUnderWithin rule limit text (Err e)
    by (inl is) = of TooDeep is (deep.0 (ap (failed A) is))
    by (inr (inl is)) = of (Refused InvalidJson) is (low InvalidJson is, invalid (ap (failed A) is))
    by (inr (inr (inl is))) =
        of (Refused InvalidJsonb) is (low InvalidJsonb is, past (ap (failed A) is))
    by (inr (inr (inr is))) = of (Refused OutOfMemory) is (low OutOfMemory is, tt)

-- a document that was made of a text means its tree and prints as it
pub parsed_as : (rule : Exponents) (text bytes : List ℕ) (u : Tree) → JsonText rule (chars text) u
    → IsTree u → Fits u → bytes ≡ canon u → IsParsedUnder rule text bytes
parsed_as rule text bytes u json is fits same =
    let doc = subst (λ (x : List ℕ). Doc x (norm u)) (sym same) (Doc-canon u is fits) in
    let means : (t : Tree) → JsonText rule (chars text) t → Doc bytes (norm t) =
    λ t h. rw (same_meaning rule (chars text) u t json h) at doc in
    record {
      means = means;
      prints = λ t h. display_text-Doc bytes (norm t) (means t h) ∙ laid_out-norm in_one_line t;
      prints_pretty = λ t h.
          pretty_display_text-Doc bytes (norm t) (means t h) ∙ laid_out-norm (on_lines 0) t;
    }

mutual
  norm-depth : (t : Tree) → depth (norm t) ≡ depth t
  norm-depth null = refl
  norm-depth (boolean b) = refl
  norm-depth (number x) = refl
  norm-depth (trees.text s) = refl
  norm-depth (extension e) = refl
  norm-depth (array ts) = ap suc (norms-depth ts)
  norm-depth (object ps) = ap suc (norm_pairs-depth ps)

  norms-depth : (ts : Trees) → depths (norms ts) ≡ depths ts
  norms-depth no_trees = refl
  norms-depth (tree t ts) =
      let first = norm-depth t in let others = norms-depth ts in omega arith

  norm_pairs-depth : (ps : Pairs) → pair_depths (norm_pairs ps) ≡ pair_depths ps
  norm_pairs-depth no_pairs = refl
  norm_pairs-depth (pair k t ps) =
      let first = norm-depth t in let others = norm_pairs-depth ps in omega arith

pub document_within : (rule : Exponents) (text bytes : List ℕ) (t : Tree) (limit : ℕ)
    → HasDepthOfSpelled rule text → JsonText rule (chars text) t → Doc bytes (norm t)
    → text_depth text ≤ limit → IsDocumentWithin limit bytes
document_within rule text bytes t limit nests json doc within =
    let most = spelled_within rule text t limit nests json within in
    let same = norm-depth t in
    (norm t, (omega arith, doc))

-- A printed text is parsed to a document of an Equal tree.
module _ (text : List ℕ) (t : Tree) (again : MeansAgain (chars text) t) where
  same_tree : (u : Tree) → JsonText Forbidden (chars text) u → u ≡ again.again
  same_tree u json = same_meaning Forbidden (chars text) u again.again json again.is_meant

  gives_equal : (r : Result (List ℕ) Error) → ParsesTo text r → GivesEqual t r
  gives_equal (Ok bytes) (u, (json, (fits, same))) = rw (same, same_tree u json) (
    norm again.again,
    (
      Doc-canon again.again again.is_tree again.fits,
      tree_cmp-norm again.again t ∙ again.is_equal,
    ),
  )
  gives_equal (Err InvalidJson) none = absurd (none again.again again.is_meant)
  gives_equal (Err InvalidJsonb) (u, (json, past)) =
      absurd (past (rw (same_tree u json) again.fits))
  gives_equal (Err OutOfMemory) none = refl
  gives_equal (Err e) none = absurd none

text_again : (t : Tree) (text : List ℕ) → IsTree t → IsPlain t → Fits t → IsTextOf t text
    → MeansAgain (chars text) t
text_again t text is plain fits (inl same) = rw same (reread_text in_one_line t is plain fits)
text_again t text is plain fits (inr same) = rw same (reread_text (on_lines 0) t is plain fits)

pub read_again : (t : Tree) (text : List ℕ) (r : Result (List ℕ) Error) → ParsesTo text r
    → IsTree t → IsPlain t → Fits t → IsTextOf t text → IsReadAgain t text r
read_again t text r parses is plain fits printed =
    let again = text_again t text is plain fits printed in
    record { means = again; gives = gives_equal text t again r parses }
