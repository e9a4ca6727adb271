-- The results of the library's calls.
use Rattle.std.proofs.Common.{◌≡◌, ◌⊎◌, inl, inr, ap, sym, subst, ℕ, List, Result, Ok, Err}
use Rattle.std.specs.Prelude.{IfErr, IfOk}
use Rattle.std.specs.List.{IsDistinct}
use Rattle.std.specs.Map.{keys_of, values_of}
use Rattle.std.specs.Str.{bytes_eq}
use Rattle.jsonb_value.specs.declared.error.Error.{Error}
use Rattle.jsonb_value.specs.declared.error.Error.TheVariants.{InvalidJsonb, ObjectDuplicateKey}
use Rattle.jsonb_value.specs.declared.error.Error.TheVariants.{OutOfMemory}
use Rattle.jsonb_codec.specs.Canon.{canon, Fits}
use Rattle.jsonb_codec.specs.Made.{MadeIfFit}
use Rattle.jsonb_codec.proofs.Unique.{Doc-unique}
use Rattle.jsonb.specs.declared.document.Document.{Document}
use Rattle.jsonb.specs.declared.owned.OwnedJsonb.{OwnedJsonb}
use Rattle.jsonb.specs.Building.{AreTexts}
use Rattle.jsonb.specs.Canonical.{RewritesTo}
use Rattle.jsonb.specs.Document.{document_bytes, document_tree}
use Rattle.jsonb.specs.Owned.{result_bytes, owned_bytes}
use Rattle.jsonb.specs.Results.{AreWithinLimits, IsArrayOfDocuments, IsObjectOfDocuments}
use Rattle.jsonb.specs.Results.{PairsExceedLimits}
use Rattle.jsonb.proofs.DocumentLaws.{tree_of_bytes}
use Rattle.kohiblad.specs.Results.{AreWithin, BuildsArray, BuildsObject}

-- a result by its two errors
by_error : (Makes : Result (List ℕ) Error → Type 0) (e : Error)
    → (e ≡ InvalidJsonb → Makes (Err InvalidJsonb)) → (e ≡ OutOfMemory → Makes (Err OutOfMemory))
    → (e ≡ InvalidJsonb) ⊎ (e ≡ OutOfMemory) → Makes (Err e)
by_error Makes e past memory (inl is) = subst (λ (x : Error). Makes (Err x)) (sym is) (past is)
by_error Makes e past memory (inr is) = subst (λ (x : Error). Makes (Err x)) (sym is) (memory is)

-- A document that was checked is brought to canonical form as its bytes are.
pub rewritten : (b : List ℕ) (d : Document) → document_bytes d ≡ b → (r : Result OwnedJsonb Error)
    → IfOk r (λ owned. owned_bytes owned ≡ canon (document_tree d))
    → MadeIfFit (Fits (document_tree d)) r → RewritesTo b (result_bytes r)
rewritten b d is (Ok owned) ok limits =
    (document_tree d, (tree_of_bytes b d is, (limits.fits, ok)))
rewritten b d is (Err e) ok limits =
    let doc = tree_of_bytes b d is in
    by_error (RewritesTo b) e
    (λ invalid t found fits. limits.past.0 (ap Err invalid)
    (subst Fits (Doc-unique b t (document_tree d) found doc) fits))
    (λ memory. (document_tree d, (doc, limits.memory (ap Err memory)))) limits.only

-- The array of documents that were checked is built.
pub array_built : (depth : ℕ) (documents : List (List ℕ)) (r : Result OwnedJsonb Error)
    → AreWithin depth documents
    → IfOk r (λ owned. IsArrayOfDocuments documents (owned_bytes owned))
    → (r ≡ Err InvalidJsonb → AreWithinLimits documents → ⊥)
    → IfErr r (λ e. (e ≡ InvalidJsonb) ⊎ (e ≡ OutOfMemory))
    → BuildsArray depth documents (result_bytes r)
array_built depth documents (Ok owned) within ok past only = (within, ok)
array_built depth documents (Err e) within ok past only =
    by_error (BuildsArray depth documents) e (λ is again. past (ap Err is)) (λ is. within) only

-- The object of keys and documents that were checked is built.
pub object_built : (depth : ℕ) (pairs : List (List ℕ × List ℕ)) (r : Result OwnedJsonb Error)
    → AreWithin depth (values_of pairs) → AreTexts (keys_of pairs)
    → IfOk r (λ owned. IsObjectOfDocuments pairs (owned_bytes owned))
    → (r ≡ Err InvalidJsonb → PairsExceedLimits pairs)
    → (r ≡ Err ObjectDuplicateKey → IsDistinct bytes_eq (keys_of pairs) → ⊥)
    → IfErr r (λ e. (e ≡ InvalidJsonb) ⊎ ((e ≡ ObjectDuplicateKey) ⊎ (e ≡ OutOfMemory)))
    → BuildsObject depth pairs (result_bytes r)
object_built depth pairs (Ok owned) within texts ok past twice only = (within, (texts, ok))
object_built depth pairs (Err e) within texts ok past twice (inl is) =
    by_error (BuildsObject depth pairs) e (λ is again. (texts, past (ap Err is)))
    (λ is. (within, texts)) (inl is)
object_built depth pairs (Err e) within texts ok past twice (inr (inl is)) =
    subst (λ (x : Error). BuildsObject depth pairs (Err x)) (sym is)
    (within, (texts, twice (ap Err is)))
object_built depth pairs (Err e) within texts ok past twice (inr (inr is)) =
    by_error (BuildsObject depth pairs) e (λ is again. (texts, past (ap Err is)))
    (λ is. (within, texts)) (inr is)
