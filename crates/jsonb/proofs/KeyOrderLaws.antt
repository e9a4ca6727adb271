-- The derived order of keys is that of their meanings.
use Rattle.std.proofs.Common.{◌≡◌, refl}
use Rattle.std.specs.Cmp.Lexicographic.{lists_agrees, texts_ties}
use Rattle.std.specs.Ordering.{on, eq_by_cmp, as_partial_cmp}
use Rattle.jsonb_value.specs.Meaning.{meaning_cmp}
use Rattle.jsonb.specs.declared.sort_key.SortKey.{SortKey}
use Rattle.jsonb.specs.declared.sort_key.SortKey.TheVariants as keys
use Rattle.jsonb.specs.KeyOrder.{key_cmp, key_partial_cmp, key_eq}
use Rattle.jsonb.specs.SortKey.{key_meaning}

pub key_cmp-is : (x y : SortKey) → key_cmp x y ≡ on key_meaning meaning_cmp x y
key_cmp-is (keys.Document d) (keys.Document e) = refl
key_cmp-is (keys.Document d) (keys.Other b) = refl
key_cmp-is (keys.Other a) (keys.Document e) = refl
key_cmp-is (keys.Other a) (keys.Other b) = refl

pub key_partial_cmp-is : (x y : SortKey)
    → key_partial_cmp x y ≡ as_partial_cmp (on key_meaning meaning_cmp) x y
key_partial_cmp-is (keys.Document d) (keys.Document e) = refl
key_partial_cmp-is (keys.Document d) (keys.Other b) = refl
key_partial_cmp-is (keys.Other a) (keys.Document e) = refl
key_partial_cmp-is (keys.Other a) (keys.Other b) = lists_agrees (λ x y. refl) a.now b.now

pub key_eq-is : (x y : SortKey) → key_eq x y ≡ eq_by_cmp (on key_meaning meaning_cmp) x y
key_eq-is (keys.Document d) (keys.Document e) = refl
key_eq-is (keys.Document d) (keys.Other b) = refl
key_eq-is (keys.Other a) (keys.Document e) = refl
key_eq-is (keys.Other a) (keys.Other b) = texts_ties a.now b.now

-- So both are one function.
pub one_order : key_cmp ≡ on key_meaning meaning_cmp
one_order = λ i x y. key_cmp-is x y i
