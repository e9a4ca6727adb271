-- Whether a byte string is a document is decidable.
use Rattle.std.proofs.Common.{◌≡◌, ◌≢◌, ◌⊎◌, ◌↔◌, ◌≤◌, ◌<◌, ◌+◌, ◌-◌, ◌*◌, ◌/◌, ◌%◌, ◌^◌, ℕ, zero}
use Rattle.std.proofs.Common.{suc, List, [], ◌∷◌, ◌++◌, Bool, Option, Some, None, length, take}
use Rattle.std.proofs.Common.{drop, true, false, inl, inr, refl, sym, ap, subst, ◌∙◌, arith}
use Rattle.std.proofs.Common.{length-drop}
use Rattle.std.proofs.Math.Logic.{∥∥₁_elim}
use Rattle.std.proofs.lemmas.Bool.{cases_eq, cases_lt}
use Rattle.std.proofs.lemmas.List.{take-append-drop, length-take-le}
use Rattle.std.proofs.lemmas.Str.{IsUtf8-from_is_utf8, is_utf8-from_IsUtf8}
use Rattle.std.specs.Str.{IsUtf8, is_utf8}
use Rattle.std.specs.Int.{w32, from_be_bytes}
use Rattle.std.specs.Ordering.{nat_cmp}
use Rattle.std.specs.Cmp.Lexicographic.{slice_cmp}
use Rattle.std.specs.declared.cmp.Ordering.{Ordering}
use Rattle.std.specs.declared.cmp.Ordering.TheVariants.{Less}
use Rattle.jsonb_value.specs.Tree.{text, no_trees, tree, no_pairs, pair}
use Rattle.jsonb_value.proofs.ExtCodes.{front_of}
use Rattle.jsonb_value.proofs.PayloadDecision.{Decided, decided_by, decide_number, decide_extension}
use Rattle.jsonb_codec.specs.WordBytes.{word}
use Rattle.jsonb_codec.specs.Doc.{One, IsDocument}
use Rattle.jsonb_codec.specs.Depth.{IsDocumentWithin}
use Rattle.jsonb_codec.specs.Parts.{IsSomePayload, AreSomeChildren, IsSomeObject, HasPayload}
use Rattle.jsonb_codec.specs.Parts.{HasScalar}
use Rattle.jsonb_codec.specs.Parts.{HasChildren, HasArray, HasObject, HasKeys, IsAbove}
use Rattle.jsonb_codec.proofs.Words.{length-word, word-value}
use Rattle.jsonb_codec.proofs.DepthLaws.{Payload-depth, Children-depth, Object-depth}
use Rattle.jsonb_codec.proofs.Entries.{IsType, IsType-type_of}
use Rattle.jsonb_codec.proofs.Containers.{container, header_small}
use Rattle.jsonb_codec.proofs.Scalars.{HasPayload-empty, HasPayload-text, HasPayload-number}
use Rattle.jsonb_codec.proofs.Scalars.{HasPayload-extension}
use Rattle.jsonb_codec.proofs.Steps.{Read, length-Read, children_iff, children_none}
use Rattle.jsonb_codec.proofs.Steps.{container_array, container_object, no_container}
use Rattle.jsonb_codec.proofs.Steps.{container_too_deep, no_scalar, scalar_words, scalar_iff}
use Rattle.jsonb_codec.proofs.Steps.{document_iff, document_within_length, array_room, array_iff}
use Rattle.jsonb_codec.proofs.KeySteps.{keys_iff, keys_none, keys_once, object_room, object_onward}
use Rattle.jsonb_codec.proofs.KeySteps.{object_back}

decided_iff : {P Q : Type 0} → (P ↔ Q) → Decided P → Decided Q
decided_iff same d = decided_by same.0 same.1 d

decide_both : {P Q : Type 0} → Decided P → Decided Q → Decided (P × Q)
decide_both (inl p) (inl q) = inl (p, q)
decide_both (inl p) (inr none) = inr (λ h. none h.1)
decide_both (inr none) q = inr (λ h. none h.0)

decide_either : {P Q : Type 0} → Decided P → Decided Q → Decided (P ⊎ Q)
decide_either (inl p) q = inl (inl p)
decide_either (inr none) (inl q) = inl (inr q)
decide_either (inr none) (inr neither) = inr (λ h. elim h [ inl p ↦ none p | inr q ↦ neither q ])

decide_le : (a b : ℕ) → Decided (a ≤ b)
decide_le a b = elim (cases_lt b a) [ inl over ↦ inr (λ h. omega arith) | inr fits ↦ inl fits ]

decide_list : (xs ys : List ℕ) → Decided (xs ≡ ys)
decide_list [] [] = inl refl
decide_list (x ∷ xs) (y ∷ ys) = decided_by (λ same. cc (same.0, same.1)) (λ same. (cc, cc))
    (decide_both (cases_eq x y) (decide_list xs ys))
decide_list xs ys = inr (λ e. cc)

decide_text : (p : List ℕ) → Decided (IsUtf8 p)
decide_text p = by (is_utf8 p) refl
  where
    by : (b : Bool) → is_utf8 p ≡ b → Decided (IsUtf8 p)
    by true e = inl (IsUtf8-from_is_utf8 p e)
    by false e = inr (λ h. cc (is_utf8-from_IsUtf8 p h))

decide_less : (o : Ordering) → Decided (o ≡ Less)
decide_less Less = inl refl
decide_less o = inr (λ e. cc)

-- the bytes begin with a word
record WordFirst (e : List ℕ) : Type 0 where
  word_is : ℕ
  rest : List ℕ
  parts : e ≡ word word_is ++ rest
  small : word_is < 2 ^ 32

decide_word : (e : List ℕ) → Decided (WordFirst e)
decide_word e =
    let k = from_be_bytes w32 (take 4 e) in
    decided_by
    (λ h. record {
      word_is = k;
      rest = drop 4 e;
      parts = rw (h.0, take-append-drop 4 e);
      small = h.1;
    })
    fits (decide_both (decide_list (word k) (take 4 e)) (decide_le (suc k) (2 ^ 32)))
  where
    fits : (w : WordFirst e) → (word (from_be_bytes w32 (take 4 e)) ≡ take 4 e)
        × (from_be_bytes w32 (take 4 e) < 2 ^ 32)
    fits w =
        let front = front_of 4 (word w.word_is) w.rest e w.parts (length-word w.word_is) in
        let value : from_be_bytes w32 (take 4 e) ≡ w.word_is =
        ap (from_be_bytes w32) front ∙ word-value w.word_is w.small in
        (ap word value ∙ sym front, omega (arith, value, w.small))

-- the tag of an entry word or of a header
abbrev tag_at : ℕ → ℕ → ℕ
tag_at bound k = k / bound * bound

entry_at : {e : List ℕ}
    → (w : WordFirst e) → Read (2 ^ 28) (tag_at (2 ^ 28) w.word_is) (w.word_is % 2 ^ 28) w.rest e
entry_at {e} w = record {
  found = subst (λ k. e ≡ word k ++ w.rest) (omega arith) w.parts;
  high = omega arith;
  number = omega arith;
  small = omega (arith, w.small);
}

header_at : {e : List ℕ}
    → (w : WordFirst e) → Read (2 ^ 29) (tag_at (2 ^ 29) w.word_is) (w.word_is % 2 ^ 29) w.rest e
header_at {e} w = record {
  found = subst (λ k. e ≡ word k ++ w.rest) (omega arith) w.parts;
  high = omega arith;
  number = omega arith;
  small = omega (arith, w.small);
}

-- Nonempty children, keys, containers and scalars begin with a word.
entry_front : {ty : ℕ} {M : List ℕ → Type 0} {O : List ℕ → List ℕ → Type 0} {e p : List ℕ}
    → IsType ty → One ty M O e p → WordFirst e
entry_front is h = record {
  word_is = _;
  rest = h.other_entries;
  parts = h.entries_are;
  small = omega (arith, h.short, is.room);
}

children_front : {d : ℕ} {e p : List ℕ} → HasChildren d e p
    → ((e ≡ []) × (p ≡ [])) ⊎ WordFirst e
children_front (no_trees, (v, h)) = inl (h.no_entries, h.no_payloads)
children_front (tree t ts, (v, h)) = inr (entry_front (IsType-type_of t) h)

keys_front : {before : Option (List ℕ)} {e p q : List ℕ} → HasKeys before e p q
    → (e ≡ []) ⊎ WordFirst e
keys_front (no_pairs, (a, (front, (parts, h)))) = inl h.no_entries
keys_front (pair k t ps, (a, (front, (parts, h)))) =
    inr (entry_front (IsType-type_of (text k)) h)

container_front : (d : ℕ) (b : List ℕ) → HasPayload d 1342177280 b → WordFirst b
container_front d b (t, (v, (q, h))) =
    let f = container t b q h in
    record { word_is = _; rest = f.rest; parts = f.parts; small = header_small f }

scalar_front : (b : List ℕ) → HasScalar b → WordFirst b
scalar_front b (t, (q, h)) =
    record { word_is = 536870912; rest = _; parts = h.parts; small = omega arith }

scalar_entry_front : (n : ℕ) (rest : List ℕ) → n < 2 ^ 29 → HasScalar (word (536870912 + n) ++ rest)
    → WordFirst rest
scalar_entry_front n rest few (t, (q, h)) = record {
  word_is = _;
  rest = h.payload;
  parts = sym (scalar_words n rest few t h).1;
  small = omega (arith, h.short, (IsType-type_of t).room);
}

-- no tree has another type
no_payload : (limit ty : ℕ) (p : List ℕ) → ty ≢ 0 → ty ≢ 268435456 → ty ≢ 536870912 → ty ≢ 805306368
    → ty ≢ 1073741824 → ty ≢ 1342177280 → ty ≢ 1610612736 → HasPayload limit ty p → ⊥
no_payload limit ty p a b c d e f g (t, (v, (q, h))) = grind arith

decide_scalar_payload : (limit ty : ℕ) (p : List ℕ) → ty ≢ 1342177280
    → Decided (HasPayload limit ty p)
decide_scalar_payload limit ty p f =
    elim (cases_eq ty 0) [
      | inl e ↦ decided_iff (HasPayload-empty limit ty p (inl e)) (decide_list p [])
      | inr a ↦ elim (cases_eq ty 268435456) [
        | inl e ↦ decided_iff (HasPayload-text limit ty p e) (decide_text p)
        | inr b ↦ elim (cases_eq ty 536870912) [
          | inl e ↦ decided_iff (HasPayload-number limit ty p e) (decide_number p)
          | inr c ↦ elim (cases_eq ty 805306368) [
            | inl e ↦ decided_iff (HasPayload-empty limit ty p (inr (inl e))) (decide_list p [])
            | inr d ↦ elim (cases_eq ty 1073741824) [
              | inl e ↦ decided_iff (HasPayload-empty limit ty p (inr (inr e))) (decide_list p [])
              | inr e ↦ elim (cases_eq ty 1610612736) [
                | inl g ↦ decided_iff (HasPayload-extension limit ty p g) (decide_extension p)
                | inr g ↦ inr (no_payload limit ty p a b c d e f g)
              ]
            ]
          ]
        ]
      ]
    ]

-- Payloads of at most this depth are decidable.
abbrev DecidesPayloads : ℕ → Type 0
DecidesPayloads limit = (ty : ℕ) (q : List ℕ) → Decided (HasPayload limit ty q)

-- children that begin with a word, and children that do not
decide_children : (limit : ℕ) → DecidesPayloads limit → (m : ℕ) (e p : List ℕ) → length e < m
    → Decided (HasChildren limit e p)
decide_children limit payloads zero e p hm = absurd (omega arith)
decide_children limit payloads (suc m) e p hm =
    elim (decide_word e) [
      | inl w ↦
          let read = entry_at w in
          let n = w.word_is % 2 ^ 28 in
          decided_iff (children_iff read limit p)
          (decide_both (decide_le n (length p))
          (decide_both (payloads (tag_at (2 ^ 28) w.word_is) (take n p))
          (decide_children limit payloads m w.rest (drop n p) (omega (arith, length-Read read)))))
      | inr none ↦ decided_by (λ h. children_none h.0 h.1)
          (λ h. elim (children_front h) [ inl both ↦ both | inr w ↦ absurd (none w) ])
          (decide_both (decide_list e []) (decide_list p []))
    ]

decide_above : (before : Option (List ℕ)) (key : List ℕ) → Decided (IsAbove before key)
decide_above None key = inl tt
decide_above (Some b) key = decide_less (slice_cmp nat_cmp b key)

-- The keys end somewhere in these payloads.
abbrev KeysEnd : Option (List ℕ) → List ℕ → List ℕ → Type 0
KeysEnd before e p = (q : List ℕ) × HasKeys before e p q

decide_keys : (m : ℕ) (before : Option (List ℕ)) (e p : List ℕ) → length e < m
    → Decided (KeysEnd before e p)
decide_keys zero before e p hm = absurd (omega arith)
decide_keys (suc m) before e p hm =
    elim (decide_word e) [
      | inl w ↦
          let read = entry_at w in
          let n = w.word_is % 2 ^ 28 in
          let key = take n p in
          decided_by
          (λ (is, (fits, (above, (good, (q, more))))). (
            q,
            (keys_iff read before p q).0 record {
              is_text = is;
              fits = fits;
              above = above;
              utf8 = good;
              others = more;
            },
          ))
          (λ (q, h).
          let k = (keys_iff read before p q).1 h in
          (k.is_text, (k.fits, (k.above, (k.utf8, (q, k.others))))))
          (decide_both (cases_eq (tag_at (2 ^ 28) w.word_is) 268435456)
          (decide_both (decide_le n (length p))
          (decide_both (decide_above before key)
          (decide_both (decide_text key)
          (decide_keys m (Some key) w.rest (drop n p) (omega (arith, length-Read read)))))))
      | inr none ↦ decided_by (λ is. (p, keys_none is))
          (λ h. elim (keys_front h.1) [ inl is ↦ is | inr w ↦ absurd (none w) ])
          (decide_list e [])
    ]

decide_array : (limit : ℕ) → DecidesPayloads limit → (n : ℕ) (body : List ℕ) → n < 2 ^ 29
    → Decided (HasArray limit n body)
decide_array limit payloads n body few =
    let e = take (4 * n) body in
    elim (cases_lt (length body) (4 * n)) [
      | inl short ↦ inr (λ (ts, (v, h)). omega (arith, array_room n body ts h))
      | inr long ↦
          let len = length-take-le (4 * n) body long in
          decided_iff (array_iff refl refl len limit few)
          (decide_children limit payloads (suc (length e)) e (drop (4 * n) body) (omega arith))
    ]

decide_object : (limit : ℕ) → DecidesPayloads limit → (n : ℕ) (body : List ℕ) → n < 2 ^ 29
    → Decided (HasObject limit n body)
decide_object limit payloads n body few =
    let ke = take (4 * n) body in
    let later = drop (4 * n) body in
    let ve = take (4 * n) later in
    let p = drop (4 * n) later in
    elim (cases_lt (length body) (8 * n)) [
      | inl short ↦ inr (λ (ps, (v, h)). omega (arith, object_room n body ps h))
      | inr long ↦
          let left : length later ≡ length body - 4 * n = length-drop (4 * n) body in
          let kn : length ke ≡ 4 * n = length-take-le (4 * n) body (omega arith) in
          let vn : length ve ≡ 4 * n = length-take-le (4 * n) later (omega arith) in
          elim (decide_keys (suc (length ke)) None ke p (omega arith)) [
            | inl (q, keys) ↦ decided_by (object_back refl refl refl refl kn vn limit few q keys)
                (λ h.
                let w = object_onward refl refl refl refl kn vn limit h in
                subst (HasChildren limit ve) (keys_once w.1.0 keys) w.1.1)
                (decide_children limit payloads (suc (length ve)) ve q (omega arith))
            | inr none ↦ inr (λ h.
                let w = object_onward refl refl refl refl kn vn limit h in none (w.0, w.1.0))
          ]
    ]

decide_container : (limit : ℕ) → limit ≢ 0 → DecidesPayloads (limit - 1) → (b : List ℕ)
    → Decided (HasPayload limit 1342177280 b)
decide_container limit some payloads b =
    elim (decide_word b) [
      | inl w ↦
          let tag = tag_at (2 ^ 29) w.word_is in
          let n = w.word_is % 2 ^ 29 in
          let read = header_at w in
          elim (cases_eq tag 2147483648) [
            | inl is ↦ decided_iff (container_array read limit some is)
                (decide_array (limit - 1) payloads n w.rest read.number)
            | inr no_array ↦ elim (cases_eq tag 1073741824) [
              | inl is ↦ decided_iff (container_object read limit some is)
                  (decide_object (limit - 1) payloads n w.rest read.number)
              | inr no_object ↦ inr (no_container read no_array no_object limit)
            ]
          ]
      | inr none ↦ inr (λ h. none (container_front limit b h))
    ]

decide_type : (limit ty : ℕ) (q : List ℕ) → Decided (HasPayload limit 1342177280 q)
    → Decided (HasPayload limit ty q)
decide_type limit ty q whole =
    elim (cases_eq ty 1342177280) [
      | inl is ↦ subst (λ k. Decided (HasPayload limit k q)) (sym is) whole
      | inr other ↦ decide_scalar_payload limit ty q other
    ]

decide_payload : (limit ty : ℕ) (q : List ℕ) → Decided (HasPayload limit ty q)
decide_payload zero ty q = decide_type zero ty q (inr (container_too_deep q))
decide_payload (suc m) ty q =
    let payloads : DecidesPayloads (suc m - 1) =
    subst DecidesPayloads (omega arith) (decide_payload m) in
    decide_type (suc m) ty q (decide_container (suc m) (omega arith) payloads q)

-- what follows the header of a scalar
decide_entry : (n : ℕ) (rest : List ℕ) → n < 2 ^ 29
    → Decided (HasScalar (word (536870912 + n) ++ rest))
decide_entry n rest few =
    elim (decide_word rest) [
      | inl w ↦
          let ty = tag_at (2 ^ 28) w.word_is in
          let k = w.word_is % 2 ^ 28 in
          elim (cases_eq ty 1342177280) [
            | inl is ↦ inr (λ s. ((scalar_iff n rest few (entry_at w)).1 s).1.0 is)
            | inr other ↦ decided_by
                (λ (zero_is, (long, h)).
                (scalar_iff n rest few (entry_at w)).0 (zero_is, (other, (long, h))))
                (λ s.
                let (zero_is, (other, found)) = (scalar_iff n rest few (entry_at w)).1 s in
                (zero_is, found))
                (decide_both (cases_eq n 0) (decide_both (cases_eq k (length w.rest))
                (decide_scalar_payload 0 ty (take k w.rest) other)))
          ]
      | inr none ↦ inr (λ s. none (scalar_entry_front n rest few s))
    ]

decide_scalar : (b : List ℕ) → Decided (HasScalar b)
decide_scalar b =
    elim (decide_word b) [
      | inl w ↦
          let tag = tag_at (2 ^ 29) w.word_is in
          let n = w.word_is % 2 ^ 29 in
          let read = header_at w in
          elim (cases_eq tag 536870912) [
            | inl is ↦
                let parts : word (536870912 + n) ++ w.rest ≡ b = cc (read.found) in
                subst (λ x. Decided (HasScalar x)) parts (decide_entry n w.rest read.number)
            | inr other ↦ inr (λ s. no_scalar read other s.0 s.1.1)
          ]
      | inr none ↦ inr (λ s. none (scalar_front b s))
    ]

-- whether bytes are a document of at most this depth, and whether they are a document
decide_within : (limit : ℕ) (b : List ℕ) → Decided (IsDocumentWithin limit b)
decide_within limit b = decided_iff (document_iff limit b)
    (decide_either (decide_scalar b) (decide_payload limit 1342177280 b))

pub decide : (b : List ℕ) → Decided (IsDocument b)
decide b = decided_iff (document_within_length b) (decide_within (length b) b)

-- ---- data from the truncated statement

pub known : {P : Type 0} → Decided P → ∥ P ∥₁ → P
known (inl p) some = p
known (inr none) some = let empty : IsProp ⊥ = Prim.hlevel in absurd (∥∥₁_elim some empty none)

pub known_document : (b : List ℕ) → ∥ IsDocument b ∥₁ → IsDocument b
known_document b = known (decide b)

pub known_part : (ty : ℕ) (p : List ℕ) → ∥ IsSomePayload ty p ∥₁ → IsSomePayload ty p
known_part ty p =
    known (decided_by (λ h. (h.0, h.1.1))
    (λ (t, h). (t, (omega (arith, Payload-depth t p h.1), h)))
    (decide_payload (length p) ty p))

pub known_children : (e p : List ℕ) → ∥ AreSomeChildren e p ∥₁ → AreSomeChildren e p
known_children e p =
    let limit = length e + length p in
    known (decided_by (λ h. (h.0, h.1.1))
    (λ (ts, h). (ts, (omega (arith, Children-depth ts e p h), h)))
    (decide_children limit (decide_payload limit) (suc (length e)) e p (omega arith)))

pub known_object : (n : ℕ) (body : List ℕ) → ∥ IsSomeObject n body ∥₁ → IsSomeObject n body
known_object n body =
    let limit = length body in
    known (decided_by (λ h. (h.0, h.1.1))
    (λ (ps, h). (ps, (omega (arith, Object-depth n body ps h), h)))
    (elim (decide_le (suc n) (2 ^ 29)) [
      | inl few ↦ decide_object limit (decide_payload limit) n body few
      | inr many ↦ inr (λ (ps, (v, (c, (a, b)))). many b.few)
    ]))
