-- How one more key constrains the bytes after it, and how keys and values form the pairs of an
-- object.
use Rattle.std.proofs.Common.{◌≡◌, ◌↔◌, Bool, IsTrue, ℕ, ◌*◌, ◌^◌, ◌<◌, ◌≤◌, List, [], ◌++◌, Option}
use Rattle.std.proofs.Common.{Some, None, length, take, drop, refl, sym, ap, subst, ◌∙◌, arith}
use Rattle.std.proofs.Common.{length-append, append_assoc}
use Rattle.std.proofs.lemmas.List.{take-append-drop, length-take-le, take-append-le, drop-append-le}
use Rattle.std.specs.Str.{IsUtf8}
use Rattle.jsonb_value.specs.Tree.{null, text, Trees, no_trees, tree, Pairs, no_pairs, pair, count}
use Rattle.jsonb_value.specs.Tree.{pair_count, Ascends, Ascend}
use Rattle.jsonb_codec.specs.Doc.{IsKey, One, Keys, Values, Children}
use Rattle.jsonb_codec.specs.Depth.{depths, pair_depths}
use Rattle.jsonb_codec.specs.Parts.{IsObject, KeysThen, HasChildren, HasObject, HasKeys, IsAbove}
use Rattle.jsonb_codec.proofs.Words.{same_parts}
use Rattle.jsonb_codec.proofs.Entries.{IsType-type_of, length-Children, length-Values, length-Keys}
use Rattle.jsonb_codec.proofs.Entries.{values_of, Keys-children, Values-children}
use Rattle.jsonb_codec.proofs.Steps.{Read, front_one, not_at_end, cut}
use Rattle.jsonb_codec.proofs.Unique.{length_payloads}

-- the first key, as its entry word determines it, and the keys after it
pub record KeyFirst (before : Option (List ℕ)) (ty n : ℕ) (rest p q : List ℕ) : Type 0 where
  pub is_text : ty ≡ 268435456
  pub fits : n ≤ length p
  pub above : IsAbove before (take n p)
  pub utf8 : IsUtf8 (take n p)
  pub others : HasKeys (Some (take n p)) rest (drop n p) q

pub keys_iff : {ty n : ℕ} {rest e : List ℕ} → Read (2 ^ 28) ty n rest e
    → (before : Option (List ℕ)) (p q : List ℕ)
    → KeyFirst before ty n rest p q ↔ HasKeys before e p q
keys_iff {ty} {n} {rest} {e} read before p q = (back, onward)
  where
    back : KeyFirst before ty n rest p q → HasKeys before e p q
    back f =
        let (ps, (a, (front, (parts, h)))) = f.others in
        let long : length (take n p) ≡ n = length-take-le n p f.fits in (
          pair (take n p) null ps,
          (
            (f.above, a),
            (
              take n p ++ front,
              (
                rw (append_assoc, ← parts) (sym (take-append-drop n p)),
                record {
                  payload = take n p;
                  other_entries = rest;
                  other_payloads = front;
                  entries_are = rw (long, ← f.is_text) read.found;
                  payloads_are = refl;
                  short = omega (arith, long, read.number);
                  means = (refl, f.utf8);
                  others = h;
                },
              ),
            ),
          ),
        )

    onward : HasKeys before e p q → KeyFirst before ty n rest p q
    onward (no_pairs, (a, (front, (parts, h)))) = absurd (not_at_end read h)
    onward (pair k t ps, (a, (front, (parts, h)))) =
        let f = front_one read (IsType-type_of (text k)) h in
        let key : take n p ≡ k =
        ap (take n) parts ∙ take-append-le n front q f.fits ∙ f.means.0 in
        record {
          is_text = sym f.type;
          fits = omega (arith, f.fits, ap length parts ∙ length-append front q);
          above = subst (IsAbove before) (sym key) a.0;
          utf8 = rw key f.means.1;
          others = (
            ps,
            (
              subst (λ x. Ascends (Some x) ps) (sym key) a.1,
              (drop n front, (ap (drop n) parts ∙ drop-append-le n front q f.fits, f.others)),
            ),
          );
        }

pub keys_none : {before : Option (List ℕ)} {e p : List ℕ} → e ≡ [] → HasKeys before e p p
keys_none none = (no_pairs, (tt, ([], (refl, record { no_entries = none; no_payloads = refl }))))

-- keys end in only one place
pub keys_once : {before : Option (List ℕ)} {e p q r : List ℕ} → HasKeys before e p q
    → HasKeys before e p r → q ≡ r
keys_once {e = e} (ps, (a, (front, (parts, h)))) (qs, (b, (other, (again, k)))) =
    let long = length_payloads _ _ e front other (subst (λ R. R e front) (Keys-children ps) h)
    (subst (λ R. R e other) (Keys-children qs) k) in
    (same_parts front other _ _ long (sym parts ∙ again)).1

-- the keys of these pairs, with these values
abbrev with_values : Pairs → Trees → Pairs
with_values (pair k t ps) (tree u ts) = pair k u (with_values ps ts)
with_values ps ts = no_pairs

values_of-with_values : (ps : Pairs) (ts : Trees) → pair_count ps ≡ count ts
    → values_of (with_values ps ts) ≡ ts
values_of-with_values no_pairs no_trees e = refl
values_of-with_values (pair k t ps) (tree u ts) e =
    ap (tree u) (values_of-with_values ps ts (omega arith))
values_of-with_values ps ts e = absurd (omega arith)

Ascends-with_values : (before : Option (List ℕ)) (ps : Pairs) (ts : Trees)
    → Ascends before ps → Ascends before (with_values ps ts)
Ascends-with_values before (pair k t ps) (tree u ts) a =
    (a.0, Ascends-with_values (Some k) ps ts a.1)
Ascends-with_values before ps ts a = tt

Keys-with_values : (ps : Pairs) (ts : Trees) → pair_count ps ≡ count ts
    → Keys ps ≡ Keys (with_values ps ts)
Keys-with_values no_pairs no_trees e = refl
Keys-with_values (pair k t ps) (tree u ts) e =
    ap (One 268435456 (IsKey k)) (Keys-with_values ps ts (omega arith))
Keys-with_values ps ts e = absurd (omega arith)

depths-values_of : (ps : Pairs) → depths (values_of ps) ≡ pair_depths ps
depths-values_of no_pairs = refl
depths-values_of (pair k t ps) = rw (depths-values_of ps)

pub object_room : (n : ℕ) (body : List ℕ) (ps : Pairs) → IsObject n body ps → 8 * n ≤ length body
object_room n body ps (c, (a, b)) = omega (
  arith,
  length-Keys ps _ _ b.keys,
  length-Values ps _ _ b.values,
  ap length b.parts,
  length-append {A = ℕ},
)

-- The pairs ascend, their keys are followed by q, and q is their values.
pub record IsPairs (ke ve p q : List ℕ) (ps : Pairs) : Type 0 where
  pub ascend : Ascend ps
  pub keys : KeysThen ps ke p q
  pub values : Values ps ve q

-- an object is its keys and its values, whose entry words are separated by their count
module _ {n : ℕ} {body ke later ve p : List ℕ} (front : ke ≡ take (4 * n) body)
    (back : later ≡ drop (4 * n) body) (next : ve ≡ take (4 * n) later)
    (last : p ≡ drop (4 * n) later) (long : length ke ≡ 4 * n) (longer : length ve ≡ 4 * n) where
  pub object_pairs : (ps : Pairs) → IsObject n body ps → (q : List ℕ) × IsPairs ke ve p q ps
  object_pairs ps (c, (a, b)) =
      let parts : body ≡ ke ++ (ve ++ p) = rw (← cut (4 * n) next last) (cut (4 * n) front back) in
      let one = same_parts b.key_entries ke _ _ (omega (arith, length-Keys ps _ _ b.keys))
      (sym b.parts ∙ parts) in
      let two = same_parts b.value_entries ve _ _ (omega (arith, length-Values ps _ _ b.values))
      one.1 in (
        b.value_payloads,
        record {
          ascend = a;
          keys = (b.key_payloads, (sym two.1, subst (λ x. Keys ps x b.key_payloads) one.0 b.keys));
          values = subst (λ x. Values ps x b.value_payloads) two.0 b.values;
        },
      )

  pub object_onward : (d : ℕ) → HasObject d n body → (q : List ℕ)
      × (HasKeys None ke p q × HasChildren d ve q)
  object_onward d (ps, (w, h)) =
      let (q, x) = object_pairs ps h in (
        q,
        (
          (ps, (x.ascend, x.keys)),
          (
            values_of ps,
            (
              omega (arith, depths-values_of ps),
              subst (λ R. R ve q) (Values-children ps) x.values,
            ),
          ),
        ),
      )

  pub object_back : (d : ℕ) → n < 2 ^ 29 → (q : List ℕ) → HasKeys None ke p q → HasChildren d ve q
      → HasObject d n body
  object_back d few q (ps, (a, (first, (split, h)))) (ts, (w, k)) =
      let same : pair_count ps ≡ count ts =
      omega (arith, length-Keys ps ke first h, length-Children ts ve q k) in
      let qs = with_values ps ts in
      let values = values_of-with_values ps ts same in
      let keys : Keys qs ke first = subst (λ R. R ke first) (Keys-with_values ps ts same) h in (
        qs,
        (
          omega (arith, depths-values_of qs, ap depths values),
          (
            omega (arith, length-Keys qs ke first keys),
            (
              Ascends-with_values None ps ts a,
              record {
                few = few;
                key_entries = ke;
                value_entries = ve;
                key_payloads = first;
                value_payloads = q;
                parts = rw (← split, ← cut (4 * n) next last) (cut (4 * n) front back);
                keys = keys;
                values = subst (λ R. R ve q) (sym (Values-children qs))
                    (subst (λ us. Children us ve q) (sym values) k);
              },
            ),
          ),
        ),
      )

  -- the result of a walk over the keys decides the object, once its values are children
  pub object_iff : (d : ℕ) → n < 2 ^ 29 → (q : List ℕ) (ascend : Bool)
      → (IsTrue ascend → HasKeys None ke p q) → ((r : List ℕ) → HasKeys None ke p r → IsTrue ascend)
      → HasChildren d ve q → IsTrue ascend ↔ HasObject d n body
  object_iff d few q ascend keys only values = (
    λ yes. object_back d few q (keys yes) values,
    λ object. let found = object_onward d object in only found.0 found.1.0,
  )

  pub object_values : (d : ℕ) (q : List ℕ) (ascend : Bool)
      → (IsTrue ascend → HasKeys None ke p q) → ((r : List ℕ) → HasKeys None ke p r → IsTrue ascend)
      → HasObject d n body → HasChildren d ve q
  object_values d q ascend keys only object =
      let found = object_onward d object in
      subst (HasChildren d ve) (keys_once found.1.0 (keys (only found.0 found.1.0))) found.1.1
