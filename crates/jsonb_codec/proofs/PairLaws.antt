-- The first key and the first value form the first pair.
use Rattle.std.proofs.Common.{◌≡◌, ◌+◌, ◌*◌, ◌^◌, ◌<◌, ◌≤◌, ℕ, List, Some, length, take, drop, refl}
use Rattle.std.proofs.Common.{sym, ap, subst, ◌∙◌, arith, length-append, length-drop}
use Rattle.jsonb_value.specs.Tree.{Tree, text, Trees, no_trees, Pairs, no_pairs, pair, Ascends}
use Rattle.jsonb_value.specs.Tree.{Ascend}
use Rattle.jsonb_value.proofs.ExtCodes.{front_of, back_of}
use Rattle.jsonb_codec.specs.Doc.{Keys, Values, Children}
use Rattle.jsonb_codec.specs.Parts.{IsPayloadOf, IsObject, ArePairsOf, KeysThen}
use Rattle.jsonb_codec.specs.Rewriting.{FirstChild}
use Rattle.jsonb_codec.proofs.Entries.{IsType-type_of, length-One, keys_of, values_of}
use Rattle.jsonb_codec.proofs.Entries.{Keys-children, Values-children}
use Rattle.jsonb_codec.proofs.Steps.{Read, front_one, not_at_end}
use Rattle.jsonb_codec.proofs.KeySteps.{IsPairs, object_pairs}

pub children_of_keys : (ps : Pairs) (e p : List ℕ) → Keys ps e p → Children (keys_of ps) e p
children_of_keys ps e p = subst (λ R. R e p) (Keys-children ps)

pub children_of_values : (ps : Pairs) (e p : List ℕ) → Values ps e p → Children (values_of ps) e p
children_of_values ps e p = subst (λ R. R e p) (Values-children ps)

pub record FirstPair (ps : Pairs) (kty : ℕ) (k : List ℕ) (vty : ℕ)
    (v ke kp ve vp : List ℕ) : Type 0 where
  pub value : Tree
  pub others : Pairs
  pub are : ps ≡ pair k value others
  pub is_text : kty ≡ 268435456
  pub is : IsPayloadOf vty v value
  pub later : ArePairsOf others ke kp ve vp

Ascends-none : (k : List ℕ) (ps : Pairs) → Ascends (Some k) ps → Ascend ps
Ascends-none k no_pairs h = tt
Ascends-none k (pair l t ps) h = (tt, h.1)

-- a key and a value that were split off are those of the first pair
pub first_pair : (ps : Pairs) (ke0 kp0 ve0 vp0 : List ℕ) → ArePairsOf ps ke0 kp0 ve0 vp0
    → {kty vty : ℕ} {k ke kp v ve vp : List ℕ}
    → ((ts : Trees) → Children ts ke0 kp0 → FirstChild ts kty k ke kp)
    → ((ts : Trees) → Children ts ve0 vp0 → FirstChild ts vty v ve vp)
    → FirstPair ps kty k vty v ke kp ve vp
first_pair no_pairs ke0 kp0 ve0 vp0 h keys values = let never = (keys no_trees h.1.0).are in cc
first_pair (pair l t ps) ke0 kp0 ve0 vp0 h {kty} {vty} {k} {ke} {kp} {v} {ve} {vp} keys values =
    let f = keys (keys_of (pair l t ps)) (children_of_keys (pair l t ps) ke0 kp0 h.1.0) in
    let g = values (values_of (pair l t ps)) (children_of_values (pair l t ps) ve0 vp0 h.1.1) in
    let key : f.first ≡ text l = cc (f.are) in
    let value : g.first ≡ t = cc (g.are) in
    let other_keys : f.others ≡ keys_of ps = cc (f.are) in
    let other_values : g.others ≡ values_of ps = cc (g.are) in
    let is = subst (IsPayloadOf kty k) key f.is in
    record {
      value = t;
      others = ps;
      are = ap (λ (x : List ℕ). pair x t ps) (sym is.1.0);
      is_text = sym is.0;
      is = subst (IsPayloadOf vty v) value g.is;
      later = (
        Ascends-none l ps h.0.1,
        (
          subst (λ R. R ke kp) (sym (Keys-children ps))
              (subst (λ us. Children us ke kp) other_keys f.later),
          subst (λ R. R ve vp) (sym (Values-children ps))
              (subst (λ us. Children us ve vp) other_values g.later),
        ),
      );
    }

pub as_many_values : (ps : Pairs) (ke0 kp0 ve0 vp0 : List ℕ) → ArePairsOf ps ke0 kp0 ve0 vp0
    → {kty : ℕ} {k ke kp : List ℕ}
    → ((ts : Trees) → Children ts ke0 kp0 → FirstChild ts kty k ke kp)
    → ((ts : Trees) → Children ts ve0 vp0 → ts ≡ no_trees) → ⊥
as_many_values no_pairs ke0 kp0 ve0 vp0 h keys none = let never = (keys no_trees h.1.0).are in cc
as_many_values (pair l t ps) ke0 kp0 ve0 vp0 h keys none =
    let never = none (values_of (pair l t ps)) (children_of_values (pair l t ps) ve0 vp0 h.1.1) in
    cc

pub no_keys : (ps : Pairs) → keys_of ps ≡ no_trees → ps ≡ no_pairs
no_keys no_pairs none = refl
no_keys (pair l t ps) none = cc

-- ---- their bytes in an object

-- the keys after one whose entry word was read
pub keys_after : {ty n : ℕ} {rest e : List ℕ} → Read (2 ^ 28) ty n rest e
    → (ps : Pairs) (p : List ℕ) → Keys ps e p
    → (others : Pairs) × ((q : List ℕ) × (Keys others rest q × (length p ≡ n + length q)))
keys_after read no_pairs p h = absurd (not_at_end read h)
keys_after {n = n} read (pair k t ps) p h =
    let f = front_one read (IsType-type_of (text k)) h in
    (ps, (drop n p, (f.others, omega (arith, f.fits, length-drop n p))))

pub keys_ended : (ps : Pairs) (e p : List ℕ) → length e < 4 → Keys ps e p → length p ≡ 0
keys_ended no_pairs e p short h = ap length h.no_payloads
keys_ended (pair k t ps) e p short h = absurd (omega (arith, length-One h))

module _ {n : ℕ} {body ke later ve p : List ℕ} (kf : ke ≡ take (4 * n) body)
    (kb : later ≡ drop (4 * n) body) (vf : ve ≡ take (4 * n) later) (vb : p ≡ drop (4 * n) later)
    (kn : length ke ≡ 4 * n) (vn : length ve ≡ 4 * n) (m : ℕ)
    (long : (ps : Pairs) (x : List ℕ) → Keys ps ke x → m ≡ length x) (ps : Pairs)
    (h : IsObject n body ps) where
  parts : (q : List ℕ) × IsPairs ke ve p q ps
  parts = object_pairs kf kb vf vb kn vn ps h

  pub keys_room : m ≤ length p
  keys_room =
      let (q, (keys, (split, are))) : (q : List ℕ) × KeysThen ps ke p q =
      (parts.0, parts.1.keys) in
      omega (arith, ap length split ∙ length-append keys q, long ps keys are)

  pub pairs_of_object : (kp vp : List ℕ) → kp ≡ take m p → vp ≡ drop m p → ArePairsOf ps ke kp ve vp
  pairs_of_object kp vp front back =
      let (q, w) = parts in
      let (keys, (split, are)) = w.keys in
      let len = sym (long ps keys are) in (
        w.ascend,
        (
          subst (Keys ps ke) (sym (front ∙ front_of m keys q p split len)) are,
          subst (Values ps ve) (sym (back ∙ back_of m keys q p split len)) w.values,
        ),
      )
