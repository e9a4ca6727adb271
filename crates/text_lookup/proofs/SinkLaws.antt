-- What the sink holds after each call.
use Rattle.std.proofs.Common.{◌≡◌, ℕ, suc, List, [], ◌∷◌, refl, sym, ap, subst}
use Rattle.std.proofs.Common.{◌∙◌, length, arith, rules, Bool, true, false, Option, Some, None}
use Rattle.std.proofs.Common.{◌≤◌, ◌<◌, ◌^◌, eq-eqb, Global, chars, inr}
use Rattle.std.proofs.lemmas.Str.{encodes-chars, length-le-encodes}
use Rattle.std.specs.declared.borrow.CowStr.{CowStr}
use Rattle.std.specs.Prelude.{◌==◌, ◌&&◌, if◌then◌else◌, nat_eq, IsUtf8}
use Rattle.std.specs.Ordering.{is_eq, match_ordering, nat_cmp}
use Rattle.std.specs.declared.cmp.Ordering.{Ordering}
use Rattle.std.specs.declared.cmp.Ordering.TheVariants.{Less, Equal, Greater}
use Rattle.std.specs.Cmp.Lexicographic.{nat_list_cmp_total, pointwise, same_text, slice_cmp}
use Rattle.std.specs.Cmp.Lexicographic.{texts_ties}
use Rattle.std.specs.BTreeMap.{insert_entry}
use Rattle.std.proofs.lemmas.Bool.Decides.{nat_tests}
use Rattle.std.proofs.lemmas.Cmp.{tied_itself}
use Rattle.jsonb_value.specs.Json.Syntax.{Entries, JsonText, pairs}
use Rattle.jsonb_value.specs.Reader.Resume.{Adds, AddsKey, Content, State, at_key, going, items}
use Rattle.jsonb_value.specs.Reader.Resume.{members, put, whole}
use Rattle.jsonb_value.specs.TextDepth.{text_depth}
use Rattle.jsonb_value.specs.declared.parser.number.Exponents.{Exponents}
use Rattle.jsonb_value.specs.Tree.{Tree, Pairs, no_pairs, pair, null, boolean, number, text}
use Rattle.jsonb_value.specs.Tree.{array, object}
use Rattle.jsonb_value.specs.Value.{cow_bytes, tree_of, trees_of}
use Rattle.jsonb_value.specs.declared.number.Number.{Number}
use Rattle.jsonb_value.specs.declared.value.Value.{Value, the_lemmas}
use Rattle.jsonb_value.specs.declared.value.Value as value
use Rattle.jsonb_value.specs.WellFormed.{IsNumber, IsTree, ArePairs}
use Rattle.jsonb_codec.proofs.OnTape.Items.{trees_snoc}
use Rattle.jsonb_codec.proofs.OnTape.KeyOrder.{insert_ascends}
use Rattle.jsonb.specs.Lookup.{find_pair}
use Rattle.jsonb.specs.Node.{IsContainer}
use Rattle.text_lookup.specs.Lookup.{IsLookedUp, IsMember, IsMemberOf}
use Rattle.text_lookup.specs.Sink.{IsDeeper, IsFoundIn, IsIn, IsMet, IsOpened, IsTaken, is_wanted}
use Rattle.text_lookup.specs.Sink.{sink_is}
use Rattle.text_lookup.specs.declared.member.TextMember.{TextMember}
use Rattle.text_lookup.specs.declared.member.TextMember.TheVariants.{Missing, Scalar, Unread}
use Rattle.text_lookup.specs.declared.sink.MemberSink.{MemberSink}
use Rattle.text_lookup.proofs.FitLaws.{short_fits}

-- ---- the value at a key, after one more member

tested : (key k : List ℕ) (b : Bool) → pointwise nat_eq key k ≡ b
    → ((length k == length key) && b) ≡ b
tested key k true e =
    let same : length k ≡ length key = ap length (sym (same_text key k (sym e))) in
    rw (eq-eqb (length k) (length key) same) refl
tested key k false e = grind arith

abbrev at : List ℕ → Pairs → Option Tree
at key ps = find_pair (pointwise nat_eq key) (length key) ps

at_first : (key k : List ℕ) (t : Tree) (ps : Pairs)
    → at key (pair k t ps) ≡ (if pointwise nat_eq key k then Some t else at key ps)
at_first key k t ps =
    ap (λ (b : Bool). if b then Some t else at key ps)
    (tested key k (pointwise nat_eq key k) refl)

same_key : (a b : List ℕ) → slice_cmp nat_cmp a b ≡ Equal → a ≡ b
same_key a b e = same_text a b (sym (texts_ties a b ∙ ap is_eq e))

compared_same : (a b : List ℕ) → a ≡ b → slice_cmp nat_cmp a b ≡ Equal
compared_same a b e =
    ap (λ (z : List ℕ). slice_cmp nat_cmp z b) e ∙ tied_itself nat_list_cmp_total b

replaced : {A : Type 0} (a b : Bool) (x y z : A) → a ≡ b
    → (if b then x else z) ≡ (if a then x else if b then y else z)
replaced a b x y z e = grind arith

swapped : {A : Type 0} (a b : Bool) (x y z : A) → (a ≡ true → b ≡ true → ⊥)
    → (if b then y else if a then x else z) ≡ (if a then x else if b then y else z)
swapped true true x y z h = absurd (h refl refl)
swapped true false x y z h = refl
swapped false b x y z h = refl

at_inserted : (key : List ℕ) (front : Entries) (k : List ℕ) (t : Tree)
    → at key (pairs (insert_entry (slice_cmp nat_cmp) front k t))
    ≡ (if pointwise nat_eq key k then Some t else at key (pairs front))
at_inserted key [] k t = at_first key k t no_pairs
at_inserted key (e ∷ es) k t = by (slice_cmp nat_cmp k e.0) refl (at_inserted key es k t)
  where
    by : (o : Ordering) → slice_cmp nat_cmp k e.0 ≡ o
        → at key (pairs (insert_entry (slice_cmp nat_cmp) es k t))
        ≡ (if pointwise nat_eq key k then Some t else at key (pairs es))
        → at key (pairs (match_ordering o ((k, t) ∷ e ∷ es) ((e.0, t) ∷ es)
        (e ∷ insert_entry (slice_cmp nat_cmp) es k t)))
        ≡ (if pointwise nat_eq key k then Some t else at key (pair e.0 e.1 (pairs es)))
    by Less is later = at_first key k t (pair e.0 e.1 (pairs es))
    by Equal is later =
        at_first key e.0 t (pairs es)
        ∙ replaced (pointwise nat_eq key k) (pointwise nat_eq key e.0) (Some t) (Some e.1)
        (at key (pairs es)) (ap (pointwise nat_eq key) (same_key k e.0 is))
        ∙ ap (λ (o : Option Tree). if pointwise nat_eq key k then Some t else o)
        (sym (at_first key e.0 e.1 (pairs es)))
    by Greater is later =
        at_first key e.0 e.1 (pairs (insert_entry (slice_cmp nat_cmp) es k t))
        ∙ ap (λ (o : Option Tree). if pointwise nat_eq key e.0 then Some e.1 else o) later
        ∙ swapped (pointwise nat_eq key k) (pointwise nat_eq key e.0) (Some t) (Some e.1)
        (at key (pairs es)) (λ one other.
        let same = compared_same k e.0
        (sym (same_text key k (sym one)) ∙ same_text key e.0 (sym other)) in
        let never : ⊥ = cc in never)
        ∙ ap (λ (o : Option Tree). if pointwise nat_eq key k then Some t else o)
        (sym (at_first key e.0 e.1 (pairs es)))

-- ---- trees

pairs_with : (front : Entries) (k : List ℕ) (t : Tree) → ArePairs (pairs front) → IsUtf8 k
    → IsTree t → ArePairs (pairs (insert_entry (slice_cmp nat_cmp) front k t))
pairs_with [] k t are utf8 is = (utf8, (is, tt))
pairs_with (e ∷ es) k t are utf8 is =
    by (slice_cmp nat_cmp k e.0) (pairs_with es k t are.1.1 utf8 is)
  where
    by : (o : Ordering) → ArePairs (pairs (insert_entry (slice_cmp nat_cmp) es k t))
        → ArePairs (pairs (match_ordering o ((k, t) ∷ e ∷ es) ((e.0, t) ∷ es)
        (e ∷ insert_entry (slice_cmp nat_cmp) es k t)))
    by Less later = (utf8, (is, are))
    by Equal later = (are.0, (is, are.1.1))
    by Greater later = (are.0, (are.1.0, later))

object_with : (front : Entries) (k : List ℕ) (t : Tree) → IsTree (object (pairs front)) → IsUtf8 k
    → IsTree t → IsTree (object (pairs (insert_entry (slice_cmp nat_cmp) front k t)))
object_with front k t is utf8 value =
    (insert_ascends None front k t is.0 tt, pairs_with front k t is.1 utf8 value)

-- ---- one more value

kept_elsewhere : (is_at : Bool) (depth : ℕ) (new given old : TextMember)
    → new ≡ (if is_at && (depth == 1) then given else old) → is_at ≡ false → new ≡ old
kept_elsewhere is_at depth new given old taken off =
    taken ∙ ap (λ (b : Bool). if b && (depth == 1) then given else old) off

not_one : (n : ℕ) (b : Bool) → (n == 1) ≡ b → (n ≡ 1 → ⊥) → b ≡ false
not_one n b e other = grind (arith, nat_tests)

not_zero : (n : ℕ) (b : Bool) → (n == 0) ≡ b → (n ≡ 0 → ⊥) → b ≡ false
not_zero n b e other = grind (arith, nat_tests)

both_not : (a b : Bool) → b ≡ false → (a && b) ≡ false
both_not a b e = grind arith

kept_at_other_depth : (is_at : Bool) (depth : ℕ) (new given old : TextMember)
    → new ≡ (if is_at && (depth == 1) then given else old) → (depth ≡ 1 → ⊥) → new ≡ old
kept_at_other_depth is_at depth new given old taken other =
    taken
    ∙ ap (λ (b : Bool). if b then given else old)
    (both_not is_at (depth == 1) (not_one depth (depth == 1) refl other))

taken_at_key : (is_at : Bool) (depth : ℕ) (new given old : TextMember)
    → new ≡ (if is_at && (depth == 1) then given else old) → is_at ≡ true → depth ≡ 1
    → new ≡ given
taken_at_key is_at depth new given old taken on one =
    taken
    ∙ ap (λ (b : Bool). if b && (depth == 1) then given else old) on
    ∙ ap (λ (n : ℕ). if n == 1 then given else old) one

module _ (key : List ℕ) (depth : ℕ) (is_at : Bool) (old new given : TextMember) (t : Tree)
    (is : IsTree t) (of : IsMember given (Some t))
    (taken : new ≡ (if is_at && (depth == 1) then given else old))
    (outermost : depth ≡ 0 → IsLookedUp key Unread t) where
  elsewhere : is_at ≡ false → new ≡ old
  elsewhere off = kept_elsewhere is_at depth new given old taken off

  deep : (n : ℕ) → depth ≡ suc (suc n) → new ≡ old
  deep n far = kept_at_other_depth is_at depth new given old taken (λ one. omega arith)

  chosen : (b : Bool) (found : Option Tree) → is_at ≡ b → depth ≡ 1 → IsMember old found
      → IsMember new (if b then Some t else found)
  chosen true found on one h =
      subst (λ (m : TextMember). IsMember m (Some t))
      (sym (taken_at_key is_at depth new given old taken on one)) of
  chosen false found off one h =
      subst (λ (m : TextMember). IsMember m found) (sym (elsewhere off)) h

  put_is : (cs : List Content) → IsIn key depth is_at old (going cs)
      → IsIn key depth is_at new (put t cs)
  put_is [] h =
      let same : new ≡ Unread = elsewhere h.1.1.0 ∙ h.1.1.1 in
      (is, subst (λ (m : TextMember). IsLookedUp key m t) (sym same) (outermost h.0))
  put_is (items front ∷ []) h = (
    h.0,
    (
      (trees_snoc front t h.1.0.0 is, h.1.0.1),
      (h.1.1.0, elsewhere h.1.1.0 ∙ h.1.1.1),
    ),
  )
  put_is (items front ∷ d ∷ cs) h = (
    h.0,
    (
      (trees_snoc front t h.1.0.0 is, h.1.0.1),
      subst (λ (m : TextMember). IsFoundIn key is_at m (d ∷ cs))
          (sym (deep (length cs) h.0)) h.1.1,
    ),
  )
  put_is (members front ∷ cs) h = tt
  put_is (at_key front k ∷ []) h = (
    h.0,
    (
      (object_with front k t h.1.0.0.0 h.1.0.0.1 is, h.1.0.1),
      subst (IsMember new) (sym (at_inserted key front k t))
          (chosen (pointwise nat_eq key k) (at key (pairs front)) h.1.1.0 h.0 h.1.1.1),
    ),
  )
  put_is (at_key front k ∷ d ∷ cs) h = (
    h.0,
    (
      (object_with front k t h.1.0.0.0 h.1.0.0.1 is, h.1.0.1),
      subst (λ (m : TextMember). IsFoundIn key is_at m (d ∷ cs))
          (sym (deep (length cs) h.0)) h.1.1,
    ),
  )

-- a sink of the same parts is in the same state
moved : (s : MemberSink) (state : State) (key : List ℕ) (depth : ℕ) (is_at : Bool)
    (member : TextMember) → s.key.now ≡ key → s.depth ≡ depth → s.is_at_key ≡ is_at
    → s.member ≡ member → IsIn key depth is_at member state → sink_is s state
moved s state key depth is_at member k d a m h =
    subst (λ (x : List ℕ). IsIn x s.depth s.is_at_key s.member state) (sym k)
    (subst (λ (x : ℕ). IsIn key x s.is_at_key s.member state) (sym d)
    (subst (λ (x : Bool). IsIn key depth x s.member state) (sym a)
    (subst (λ (x : TextMember). IsIn key depth is_at x state) (sym m) h)))

pub value_taken : (old new : MemberSink) (given : TextMember) (t : Tree) → IsTaken old given new
    → IsTree t → IsMember given (Some t)
    → (old.depth ≡ 0 → IsLookedUp old.key.now Unread t) → Adds sink_is old new t
value_taken old new given t taken is of outermost cs h =
    moved new (put t cs) old.key.now old.depth old.is_at_key new.member
    (ap (λ k. k.now) taken.key) taken.depth taken.is_at_key refl
    (put_is old.key.now old.depth old.is_at_key old.member new.member given t is of taken.member
    outermost cs h)

-- ---- a key

deep_key : (n : ℕ) (b c : Bool) (m : ℕ) → n ≡ suc (suc m) → (if n == 1 then b else c) ≡ c
deep_key n b c m far =
    ap (λ (x : Bool). if x then b else c) (not_one n (n == 1) refl (λ one. omega arith))

first_key : (n : ℕ) (b c : Bool) → n ≡ 1 → (if n == 1 then b else c) ≡ b
first_key n b c one = ap (λ (x : ℕ). if x == 1 then b else c) one

pub key_met : (old new : MemberSink) (key : List ℕ) → IsMet old key new → IsUtf8 key
    → AddsKey sink_is old new key
key_met old new key met utf8 front [] h =
    moved new (going (at_key front key ∷ [])) old.key.now old.depth new.is_at_key old.member
    (ap (λ k. k.now) met.key) met.depth refl met.member (
      h.0,
      (
        ((h.1.0.0, utf8), h.1.0.1),
        (
          met.is_at_key ∙ first_key old.depth (pointwise nat_eq old.key.now key) old.is_at_key h.0,
          h.1.1,
        ),
      ),
    )
key_met old new key met utf8 front (d ∷ cs) h =
    moved new (going (at_key front key ∷ d ∷ cs)) old.key.now old.depth old.is_at_key old.member
    (ap (λ k. k.now) met.key) met.depth
    (met.is_at_key ∙ deep_key old.depth (pointwise nat_eq old.key.now key) old.is_at_key
    (length cs) h.0) met.member (h.0, (((h.1.0.0, utf8), h.1.0.1), h.1.1))

-- ---- containers

pub array_begun : (old new : MemberSink) → IsDeeper old new → (cs : List Content)
    → sink_is old (going cs) → sink_is new (going (items [] ∷ cs))
array_begun old new deeper [] h =
    moved new (going (items [] ∷ [])) old.key.now (suc old.depth) old.is_at_key old.member
    (ap (λ k. k.now) deeper.key) deeper.depth deeper.is_at_key deeper.member
    (ap suc h.0, ((tt, h.1.0), h.1.1))
array_begun old new deeper (c ∷ cs) h =
    moved new (going (items [] ∷ c ∷ cs)) old.key.now (suc old.depth) old.is_at_key old.member
    (ap (λ k. k.now) deeper.key) deeper.depth deeper.is_at_key deeper.member
    (ap suc h.0, ((tt, h.1.0), h.1.1))

-- the outermost object begins, or another
pub object_begun : (old mid new : MemberSink) → IsOpened old mid → IsDeeper mid new
    → (cs : List Content) → sink_is old (going cs) → sink_is new (going (members [] ∷ cs))
object_begun old mid new opened deeper [] h =
    moved new (going (members [] ∷ [])) old.key.now (suc old.depth) old.is_at_key Missing
    (ap (λ k. k.now) (deeper.key ∙ opened.key)) (deeper.depth ∙ ap suc opened.depth)
    (deeper.is_at_key ∙ opened.is_at_key)
    (deeper.member ∙ opened.member
    ∙ ap (λ (n : ℕ). if n == 0 then Missing else old.member) h.0)
    (ap suc h.0, (((tt, tt), h.1.0), refl))
object_begun old mid new opened deeper (c ∷ cs) h =
    moved new (going (members [] ∷ c ∷ cs)) old.key.now (suc old.depth) old.is_at_key old.member
    (ap (λ k. k.now) (deeper.key ∙ opened.key)) (deeper.depth ∙ ap suc opened.depth)
    (deeper.is_at_key ∙ opened.is_at_key)
    (deeper.member ∙ opened.member
    ∙ ap (λ (b : Bool). if b then Missing else old.member)
    (not_zero old.depth (old.depth == 0) refl (λ none. let far = h.0 in omega arith)))
    (ap suc h.0, (((tt, tt), h.1.0), h.1.1))

-- what is around the innermost container
array_around : (key : List ℕ) (is_at : Bool) (member : TextMember) (front : List Tree)
    (cs : List Content) → IsFoundIn key is_at member (items front ∷ cs)
    → IsFoundIn key is_at member cs
array_around key is_at member front [] h = h
array_around key is_at member front (d ∷ cs) h = h

module _ (old mid new : MemberSink) (less : IsDeeper mid old) (taken : IsTaken mid Unread new) where
  pub array_ended : (front : List Tree) (cs : List Content)
      → sink_is old (going (items front ∷ cs)) → sink_is new (put (array (trees_of front)) cs)
  array_ended front cs h =
      let low : mid.depth ≡ length cs =
      let far = h.0 in let near = less.depth in omega arith in
      let around : sink_is mid (going cs) =
      moved mid (going cs) old.key.now mid.depth old.is_at_key old.member
      (ap (λ k. k.now) (sym less.key)) refl (sym less.is_at_key) (sym less.member)
      (low, (h.1.0.1, array_around old.key.now old.is_at_key old.member front cs h.1.1)) in
      value_taken mid new Unread (array (trees_of front)) taken h.1.0.0
      (array (trees_of front), (refl, refl)) (λ none. refl) cs around

  pub object_ended : (front : Entries) (cs : List Content)
      → sink_is old (going (members front ∷ cs)) → sink_is new (put (object (pairs front)) cs)
  object_ended front [] h =
      let none : mid.depth ≡ 0 = let far = h.0 in let near = less.depth in omega arith in
      let same : new.member ≡ old.member =
      kept_at_other_depth mid.is_at_key mid.depth new.member Unread mid.member taken.member
      (λ one. omega arith) ∙ sym less.member in (
        h.1.0.0,
        subst (λ (k : List ℕ). IsLookedUp k new.member (object (pairs front)))
            (sym (ap (λ k. k.now) (taken.key ∙ sym less.key)))
            (subst (λ (m : TextMember). IsLookedUp old.key.now m (object (pairs front))) (sym same)
            h.1.1),
      )
  object_ended front (d ∷ cs) h =
      let low : mid.depth ≡ suc (length cs) =
      let far = h.0 in let near = less.depth in omega arith in
      let around : sink_is mid (going (d ∷ cs)) =
      moved mid (going (d ∷ cs)) old.key.now mid.depth old.is_at_key old.member
      (ap (λ k. k.now) (sym less.key)) refl (sym less.is_at_key) (sym less.member)
      (low, (h.1.0.1, h.1.1)) in
      value_taken mid new Unread (object (pairs front)) taken h.1.0.0
      (object (pairs front), (refl, refl)) (λ none. absurd (omega arith)) (d ∷ cs) around

-- ---- scalars

null_is : tree_of value.Null ≡ null
null_is = search (rules, the_lemmas)

truth_is : (b : Bool) → tree_of (value.Bool b) ≡ boolean b
truth_is b = search (rules, the_lemmas)

number_is : (x : Number) → tree_of (value.Number x) ≡ number x
number_is x = search (rules, the_lemmas)

string_is : (s : CowStr Global) → tree_of (value.String s) ≡ text (cow_bytes s)
string_is s = search (rules, the_lemmas)

member_is : (v : Value) (t : Tree) → tree_of v ≡ t → (IsContainer t → ⊥)
    → IsMember (Scalar v) (Some t)
member_is v t is scalar = (ap Some (sym is), λ h. scalar (subst IsContainer is h))

no_truth : (b : Bool) → IsContainer (boolean b) → ⊥
no_truth true h = omega arith
no_truth false h = omega arith

pub null_taken : (old new : MemberSink) → IsTaken old (Scalar value.Null) new
    → Adds sink_is old new null
null_taken old new taken =
    value_taken old new (Scalar value.Null) null taken tt
    (member_is value.Null null null_is (λ h. omega arith)) (λ none. refl)

pub truth_taken : (old new : MemberSink) (b : Bool) → IsTaken old (Scalar (value.Bool b)) new
    → Adds sink_is old new (boolean b)
truth_taken old new b taken =
    value_taken old new (Scalar (value.Bool b)) (boolean b) taken tt
    (member_is (value.Bool b) (boolean b) (truth_is b) (no_truth b)) (λ none. refl)

pub number_taken : (old new : MemberSink) (x : Number) → IsNumber x
    → IsTaken old (Scalar (value.Number x)) new → Adds sink_is old new (number x)
number_taken old new x is taken =
    value_taken old new (Scalar (value.Number x)) (number x) taken is
    (member_is (value.Number x) (number x) (number_is x) (λ h. omega arith)) (λ none. refl)

pub text_taken : (old new : MemberSink) (s : CowStr Global) (bytes : List ℕ) → cow_bytes s ≡ bytes
    → IsUtf8 bytes → IsTaken old (Scalar (value.String s)) new → Adds sink_is old new (text bytes)
text_taken old new s bytes same utf8 taken =
    value_taken old new (Scalar (value.String s)) (text bytes) taken utf8
    (member_is (value.String s) (text bytes) (string_is s ∙ ap text same) (λ h. omega arith))
    (λ none. refl)

-- a value that is not wanted
pub passed_by : (s : MemberSink) (given : TextMember) → is_wanted s ≡ false → IsTaken s given s
passed_by s given not = record {
  key = refl;
  depth = refl;
  is_at_key = refl;
  member = sym (ap (λ (b : Bool). if b then given else s.member) not);
}

-- ---- the whole

pub found_in : (rule : Exponents) (depth : ℕ) (spelling : List ℕ) (key : List ℕ) (s : MemberSink)
    → IsUtf8 spelling → text_depth spelling ≤ depth → length spelling < 2 ^ 22
    → true ≡ pointwise nat_eq s.key.now key
    → (t : Tree) × (JsonText rule (chars spelling) t × sink_is s (whole t))
    → IsMemberOf rule depth key s.member spelling
found_in rule depth spelling key s utf8 low short same (t, (json, (is, found))) =
    let fewer = length-le-encodes (chars spelling) in
    let bytes = ap length (encodes-chars spelling utf8) in
    inr (
      low,
      (
        t,
        (
          json,
          (
            is,
            (
              short_fits rule (chars spelling) t json (omega arith),
              subst (λ (k : List ℕ). IsLookedUp k s.member t) (same_text s.key.now key same) found,
            ),
          ),
        ),
      ),
    )
