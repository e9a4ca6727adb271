-- Keys that ascend in the order read.
use Rattle.std.proofs.Common.{◌≡◌, ℕ, ◌+◌, refl, sym, ap, subst, ◌∙◌, List, [], ◌∷◌, ◌++◌, Option}
use Rattle.std.proofs.Common.{Some, None, Bool, true, true≢false, drop, length, take}
use Rattle.std.proofs.Common.{arith, length-append, Bor}
use Rattle.std.proofs.lemmas.List.{append-nil, take-append-le}
use Rattle.std.specs.Prelude.{IsUtf8}
use Rattle.byteorder.specs.Endian.{big_number}
use Rattle.std.specs.Bool.{◌==◌}
use Rattle.std.specs.Ordering.{ordering_index}
use Rattle.std.specs.declared.cmp.Ordering.{Ordering}
use Rattle.std.specs.declared.cmp.Ordering.TheVariants.{Equal, Greater}
use Rattle.std.specs.Ordering.{nat_cmp}
use Rattle.std.specs.declared.cmp.Ordering.TheVariants.{Less}
use Rattle.std.specs.Cmp.Lexicographic.{slice_cmp}
use Rattle.jsonb_value.specs.Json.Syntax.{Entries}
use Rattle.jsonb_value.specs.Reader.Resume.{Content, at_key, members}
use Rattle.jsonb_codec.specs.Tape.{AreOpen, Grows, KeyIs, LastBelow, MembersAre, cut}
use Rattle.jsonb_codec.specs.declared.tape.key.Key.TheVariants as keys
use Rattle.jsonb_codec.specs.declared.tape.place.Frame.{Frame}
use Rattle.jsonb_codec.proofs.OnTape.KeyOrder.{ascends_snoc}
use Rattle.jsonb_codec.proofs.OnTape.Open.{cut_last}
use Rattle.jsonb_codec.specs.declared.tape.member.Member.{Member}
use Rattle.jsonb_codec.specs.declared.tape.place.Place.{Place}
use Rattle.jsonb_codec.specs.declared.tape.storage.Storage.{Storage}

-- the last member has a key
pub last_key : (s : Storage) (base : ℕ) (ps : List Place) (front : List Member) (last : Member)
    (es : Entries) → MembersAre s base ps (front ++ last ∷ []) es
    → (k : List ℕ) × KeyIs s last.key last.prefix k
last_key s base ps [] last [] h = absurd h
last_key s base ps [] last (e ∷ es) h = (e.0, h.0.0)
last_key s base ps (m ∷ front) last [] h = absurd h
last_key s base ps (m ∷ front) last (e ∷ es) h = last_key s base ps front last es h.1

-- the last key is below this one
pub last_below : (s : Storage) (base : ℕ) (ps : List Place) (front : List Member) (last : Member)
    (es : Entries) (before : Option (List ℕ)) (key : List ℕ)
    → MembersAre s base ps (front ++ last ∷ []) es
    → ((k : List ℕ) → KeyIs s last.key last.prefix k → slice_cmp nat_cmp k key ≡ Less)
    → LastBelow before es key
last_below s base ps [] last [] before key h below = absurd h
last_below s base ps [] last (e ∷ []) before key h below = below e.0 h.0.0
last_below s base ps [] last (e ∷ f ∷ es) before key h below = absurd h.1
last_below s base ps (m ∷ front) last [] before key h below = absurd h
last_below s base ps (m ∷ front) last (e ∷ es) before key h below =
    last_below s base ps front last es (Some e.0) key h.1 below

pub is_less : (o : Ordering) (b : Bool) → b ≡ (ordering_index o == 0) → b ≡ true → o ≡ Less
is_less Less b is on = refl
is_less Equal b is on = absurd (true≢false (sym on ∙ is))
is_less Greater b is on = absurd (true≢false (sym on ∙ is))

-- a key comes after the members
pub key_added : (s : Storage) (f : Frame) (ascends : Bool) (ps : List Place) (ws : List ℕ)
    (ms : List Member) (m : Member) (b : ℕ) (front : Entries) (key : List ℕ) (cs : List Content)
    → AreOpen s f ps ws ms b (members front ∷ cs) → KeyIs s m.key m.prefix key
    → m.part.start ≡ b → m.part.first ≡ length ps → (ascends ≡ true → f.ascends ≡ true)
    → (ascends ≡ true → (base : ℕ) (qs : List Place) (read : Entries)
    → MembersAre s base qs (drop f.members ms) read → LastBelow None read key)
    → AreOpen s (record f { ascends = ascends }) ps ws (ms ++ m ∷ []) b (at_key front key ∷ cs)
key_added s f ascends ps ws ms m b front key cs (h, (g, (at, around))) is start first was below = (
  record {
    kind_is = h.kind_is;
    start_from = h.start_from;
    words_from = h.words_from;
    before = ms;
    last = m;
    all = refl;
    members_from = h.members_from;
    read = h.read;
    members = h.members;
    is = h.is;
    has_key = is;
    start = start;
    first = first;
    ascend = λ on t. ascends_snoc None h.read key t (h.ascend (was on))
        (below on (f.place + 1) ps h.read h.members);
    values = h.values;
  },
  (
    g,
    (
      at,
      subst (λ xs. AreOpen s g (take f.place ps) (take f.words ws) xs f.start cs)
          (sym (take-append-le f.members ms (m ∷ []) h.members_from)) around,
    ),
  ),
)

-- ---- keys that are spelled with escapes

pub spelled_grows : (old new : Storage) (more : List ℕ)
    → new.spelled.items ≡ old.spelled.items ++ more → new.payload ≡ old.payload
    → new.heads ≡ old.heads → new.moved ≡ old.moved → Grows old new
spelled_grows old new more spelled payload heads moved = record {
  more_payload = [];
  more_heads = [];
  more_spelled = more;
  more_moved = [];
  payload = ap (λ v. v.items) payload ∙ sym (append-nil old.payload.items);
  heads = ap (λ v. v.items) heads ∙ sym (append-nil old.heads.items);
  spelled = spelled;
  moved = ap (λ v. v.items) moved ∙ sym (append-nil old.moved.items);
}

pub spelled_key : (old new : Storage) (start end n : ℕ) (bytes : List ℕ)
    → new.spelled.items ≡ old.spelled.items ++ bytes → start ≡ length old.spelled.items
    → end ≡ length new.spelled.items → n ≡ big_number 8 bytes → IsUtf8 bytes
    → KeyIs new (keys.Spelled start end) n bytes
spelled_key old new start end n bytes grown begins ends number utf8 = record {
  is_key = (
    omega (arith, begins, ends, ap length grown, length-append old.spelled.items bytes),
    omega (arith, ends),
  );
  same = ap (λ k. cut k end new.spelled.items) begins
      ∙ ap (λ k. cut (length old.spelled.items) k new.spelled.items) ends
      ∙ ap (λ xs. cut (length old.spelled.items) (length xs) xs) grown
      ∙ cut_last old.spelled.items bytes;
  number = number;
  utf8 = utf8;
}

pub text_key : (s : Storage) (text : Bor (List ℕ)) (n : ℕ) (bytes : List ℕ) → text.now ≡ bytes
    → n ≡ big_number 8 bytes → IsUtf8 bytes → KeyIs s (keys.Text text) n bytes
text_key s text n bytes same number utf8 = record {
  is_key = tt;
  same = same;
  number = number;
  utf8 = utf8;
}
