-- Reading with a list of the open containers in place of recursion.
use Rattle.std.proofs.Common.{◌≡◌, ℕ, suc, ◌<◌, ◌≤◌, refl, ap, List, [], ◌∷◌, ◌++◌}
use Rattle.std.proofs.Common.{length, arith, Option, Some, None, eqb-true, false}
use Rattle.std.specs.Prelude.{◌≢◌, ◌==◌}
use Rattle.std.specs.Ordering.{nat_cmp}
use Rattle.std.specs.Cmp.Lexicographic.{slice_cmp}
use Rattle.std.specs.BTreeMap.{insert_entry}
use Rattle.jsonb_value.specs.declared.parser.number.Exponents.{Exponents}
use Rattle.jsonb_value.specs.Tree.{Tree, array, object, no_trees, no_pairs}
use Rattle.jsonb_value.specs.Value.{trees_of}
use Rattle.jsonb_value.specs.Json.Bind.{◌>>=◌}
use Rattle.jsonb_value.specs.Json.Characters.{quote, comma, colon, close_bracket, close_brace}
use Rattle.jsonb_value.specs.Json.Characters.{open_bracket, open_brace}
use Rattle.jsonb_value.specs.Json.Syntax.{Entries, pairs}
use Rattle.jsonb_value.specs.Reader.Reading.{skip_blank, expect, read_text}
use Rattle.jsonb_value.specs.Reader.Reading.{after_item, read_items}
use Rattle.jsonb_value.specs.Reader.Reading.{after_member, read_members}
use Rattle.jsonb_value.specs.Reader.Reading.{read_value, read_document}
use Rattle.jsonb_value.specs.Reader.Resume.{Part, in_array, in_object, resume, steps, value_then}
use Rattle.jsonb_value.specs.Reader.Resume.{Enough, key_then}

pub fewer : (whole : ℕ) (ps : List Part) (k l : ℕ) → Enough whole ps k → l ≤ k → Enough whole ps l
fewer whole [] k l h le = omega (arith, h)
fewer whole (in_array n turns front ∷ ps) k l h le =
    (omega (arith, h.0), (omega (arith, h.1.0), fewer whole ps k l h.1.1 le))
fewer whole (in_object n turns front key ∷ ps) k l h le =
    (omega (arith, h.0), (omega (arith, h.1.0), fewer whole ps k l h.1.1 le))

pub enough_steps : (whole : ℕ) (ps : List Part) (k : ℕ) → Enough whole ps k → k < steps whole ps
enough_steps whole [] k h = h
enough_steps whole (in_array n turns front ∷ ps) k h = h.0
enough_steps whole (in_object n turns front key ∷ ps) k h = h.0

-- ---- the whole text

bind_bind : {A B C : Type 0} (o : Option A) (f : A → Option B) (g : B → Option C)
    → (o >>= f) >>= g ≡ o >>= (λ x. f x >>= g)
bind_bind None f g = refl
bind_bind (Some x) f g = refl

pub begins : (rule : Exponents) (s : List ℕ)
    → read_document rule s ≡ value_then rule (suc (length s)) [] (skip_blank s)
begins rule s = bind_bind (read_value rule (suc (length s)) (skip_blank s)) _ _

pub ends : (rule : Exponents) (t : Tree) (s : List ℕ) → s ≡ [] → resume rule [] t s ≡ Some t
ends rule t s e = grind arith

pub goes_on : (rule : Exponents) (t : Tree) (s : List ℕ) (c : ℕ) (rest : List ℕ) → s ≡ c ∷ rest
    → resume rule [] t s ≡ None
goes_on rule t s c rest e = grind arith

-- ---- a value

pub value_read : (rule : Exponents) (whole : ℕ) (ps : List Part) (s : List ℕ) (t : Tree)
    (rest : List ℕ) → read_value rule (steps whole ps) s ≡ Some (t, rest)
    → value_then rule whole ps s ≡ resume rule ps t (skip_blank rest)
value_read rule whole ps s t rest e = ap (λ o. o >>= λ x. resume rule ps x.0 (skip_blank x.1)) e

pub value_fails : (rule : Exponents) (whole : ℕ) (ps : List Part) (s : List ℕ)
    → read_value rule (steps whole ps) s ≡ None → value_then rule whole ps s ≡ None
value_fails rule whole ps s e = ap (λ o. o >>= λ x. resume rule ps x.0 (skip_blank x.1)) e

-- ---- arrays

abbrev past_blank : Tree × List ℕ → Option (Tree × List ℕ)
past_blank x = Some (x.0, skip_blank x.1)

abbrev named : List ℕ → Tree × List ℕ → Option ((List ℕ × Tree) × List ℕ)
named key x = Some ((key, x.0), x.1)

items_next : (rule : Exponents) (n turns : ℕ) (front : List Tree) (s : List ℕ) (ps : List Part)
    (whole : ℕ) → (read_items (read_value rule n) (suc turns) front s
    >>= λ x. resume rule ps x.0 (skip_blank x.1))
    ≡ value_then rule whole (in_array n turns front ∷ ps) (skip_blank s)
unfolding read_items
items_next rule n turns front s ps whole = by (read_value rule n (skip_blank s))
  where
    by : (o : Option (Tree × List ℕ))
        → (((o >>= past_blank)
        >>= λ x. after_item (read_items (read_value rule n) turns) (front ++ x.0 ∷ []) x.1)
        >>= λ x. resume rule ps x.0 (skip_blank x.1))
        ≡ (o >>= λ x. resume rule (in_array n turns front ∷ ps) x.0 (skip_blank x.1))
    by None = refl
    by (Some x) = refl

pub array_opens : (rule : Exponents) (whole : ℕ) (ps : List Part) (n turns : ℕ) (s rest : List ℕ)
    → steps whole ps ≡ suc n → n ≡ suc turns → s ≡ open_bracket ∷ rest
    → None ≡ expect close_bracket (skip_blank rest)
    → value_then rule whole ps s
    ≡ value_then rule whole (in_array n turns [] ∷ ps) (skip_blank rest)
unfolding read_value
array_opens rule whole ps n turns s rest e is starts some =
    rw (e, starts, ← some) (rw is (items_next rule (suc turns) turns [] rest ps whole))

pub item_goes_on : (rule : Exponents) (whole n turns : ℕ) (front : List Tree) (ps : List Part)
    (t : Tree) (s : List ℕ) (c : ℕ) (rest : List ℕ) → s ≡ c ∷ rest → c ≡ comma
    → resume rule (in_array n (suc turns) front ∷ ps) t s
    ≡ value_then rule whole (in_array n turns (front ++ t ∷ []) ∷ ps) (skip_blank rest)
item_goes_on rule whole n turns front ps t s c rest e is =
    rw (e, is) (items_next rule n turns (front ++ t ∷ []) rest ps whole)

no_test : (c k : ℕ) → c ≢ k → (c == k) ≡ false
no_test c k other = grind (arith, eqb-true)

pub item_closes : (rule : Exponents) (n turns : ℕ) (front : List Tree) (ps : List Part) (t : Tree)
    (s : List ℕ) (c : ℕ) (rest : List ℕ) → s ≡ c ∷ rest → c ≡ close_bracket
    → resume rule (in_array n turns front ∷ ps) t s
    ≡ resume rule ps (array (trees_of (front ++ t ∷ []))) (skip_blank rest)
item_closes rule n turns front ps t s c rest e is = rw (e, is) refl

pub item_ends : (rule : Exponents) (n turns : ℕ) (front : List Tree) (ps : List Part) (t : Tree)
    (s : List ℕ) → s ≡ [] → resume rule (in_array n turns front ∷ ps) t s ≡ None
item_ends rule n turns front ps t s e = rw e refl

pub item_stops : (rule : Exponents) (n turns : ℕ) (front : List Tree) (ps : List Part) (t : Tree)
    (s : List ℕ) (c : ℕ) (rest : List ℕ) → s ≡ c ∷ rest → c ≢ comma → c ≢ close_bracket
    → resume rule (in_array n turns front ∷ ps) t s ≡ None
item_stops rule n turns front ps t s c rest e no_comma no_close =
    rw (e, no_test c comma no_comma, no_test c close_bracket no_close) refl

-- ---- objects

-- A key and its colon were read.
pub key_read : (rule : Exponents) (whole n turns : ℕ) (front : Entries) (ps : List Part)
    (s opened key after later : List ℕ) → expect quote (skip_blank s) ≡ Some opened
    → read_text turns [] opened ≡ Some (key, after) → expect colon (skip_blank after) ≡ Some later
    → key_then rule n turns front ps s
    ≡ value_then rule whole (in_object n turns front key ∷ ps) (skip_blank later)
unfolding read_members
key_read rule whole n turns front ps s opened key after later is_opened is_key is_after =
    rw (is_opened, is_key, is_after) (by (read_value rule n (skip_blank later)))
  where
    by : (o : Option (Tree × List ℕ))
        → ((((o >>= past_blank) >>= named key)
        >>= λ m. after_member (read_members (read_value rule n) turns)
        (insert_entry (slice_cmp nat_cmp) front m.0.0 m.0.1) m.1)
        >>= λ x. resume rule ps x.0 (skip_blank x.1))
        ≡ (o >>= λ x. resume rule (in_object n turns front key ∷ ps) x.0 (skip_blank x.1))
    by None = refl
    by (Some x) = refl

pub object_opens : (rule : Exponents) (whole : ℕ) (ps : List Part) (n turns : ℕ) (s rest : List ℕ)
    → steps whole ps ≡ suc n → n ≡ suc turns → s ≡ open_brace ∷ rest
    → None ≡ expect close_brace (skip_blank rest)
    → value_then rule whole ps s ≡ key_then rule n turns [] ps rest
unfolding read_value
object_opens rule whole ps n turns s rest e is starts some = rw (e, starts, ← some) (rw is refl)

pub member_goes_on : (rule : Exponents) (n turns : ℕ) (front : Entries) (key : List ℕ)
    (ps : List Part) (t : Tree) (s : List ℕ) (c : ℕ) (rest : List ℕ) → s ≡ c ∷ rest → c ≡ comma
    → resume rule (in_object n (suc turns) front key ∷ ps) t s
    ≡ key_then rule n turns (insert_entry (slice_cmp nat_cmp) front key t) ps rest
member_goes_on rule n turns front key ps t s c rest e is = rw (e, is) refl

pub member_closes : (rule : Exponents) (n turns : ℕ) (front : Entries) (key : List ℕ)
    (ps : List Part) (t : Tree)
    (s : List ℕ) (c : ℕ) (rest : List ℕ) → s ≡ c ∷ rest → c ≡ close_brace
    → resume rule (in_object n turns front key ∷ ps) t s
    ≡ resume rule ps (object (pairs (insert_entry (slice_cmp nat_cmp) front key t)))
    (skip_blank rest)
member_closes rule n turns front key ps t s c rest e is = rw (e, is) refl

pub member_ends : (rule : Exponents) (n turns : ℕ) (front : Entries) (key : List ℕ) (ps : List Part)
    (t : Tree) (s : List ℕ) → s ≡ [] → resume rule (in_object n turns front key ∷ ps) t s ≡ None
member_ends rule n turns front key ps t s e = rw e refl

pub member_stops : (rule : Exponents) (n turns : ℕ) (front : Entries) (key : List ℕ)
    (ps : List Part) (t : Tree)
    (s : List ℕ) (c : ℕ) (rest : List ℕ) → s ≡ c ∷ rest → c ≢ comma → c ≢ close_brace
    → resume rule (in_object n turns front key ∷ ps) t s ≡ None
member_stops rule n turns front key ps t s c rest e no_comma no_close =
    rw (e, no_test c comma no_comma, no_test c close_brace no_close) refl

pub array_empty : (rule : Exponents) (n : ℕ) (s rest after : List ℕ) → s ≡ open_bracket ∷ rest
    → Some after ≡ expect close_bracket (skip_blank rest) → (m : ℕ) → m ≡ suc n
    → read_value rule m s ≡ Some (array no_trees, after)
unfolding read_value
array_empty rule n s rest after starts closes m e = rw (e, starts, ← closes) refl

pub object_empty : (rule : Exponents) (n : ℕ) (s rest after : List ℕ) → s ≡ open_brace ∷ rest
    → Some after ≡ expect close_brace (skip_blank rest) → (m : ℕ) → m ≡ suc n
    → read_value rule m s ≡ Some (object no_pairs, after)
unfolding read_value
object_empty rule n s rest after starts closes m e = rw (e, starts, ← closes) refl

pub key_unquoted : (rule : Exponents) (n turns : ℕ) (front : Entries) (ps : List Part) (s : List ℕ)
    → expect quote (skip_blank s) ≡ None → key_then rule n turns front ps s ≡ None
unfolding read_members
key_unquoted rule n turns front ps s e = rw e refl

pub key_unread : (rule : Exponents) (n turns : ℕ) (front : Entries) (ps : List Part)
    (s opened : List ℕ)
    → expect quote (skip_blank s) ≡ Some opened → read_text turns [] opened ≡ None
    → key_then rule n turns front ps s ≡ None
unfolding read_members
key_unread rule n turns front ps s opened e none = rw (e, none) refl

pub key_uncoloned : (rule : Exponents) (n turns : ℕ) (front : Entries) (ps : List Part)
    (s opened key after : List ℕ) → expect quote (skip_blank s) ≡ Some opened
    → read_text turns [] opened ≡ Some (key, after) → expect colon (skip_blank after) ≡ None
    → key_then rule n turns front ps s ≡ None
unfolding read_members
key_uncoloned rule n turns front ps s opened key after e reads none = rw (e, reads, none) refl
