-- Reading with a list of the open containers in place of recursion.
use Rattle.std.specs.Prelude.{◌≡◌, ℕ, suc, ◌<◌, ◌≤◌, Bool, true, false, List, [], ◌∷◌, ◌++◌}
use Rattle.std.specs.Prelude.{Option, Some, None, length}
use Rattle.std.specs.Ordering.{nat_cmp}
use Rattle.std.specs.Cmp.Lexicographic.{slice_cmp}
use Rattle.std.specs.BTreeMap.{insert_entry}
use Rattle.jsonb_value.specs.declared.parser.number.Exponents.{Exponents}
use Rattle.jsonb_value.specs.Tree.{Tree}
use Rattle.jsonb_value.specs.Json.Bind.{◌>>=◌}
use Rattle.jsonb_value.specs.Json.Syntax.{Entries}
use Rattle.jsonb_value.specs.Reader.Reading.{skip_blank, if_last, after_item, read_items}
use Rattle.jsonb_value.specs.Reader.Reading.{after_member, read_members, read_value}

-- A container that is open: the bounds on the steps of reading its values and the rest of it, and
-- what was read of it: items, or members and the key whose value is read next.
pub data Part : Type 0 where
  in_array : ℕ → ℕ → List Tree → Part
  in_object : ℕ → ℕ → Entries → List ℕ → Part

-- What comes of a value and the characters after it and white space, in these open containers, the
-- innermost first.
abbrev pub resume : Exponents → List Part → Tree → List ℕ → Option Tree
resume rule [] t s = if_last t s
resume rule (in_array n turns front ∷ ps) t s =
    after_item (read_items (read_value rule n) turns) (front ++ t ∷ []) s
    >>= λ x. resume rule ps x.0 (skip_blank x.1)
resume rule (in_object n turns front key ∷ ps) t s =
    after_member (read_members (read_value rule n) turns)
    (insert_entry (slice_cmp nat_cmp) front key t) s
    >>= λ x. resume rule ps x.0 (skip_blank x.1)

-- The bound on the steps of the next value.
abbrev pub steps : ℕ → List Part → ℕ
steps whole [] = whole
steps whole (in_array n turns front ∷ ps) = n
steps whole (in_object n turns front key ∷ ps) = n

-- What comes of the characters, at which a value begins.
abbrev pub value_then : Exponents → ℕ → List Part → List ℕ → Option Tree
value_then rule whole ps s =
    read_value rule (steps whole ps) s >>= λ x. resume rule ps x.0 (skip_blank x.1)

-- The bounds exceed the count of the characters.
abbrev pub Enough : ℕ → List Part → ℕ → Type 0
Enough whole [] k = k < whole
Enough whole (in_array n turns front ∷ ps) k = (k < n) × ((k ≤ turns) × Enough whole ps k)
Enough whole (in_object n turns front key ∷ ps) k = (k < n) × ((k ≤ turns) × Enough whole ps k)

-- ---- what a sink holds

-- What was read of an open container. At a key its value comes next.
pub data Content : Type 0 where
  items : List Tree → Content
  members : Entries → Content
  at_key : Entries → List ℕ → Content

-- Open containers, the innermost first, or the whole value.
pub data State : Type 0 where
  going : List Content → State
  whole : Tree → State
  -- a value where none is expected
  lost : State

-- The state after one more value.
abbrev pub put : Tree → List Content → State
put t [] = whole t
put t (items front ∷ cs) = going (items (front ++ t ∷ []) ∷ cs)
put t (members front ∷ cs) = lost
put t (at_key front key ∷ cs) =
    going (members (insert_entry (slice_cmp nat_cmp) front key t) ∷ cs)

-- A value was added.
abbrev pub Adds : {S : Type 0} → (S → State → Type 0) → S → S → Tree → Type 0
Adds is old new t = (cs : List Content) → is old (going cs) → is new (put t cs)

-- A key was added.
abbrev pub AddsKey : {S : Type 0} → (S → State → Type 0) → S → S → List ℕ → Type 0
AddsKey is old new key =
    (front : Entries) (cs : List Content) → is old (going (members front ∷ cs))
    → is new (going (at_key front key ∷ cs))

-- ---- where the reader is

abbrev pub contents : List Part → List Content
contents [] = []
contents (in_array n turns front ∷ ps) = items front ∷ contents ps
contents (in_object n turns front key ∷ ps) = at_key front key ∷ contents ps

-- Of each open container, the innermost first, whether it is an object.
abbrev pub kinds_of : List Part → List Bool
kinds_of [] = []
kinds_of (in_array n turns front ∷ ps) = false ∷ kinds_of ps
kinds_of (in_object n turns front key ∷ ps) = true ∷ kinds_of ps

-- The first of these, if there is one.
abbrev pub innermost : List Bool → Option Bool
innermost [] = None
innermost (b ∷ bs) = Some b

-- At a value: what comes of the rest is the target.
pub record IsAtValue {S : Type 0} (rule : Exponents) (is : S → State → Type 0)
    (target : Option Tree)
    (sink : S) (kinds : List Bool) (rest : List ℕ) : Type 0 where
  pub bound : ℕ
  pub parts : List Part
  pub enough : Enough bound parts (length rest)
  pub kinds_are : kinds ≡ kinds_of parts
  pub held : is sink (going (contents parts))
  pub same : target ≡ value_then rule bound parts rest

-- The rest of an object at its next key.
abbrev pub key_then : Exponents → ℕ → ℕ → Entries → List Part → List ℕ → Option Tree
key_then rule n turns front ps s =
    read_members (read_value rule n) (suc turns) front s
    >>= λ x. resume rule ps x.0 (skip_blank x.1)

-- At a key, which may have white space before it, likewise.
pub record IsAtKey {S : Type 0} (rule : Exponents) (is : S → State → Type 0) (target : Option Tree)
    (sink : S) (kinds : List Bool) (rest : List ℕ) : Type 0 where
  pub bound : ℕ
  pub parts : List Part
  pub steps : ℕ
  pub turns : ℕ
  pub front : Entries
  pub enough : Enough bound parts (length rest)
  pub enough_steps : length rest < steps
  pub enough_turns : length rest ≤ turns
  pub kinds_are : kinds ≡ true ∷ kinds_of parts
  pub held : is sink (going (members front ∷ contents parts))
  pub same : target ≡ key_then rule steps turns front parts rest

-- After a value, likewise.
pub record IsAfterValue {S : Type 0} (rule : Exponents) (is : S → State → Type 0)
    (target : Option Tree)
    (sink : S) (kinds : List Bool) (rest : List ℕ) : Type 0 where
  pub bound : ℕ
  pub parts : List Part
  pub value : Tree
  pub enough : Enough bound parts (length rest)
  pub kinds_are : kinds ≡ kinds_of parts
  pub held : is sink (put value (contents parts))
  pub same : target ≡ resume rule parts value (skip_blank rest)
