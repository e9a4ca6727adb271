-- Values that are stored unchanged, as an array's items or as members.
use Rattle.std.specs.Prelude.{◌≡◌, ℕ, List, [], ◌∷◌, length, Option, Some, None}
use Rattle.std.specs.Borrow.{Bor}
use Rattle.std.proofs.Common.{refl, sym, ap, ◌∙◌}
use Rattle.std.specs.List.{AllByRecursion}
use Rattle.std.specs.Str.{IsUtf8}
use Rattle.std.specs.BTreeMap.{BTreeMap}
use Rattle.jsonb_codec.specs.declared.parts.Part.{Part}
use Rattle.jsonb_codec.specs.Shape.{Shapes, no_shapes, shape, leaf, key_payloads}
use Rattle.jsonb_codec.specs.Source.{SourceMeaning, Laws}

-- The shapes of a list of values, given their keys and codes.
abbrev pub shapes_by : {A : Type 0} → (A → List ℕ) → (A → ℕ × List ℕ) → List A → Shapes
shapes_by key code [] = no_shapes
shapes_by key code (x ∷ xs) = shape (key x) (leaf (code x).0 (code x).1) (shapes_by key code xs)

-- All values of the list have an entry, and `ss` are the shapes of the list.
pub record AreStored {A : Type 0} (stored : A → Type 0) (key : A → List ℕ) (code : A → ℕ × List ℕ)
    (xs : List A) (ss : Shapes) : Type 0 where
  pub all : AllByRecursion stored xs
  pub shapes : ss ≡ shapes_by key code xs

-- The items of an array have no keys.
abbrev no_keys : {A : Type 0} (code : A → ℕ × List ℕ) (xs : List A)
    → key_payloads (shapes_by (λ x. []) code xs) ≡ []
no_keys code [] = refl
no_keys code (x ∷ xs) = no_keys code xs

module _ {T : Type 0} (stored : T → Type 0) (code : T → ℕ × List ℕ) (held : T → Type 0) where
  -- The values of a list are stored as an array's items of these shapes.
  abbrev pub AreItems : List T → Shapes → Type 0
  AreItems = AreStored stored (λ x. []) code

  -- The values of a map are stored as an object's members of these shapes.
  abbrev pub AreStoredMembers : List (Bor (List ℕ) × T) → Shapes → Type 0
  AreStoredMembers = AreStored (λ e. stored e.1) (λ e. e.0.now) (λ e. code e.1)

  -- Each key is UTF-8, and each value satisfies the invariants of its type.
  abbrev pub MembersHeld : List (Bor (List ℕ) × T) → Type 0
  MembersHeld = AllByRecursion (λ e. IsUtf8 e.0.now × held e.1)

  -- The meaning of stored values as a source of the writer.
  abbrev pub stored_meaning : SourceMeaning (Bor T) (Bor (List T)) (Bor (BTreeMap (Bor (List ℕ)) T))
      (List (Bor (List ℕ) × T))
  stored_meaning = record {
    child = λ x s. stored x.now × (s ≡ leaf (code x.now).0 (code x.now).1);
    child_size = λ x. 0;
    child_held = λ x. held x.now;
    items = λ xs ss. AreItems xs.now ss;
    object = λ m ss. AreStoredMembers m.now.entries ss;
    members = λ es ss. AreStoredMembers es ss;
    items_size = λ xs. length xs.now;
    object_size = λ m. length m.now.entries;
    members_size = λ es. length es;
    items_held = λ xs. AllByRecursion held xs.now;
    object_held = λ m. MembersHeld m.now.entries;
    members_held = λ es. MembersHeld es;
  }

  -- Each list has only one list of shapes, and an array's items have no keys.
  pub stored_laws : Laws stored_meaning
  stored_laws = record {
    one_items = λ x ss us h k. h.shapes ∙ sym k.shapes;
    one_object = λ x ss us h k. h.shapes ∙ sym k.shapes;
    one_members = λ x ss us h k. h.shapes ∙ sym k.shapes;
    bare_items = λ x ss h. ap key_payloads h.shapes ∙ no_keys code x.now;
  }

-- The code of a part of a document.
abbrev pub part_code : Part → ℕ × List ℕ
part_code part = (part.type_code, part.payload.now)

-- The code of a part, if there is one.
abbrev pub code_of_some : Option Part → ℕ × List ℕ
code_of_some (Some part) = part_code part
code_of_some None = (0, [])
