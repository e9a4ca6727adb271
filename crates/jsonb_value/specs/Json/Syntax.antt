-- The syntax of a text with its white space, the characters that it spells, and the tree that it
-- means.
use Rattle.std.specs.Prelude.{◌≡◌, ℕ, Bool, true, false, cond, ◌&&◌, List, [], ◌∷◌, ◌++◌, Option}
use Rattle.std.specs.Prelude.{Some, None, option_map, codes}
use Rattle.std.specs.Ordering.{nat_cmp}
use Rattle.std.specs.Cmp.Lexicographic.{slice_cmp}
use Rattle.std.specs.BTreeMap.{insert_entry}
use Rattle.jsonb_value.specs.Tree.{Tree, Pairs, null, array, object, text, number, boolean}
use Rattle.jsonb_value.specs.Tree.{no_trees, tree, no_pairs, pair}
use Rattle.jsonb_value.specs.Value.{trees_of}
use Rattle.jsonb_value.specs.Json.Characters.{quote, comma, colon, open_bracket, close_bracket}
use Rattle.jsonb_value.specs.Json.Characters.{open_brace, close_brace, all_blank}
use Rattle.jsonb_value.specs.Json.Bind.{◌>>=◌}
use Rattle.jsonb_value.specs.declared.parser.number.Exponents.{Exponents}
use Rattle.jsonb_value.specs.declared.parser.number.Exponents.TheVariants.{Forbidden, Allowed}
use Rattle.jsonb_value.specs.Json.Numeral.{Numeral, numeral_text, numeral_meaning}
use Rattle.jsonb_value.specs.Json.Piece.{Piece, pieces_text, pieces_meaning}

mutual
  -- The syntax of a value.
  pub data Syntax : Type 0 where
    nothing : Syntax
    truth : Bool → Syntax
    numeral : Numeral → Syntax
    string : List Piece → Syntax
    empty_array : (blank : List ℕ) → Syntax
    items : Element → Items → Syntax
    empty_object : (blank : List ℕ) → Syntax
    members : Member → Members → Syntax

  -- A value with the white space before and after it.
  pub data Element : Type 0 where
    element : (before : List ℕ) → Syntax → (after : List ℕ) → Element

  -- The rest of an array after an item: its closing bracket, or a comma and the next item.
  pub data Items : Type 0 where
    no_item : Items
    next_item : Element → Items → Items

  -- A key with the white space before and after it, a colon and its value.
  pub data Member : Type 0 where
    member : (before : List ℕ) → List Piece → (after : List ℕ) → Element → Member

  -- The rest of an object after a member: its closing brace, or a comma and the next member.
  pub data Members : Type 0 where
    no_member : Members
    next_member : Member → Members → Members

-- The characters of a string: its pieces between quotes.
abbrev pub string_characters : List Piece → List ℕ
string_characters pieces = quote ∷ (pieces_text pieces ++ quote ∷ [])

-- The characters of a truth value.
abbrev pub truth_text : Bool → List ℕ
truth_text true = codes "true"
truth_text false = codes "false"

-- The characters that a syntax spells.
abbrev mutual
  pub syntax_text : Syntax → List ℕ
  syntax_text nothing = codes "null"
  syntax_text (truth b) = truth_text b
  syntax_text (numeral n) = numeral_text n
  syntax_text (string pieces) = string_characters pieces
  syntax_text (empty_array blank) = open_bracket ∷ (blank ++ close_bracket ∷ [])
  syntax_text (items x xs) = open_bracket ∷ (element_text x ++ items_text xs)
  syntax_text (empty_object blank) = open_brace ∷ (blank ++ close_brace ∷ [])
  syntax_text (members m ms) = open_brace ∷ (member_text m ++ members_text ms)

  -- The characters of a value with its white space.
  pub element_text : Element → List ℕ
  element_text (element before x after) = before ++ (syntax_text x ++ after)

  -- The characters of the rest of an array.
  pub items_text : Items → List ℕ
  items_text no_item = close_bracket ∷ []
  items_text (next_item x xs) = comma ∷ (element_text x ++ items_text xs)

  -- The characters of a member.
  pub member_text : Member → List ℕ
  member_text (member before key after x) =
      before ++ (string_characters key ++ (after ++ colon ∷ element_text x))

  -- The characters of the rest of an object.
  pub members_text : Members → List ℕ
  members_text no_member = close_brace ∷ []
  members_text (next_member m ms) = comma ∷ (member_text m ++ members_text ms)

-- An object's keys with their values.
abbrev pub Entries : Type 0
Entries = List (List ℕ × Tree)

-- The entries as pairs of a tree.
abbrev pub pairs : Entries → Pairs
pairs [] = no_pairs
pairs (e ∷ es) = pair e.0 e.1 (pairs es)

-- The entries after inserting others one by one: each at its key's position in byte order,
-- replacing an equal key.
abbrev pub insert_all : Entries → Entries → Entries
insert_all es [] = es
insert_all es (m ∷ ms) = insert_all (insert_entry (slice_cmp nat_cmp) es m.0 m.1) ms

-- The result, if the characters before and after it are white space.
abbrev pub between : {A : Type 0} → List ℕ → List ℕ → Option A → Option A
between before after x = cond (all_blank before && all_blank after) x None

-- The tree that a syntax means, if it means one under this rule for exponents.
abbrev mutual
  pub meaning : Exponents → Syntax → Option Tree
  meaning rule nothing = Some null
  meaning rule (truth b) = Some (boolean b)
  meaning rule (numeral n) = option_map number (numeral_meaning rule n)
  meaning rule (string pieces) = option_map text (pieces_meaning pieces)
  meaning rule (empty_array blank) = between blank [] (Some (array no_trees))
  meaning rule (items x xs) =
      element_meaning rule x >>= λ t. items_meaning rule xs
      >>= λ ts. Some (array (tree t (trees_of ts)))
  meaning rule (empty_object blank) = between blank [] (Some (object no_pairs))
  meaning rule (members m ms) = member_meaning rule m >>= λ e. members_meaning rule ms
      >>= λ es. Some (object (pairs (insert_all [] (e ∷ es))))

  -- The tree of a value with its white space.
  pub element_meaning : Exponents → Element → Option Tree
  element_meaning rule (element before x after) = between before after (meaning rule x)

  -- The trees of the rest of an array.
  pub items_meaning : Exponents → Items → Option (List Tree)
  items_meaning rule no_item = Some []
  items_meaning rule (next_item x xs) =
      element_meaning rule x >>= λ t. items_meaning rule xs >>= λ ts. Some (t ∷ ts)

  -- The key and the tree of a member.
  pub member_meaning : Exponents → Member → Option (List ℕ × Tree)
  member_meaning rule (member before key after x) =
      between before after (pieces_meaning key) >>= λ k. element_meaning rule x >>= λ t. Some (k, t)

  -- The entries of the rest of an object.
  pub members_meaning : Exponents → Members → Option Entries
  members_meaning rule no_member = Some []
  members_meaning rule (next_member m ms) =
      member_meaning rule m >>= λ e. members_meaning rule ms >>= λ es. Some (e ∷ es)

-- The characters are a JSON text that means the tree, with exponents if they are allowed.
pub record JsonText (rule : Exponents) (characters : List ℕ) (t : Tree) : Type 0 where
  pub syntax : Element
  pub is_spelled : characters ≡ element_text syntax
  pub is_meant : element_meaning rule syntax ≡ Some t

-- The characters are a JSON text without exponents that means the tree.
abbrev pub Json : List ℕ → Tree → Type 0
Json = JsonText Forbidden

-- The characters are a JSON text, with or without exponents, that means the tree.
abbrev pub JsonWithExponents : List ℕ → Tree → Type 0
JsonWithExponents = JsonText Allowed
