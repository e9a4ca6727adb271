-- What is taken of rows that are not checked.
use Rattle.std.proofs.Common.{◌≡◌, ◌⊎◌, ◌<◌, ◌≤◌, ◌==◌, ◌&&◌, if◌then◌else◌, ℕ, Bool, true}
use Rattle.std.proofs.Common.{false, List, [], ◌∷◌, length, Option, None, Some, option_map, Result}
use Rattle.std.proofs.Common.{Ok, Err, IsOkAnd, get_or, inl, inr, refl, sym, ap, subst, arith}
use Rattle.std.specs.Prelude.{IfSome, IsSome}
use Rattle.std.specs.Borrow.{Bor}
use Rattle.std.specs.Map.{keys_of, values_of}
use Rattle.jsonb_value.specs.NumCode.{NumCode}
use Rattle.jsonb_value.specs.Tree as trees
use Rattle.jsonb_value.specs.Tree.{Tree, Pairs, no_pairs, pair, array, object}
use Rattle.jsonb_value.specs.declared.error.Error.{Error}
use Rattle.jsonb_value.specs.declared.number.Number.{Number}
use Rattle.jsonb_codec.specs.Doc.{Doc}
use Rattle.jsonb_codec.specs.Parts.{IsPayloadOf}
use Rattle.jsonb_codec.specs.declared.constants.TheConstants.{NUMBER_TAG}
use Rattle.jsonb.specs.Entry.{entry_there, Code}
use Rattle.jsonb.specs.Lookup.{find_pair}
use Rattle.jsonb.specs.Node.{IsContainer, node_tree, value_of_key}
use Rattle.jsonb.specs.StoredEntries.{AreMemberEntriesOf, IsEntryAt, find_entry}
use Rattle.jsonb.specs.declared.node.Node.{Node}
use Rattle.jsonb.specs.declared.entries.Entry.{Entry}
use Rattle.jsonb.proofs.KindLaws.{container_cases}
use Rattle.jsonb_functions.specs.Found.{found_at, if_there}
use Rattle.jsonb_functions.specs.declared.path.Step.{Step}
use Rattle.jsonb_functions.specs.declared.path.Step.TheVariants.{Key}
use Rattle.jsonb_typed.specs.Surveys.{member_cell}
use Rattle.jsonb_typed.specs.Types.{HoldsScalars, IsBinary, IsText}
use Rattle.jsonb_typed.proofs.DocumentLaws as typed
use Rattle.typed_vector.specs.Cells.{value}
use Rattle.jsonb_functions.specs.PathPlaces.{HoldsFound, path_place_in, whole_place}
use Rattle.jsonb_functions.proofs.PathPlaceLaws.{place_holds}
use Rattle.kohiblad.specs.declared.taking_texts.BytesType.{BytesType}
use Rattle.kohiblad.specs.declared.taking_texts.BytesType.TheVariants as bytes_types
use Rattle.jsonb.specs.Prefix.{is_name}
use Rattle.kohiblad.specs.Places.{IsValuePlace}
use Rattle.kohiblad.specs.Taking.{IsSomeTaken, IsTakenBy, IsTakenCell}
use Rattle.kohiblad.specs.declared.taking.Reading.TheVariants.{Unchecked}
use Rattle.kohiblad.specs.TakenTexts.{IsBytes}
use Rattle.kohiblad.specs.UncheckedRows.{IsReadAs}
use Rattle.kohiblad.proofs.ScalarReads.{number_read}

pub no_document : (b : List ℕ) (t : Tree) → Doc b t → b ≡ [] → ⊥
no_document b t document empty =
    let some : 0 < length b = typed.some_bytes b t document in
    let none : length b ≡ 0 = ap length empty in
    omega (arith, some, none)

-- The whole of a document has a place.
pub whole_there : (b : List ℕ) (t : Tree) (e : Error) → Doc b t → Err e ≡ whole_place b → ⊥
whole_there b t e document failed =
    subst (λ (r : Result Entry Error). HoldsFound b (path_place_in [] b r) (Some t))
    (sym failed) (place_holds b t [] document)

-- The place of a key's value holds the value.
module _ (b name : List ℕ) where
  chosen : (first : Bool) (c : Code) (t : Tree) (others : Option Code) (left : Option Tree)
      → IsPayloadOf c.type c.payload t
      → ((o : Option Entry) → option_map (entry_there b) o ≡ others → HoldsFound b o left)
      → (o : Option Entry)
      → option_map (entry_there b) o ≡ (if first then Some c else others)
      → HoldsFound b o (if first then Some t else left)
  chosen true c t others left means later None is = absurd cc
  chosen true c t others left means later (Some place) is =
      let same : entry_there b place ≡ c = cc in
      subst (λ (e : Code). IsPayloadOf e.type e.payload t) (sym same) means
  chosen false c t others left means later o is = later o is

  accepts : List ℕ → Bool
  accepts key = (length key == length name) && is_name name key

  held_among : (ms : List (List ℕ × Code)) (ps : Pairs)
      → AreMemberEntriesOf (keys_of ms) (values_of ms) ps → (o : Option Entry)
      → option_map (entry_there b) o ≡ find_entry (is_name name) (length name) ms
      → HoldsFound b o (find_pair (is_name name) (length name) ps)
  held_among [] no_pairs mean None is = tt
  held_among [] no_pairs mean (Some place) is = absurd cc
  held_among [] (pair k t ps) mean o is = absurd cc
  held_among (m ∷ ms) no_pairs mean o is = absurd mean
  held_among (m ∷ ms) (pair k t ps) mean o is =
      subst
      (λ (key : List ℕ). HoldsFound b o
      (if (length key == length name) && is_name name key then Some t
      else find_pair (is_name name) (length name) ps))
      mean.0
      (chosen ((length m.0 == length name) && is_name name m.0) m.1 t
      (find_entry (is_name name) (length name) ms) (find_pair (is_name name) (length name) ps)
      mean.1.0 (λ o is. held_among ms ps mean.1.1 o is) o is)

  pub key_held : (t : Tree) (found : Result (Option Entry) Error)
      → IsValuePlace b t name found → IsOkAnd found (λ o. HoldsFound b o (value_of_key name t))
  key_held (object ps) found (ms, (stored, (o, (is, there)))) =
      rw is (held_among ms ps stored.mean o there)
  key_held t found is = rw is tt

  -- The entry that is found in a document has the place of the key's value.
  pub entry_placed : (t : Tree) (found : Result (Option Entry) Error)
      → IsOkAnd found (λ (o : Option Entry).
      IsEntryAt (is_name name) (length name) b t (option_map (entry_there b) o))
      → IsValuePlace b t name found
  entry_placed (object ps) (Ok o) (ms, (stored, is)) = (ms, (stored, (o, (refl, sym is))))
  entry_placed t (Ok None) is = refl
  entry_placed t (Ok (Some entry)) is = absurd cc
  entry_placed t (Err e) is = absurd is

  end_of_key : (o : Option Tree) → if_there o (λ u. found_at [] u) ≡ o
  end_of_key None = refl
  end_of_key (Some t) = refl

pub one_step : (path : List Step) (other s : Step) → 1 ≤ length path → length path < 2
    → get_or path 0 other ≡ s → path ≡ s ∷ []
one_step [] other s some few is = absurd (omega (arith, some))
one_step (first ∷ []) other s some few is = let same : first ≡ s = is in rw same refl
one_step (first ∷ (second ∷ path)) other s some few is = absurd (omega (arith, few))

pub one_key_held : (b : List ℕ) (t : Tree) (key : Bor (List ℕ))
    (found : Result (Option Entry) Error) → IsValuePlace b t key.now found
    → IsOkAnd found (λ o. HoldsFound b o (found_at (Key key ∷ []) t))
one_key_held b (array ts) key found is = rw is tt
one_key_held b t key found is =
    rw (end_of_key b key.now (value_of_key key.now t)) (key_held b key.now t found is)

-- What was read of a row: a member or none, or only the state of the row.
abbrev read_as : Option Node → Result (Option Node) ℕ
read_as member = Ok member

abbrev state_only : ℕ → Result (Option Node) ℕ
state_only state = Err state

-- What is taken of the member that was read.
module _ {V : Type 0} (Stands : V → Tree → Type 0) (blank : V) where
  pub some_taken : (o : Option Tree) (taken : V × ℕ)
      → IsTakenCell Stands blank (member_cell o) taken → IsSomeTaken blank taken
  some_taken None taken is = rw is (inr (refl, omega arith))
  some_taken (Some t) taken (inl (stands, state)) = inl state
  some_taken (Some trees.null) taken (inr (none, is)) = rw is (inr (refl, omega arith))
  some_taken (Some t) taken (inr (none, is)) = rw is (inr (refl, omega arith))

  unfit_container : (t : Tree) → IsContainer t → HoldsScalars Stands
      → IsTakenCell Stands blank (value t) (blank, 3)
  unfit_container t is scalars =
      container_cases
      (λ (u : Tree). ((v : V) → Stands v u → ⊥) → IsTakenCell Stands blank (value u) (blank, 3)) t
      is (λ ts none. inr (none, refl)) (λ ps none. inr (none, refl)) (λ v. scalars v t is)

  pub taken_member : (path : List Step) (row : List ℕ) (member : Option Node) (taken : V × ℕ)
      → ((t : Tree) → Doc row t → IsReadAs (found_at path t) (Ok member))
      → (row ≡ [] → read_as member ≡ read_as None)
      → IsTakenCell Stands blank (member_cell (option_map node_tree member)) taken
      → IsTakenBy Stands blank Unchecked path row taken
  taken_member path row member taken read empty is = (
    λ t document.
        subst (λ (o : Option Tree). IsTakenCell Stands blank (member_cell o) taken)
        (read t document) is,
    (
      λ none.
          let absent : member ≡ None = let same = empty none in cc in
          subst
          (λ (o : Option Node).
          IsTakenCell Stands blank (member_cell (option_map node_tree o)) taken)
          absent is,
      some_taken (option_map node_tree member) taken is,
    ),
  )

  -- The same of what was read by its entry.
  pub read_taken : (o : Option Tree) (member : Option Node) (taken : V × ℕ)
      → IsReadAs o (Ok member)
      → IsTakenCell Stands blank (member_cell (option_map node_tree member)) taken
      → IsTakenCell Stands blank (member_cell o) taken
  read_taken o member taken read is =
      subst (λ (o : Option Tree). IsTakenCell Stands blank (member_cell o) taken) read is

  pub number_taken : (p : List ℕ) (t : Tree) (x : Number) (taken : V × ℕ)
      → IsPayloadOf NUMBER_TAG p t → NumCode p x
      → IsTakenCell Stands blank (member_cell (Some (trees.number x))) taken
      → IsTakenCell Stands blank (member_cell (Some t)) taken
  number_taken p t x taken means code is =
      subst (λ (o : Option Tree). IsTakenCell Stands blank (member_cell o) taken)
      (number_read p t x means code) is

  -- What is taken of a row by the place of its member.
  pub empty_taken : (path : List Step) (row : List ℕ) → row ≡ []
      → IsTakenBy Stands blank Unchecked path row (blank, 0)
  empty_taken path row empty = (
    λ t document. absurd (no_document row t document empty),
    (λ none. refl, inr (refl, omega arith)),
  )

  held_taken : (row : List ℕ) (place : Entry) (payload : List ℕ) (taken : V × ℕ)
      → payload ≡ (entry_there row place).payload
      → ((t : Tree) → IsPayloadOf place.type_code payload t
      → IsTakenCell Stands blank (member_cell (Some t)) taken)
      → (o : Option Tree) → HoldsFound row (Some place) o
      → IsTakenCell Stands blank (member_cell o) taken
  held_taken row place payload taken same entry (Some t) holds =
      entry t (subst (λ (p : List ℕ). IsPayloadOf place.type_code p t) (sym same) holds)
  held_taken row place payload taken same entry None holds = absurd holds

  pub place_taken : (path : List Step) (row : List ℕ) (place : Entry) (payload : List ℕ)
      (taken : V × ℕ)
      → ((t : Tree) → Doc row t → HoldsFound row (Some place) (found_at path t))
      → payload ≡ (entry_there row place).payload
      → ((t : Tree) → IsPayloadOf place.type_code payload t
      → IsTakenCell Stands blank (member_cell (Some t)) taken)
      → IsSomeTaken blank taken → (row ≡ [] → ⊥)
      → IsTakenBy Stands blank Unchecked path row taken
  place_taken path row place payload taken found same entry some full = (
    λ t document.
        held_taken row place payload taken same entry (found_at path t) (found t document),
    (λ none. absurd (full none), some),
  )

  absent_taken : (row : List ℕ) (o : Option Tree) → HoldsFound row None o
      → IsTakenCell Stands blank (member_cell o) (blank, 0)
  absent_taken row None holds = refl
  absent_taken row (Some t) holds = absurd holds

  pub none_taken : (path : List Step) (row : List ℕ)
      → ((t : Tree) → Doc row t → HoldsFound row None (found_at path t))
      → IsTakenBy Stands blank Unchecked path row (blank, 0)
  none_taken path row found = (
    λ t document. absent_taken row (found_at path t) (found t document),
    (λ none. refl, inr (refl, omega arith)),
  )

  pub error_taken : (path : List Step) (row : List ℕ) → ((t : Tree) → Doc row t → ⊥)
      → (row ≡ [] → ⊥) → IsTakenBy Stands blank Unchecked path row (blank, 4)
  error_taken path row none full = (
    λ t document. absurd (none t document),
    (λ empty. absurd (full empty), inr (refl, omega arith)),
  )

  pub known_state : (state : ℕ) → (state ≡ 3) ⊎ (state ≡ 4) → IsSomeTaken blank (blank, state)
  known_state state (inl is) = inr (refl, omega (arith, is))
  known_state state (inr is) = inr (refl, omega (arith, is))

  pub state_found : (o : Option Tree) (state : ℕ) → HoldsScalars Stands → IsReadAs o (Err state)
      → IsTakenCell Stands blank (member_cell o) (blank, state)
  state_found (Some t) state scalars (is, container) =
      rw is (unfit_container t container scalars)
  state_found None state scalars is = absurd is

  pub taken_state : (path : List Step) (row : List ℕ) (state : ℕ) → HoldsScalars Stands
      → ((t : Tree) → Doc row t → IsReadAs (found_at path t) (Err state))
      → (row ≡ [] → state_only state ≡ read_as None)
      → (state ≡ 3) ⊎ (state ≡ 4)
      → IsTakenBy Stands blank Unchecked path row (blank, state)
  taken_state path row state scalars read empty known = (
    λ t document. state_found (found_at path t) state scalars (read t document),
    (
      λ none. let same = empty none in absurd cc,
      known_state state known,
    ),
  )

-- What was read of an entry is held by it.
pub held_read : (type : ℕ) (p : List ℕ) (member : Option Node) → IsSome member
    → IfSome member (λ node. IsPayloadOf type p (node_tree node))
    → ((t : Tree) → IsPayloadOf type p t → ⊥) → ⊥
held_read type p None some held none = absurd (cc)
held_read type p (Some node) some held none = none (node_tree node) held

-- No value of a type stands for an array or object.
scalar_texts : HoldsScalars IsText
scalar_texts s t is same =
    container_cases (λ (u : Tree). u ≡ trees.text s → ⊥) t is (λ ts other. cc) (λ ps other. cc) same

scalar_binaries : HoldsScalars IsBinary
scalar_binaries s t is same =
    container_cases (λ (u : Tree). IsBinary s u → ⊥) t is (λ ts other. cc) (λ ps other. cc) same

pub scalar_bytes : (bytes_type : BytesType) → HoldsScalars (IsBytes bytes_type)
scalar_bytes bytes_types.Text = scalar_texts
scalar_bytes bytes_types.Binary = scalar_binaries
