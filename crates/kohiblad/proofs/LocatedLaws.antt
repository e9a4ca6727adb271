-- What is read and taken at the places of members.
use Rattle.std.proofs.Common.{◌≡◌, ◌⊎◌, ◌+◌, ◌-◌, ◌≤◌, ◌∷◌, ◌==◌, [], ℕ, zero, suc, List, drop}
use Rattle.std.proofs.Common.{length, nat_le, refl, sym, ap, ◌∙◌, arith, inr, subst, Option, Some}
use Rattle.std.proofs.Common.{Result, Ok, Err, None, option_map, Bool, true, false}
use Rattle.std.specs.Prelude.{◌&&◌, if◌then◌else◌, IfNone, IfSome}
use Rattle.std.proofs.lemmas.Bool.{eqb-true, le-leb, leb-true, ne_eqb}
use Rattle.std.specs.Borrow.{Bor}
use Rattle.jsonb_value.specs.Tree.{Tree}
use Rattle.jsonb_codec.specs.Parts.{IsPayloadOf}
use Rattle.jsonb.specs.Node.{node_tree}
use Rattle.jsonb.specs.declared.node.Node.{Node}
use Rattle.typed_vector.specs.Cells.{Cell, absent, value, other}
use Rattle.jsonb_typed.specs.Surveys.{member_cell}
use Rattle.jsonb_typed.specs.Types.{HoldsScalars}
use Rattle.kohiblad.specs.declared.places.KohibladPlace.{KohibladPlace}
use Rattle.kohiblad.specs.Located.{HoldsNone, IsCellPlace, IsCellRead, IsNowhere, IsPayloadRead}
use Rattle.kohiblad.specs.Located.{IsTakenAt, IsThere, each_after, each_of, entry_state}
use Rattle.kohiblad.specs.Located.{place_state}
use Rattle.kohiblad.specs.Status.{none}
use Rattle.kohiblad.specs.Taking.{IsSomeTaken, IsTakenCell}
use Rattle.kohiblad.proofs.UncheckedLaws.{known_state, some_taken, state_found}

-- The elements after some are those of what is left after these.
pub each_dropped : {A : Type 0} (step passed : ℕ) (xs : List A)
    → each_after step passed xs ≡ each_of step (drop passed xs)
each_dropped step zero xs = refl
each_dropped step (suc passed) [] = refl
each_dropped step (suc passed) (x ∷ xs) = each_dropped step passed xs

-- What is left after the first of them.
pub next_place : (step : ℕ) (places later : List KohibladPlace) (place : KohibladPlace)
    → places ≡ place ∷ later
    → each_of step places ≡ place ∷ each_of step (drop (step - 1) later)
next_place step places later place is =
    rw is (ap (λ xs. place ∷ xs) (each_dropped step (step - 1) later))

-- The state of a place.
pub state_none : (bytes : List ℕ) (place : KohibladPlace) → place.status ≡ none
    → place_state bytes place ≡ 0
state_none bytes place is = rw is refl

pub state_there : (bytes : List ℕ) (place : KohibladPlace) → place.status ≡ 0
    → place.offset + place.length ≤ length bytes
    → place_state bytes place ≡ entry_state place.type_code
state_there bytes place is inside =
    rw (is, le-leb (place.offset + place.length) (length bytes) inside) refl

nowhere_by : (bytes : List ℕ) (place : KohibladPlace) (zero inside : Bool)
    → (place.status == 0) ≡ zero
    → nat_le (place.offset + place.length) (length bytes) ≡ inside
    → (place.status ≡ 0 → place.offset + place.length ≤ length bytes → ⊥)
    → (if zero && inside then entry_state place.type_code else 4) ≡ 4
nowhere_by bytes place false inside is are nowhere = refl
nowhere_by bytes place true false is are nowhere = refl
nowhere_by bytes place true true is are nowhere =
    absurd (nowhere (eqb-true place.status 0 is)
    (leb-true (place.offset + place.length) (length bytes) are))

pub state_nowhere : (bytes : List ℕ) (place : KohibladPlace) → IsNowhere bytes place
    → place_state bytes place ≡ 4
state_nowhere bytes place nowhere =
    rw (ne_eqb place.status none nowhere.0) (nowhere_by bytes place (place.status == 0)
    (nat_le (place.offset + place.length) (length bytes)) refl refl nowhere.1)

-- What is taken of the member that was read at its place.
module _ {V : Type 0} (Stands : V → Tree → Type 0) (blank : V) where
  read_cell : (cell : Cell Tree) (member : Option Node) (taken : V × ℕ)
      → IsCellRead cell (Ok member)
      → IsTakenCell Stands blank (member_cell (option_map node_tree member)) taken
      → IsTakenCell Stands blank cell taken
  read_cell absent member taken read is =
      subst (λ (o : Option Tree). IsTakenCell Stands blank (member_cell o) taken) read is
  read_cell (value t) member taken read is =
      subst (λ (o : Option Tree). IsTakenCell Stands blank (member_cell o) taken) read is
  read_cell (other b) member taken read is = absurd cc

  none_held : (bytes : List ℕ) (place : KohibladPlace) (member : Option Node) (taken : V × ℕ)
      → IsTakenCell Stands blank (member_cell (option_map node_tree member)) taken
      → IfSome member (λ node. IsCellPlace bytes (value (node_tree node)) place)
      → IfNone member (place_state bytes place ≡ 0)
      → HoldsNone bytes place → taken ≡ (blank, place_state bytes place)
  none_held bytes place (Some node) taken is held none holds =
      absurd (holds (node_tree node) held)
  none_held bytes place None taken is held none holds =
      is ∙ ap (λ (n : ℕ). (blank, n)) (sym none)

  pub taken_member : (bytes : List ℕ) (place : KohibladPlace) (member : Option Node)
      (taken : V × ℕ)
      → ((cell : Cell Tree) → IsCellPlace bytes cell place → IsCellRead cell (Ok member))
      → IsTakenCell Stands blank (member_cell (option_map node_tree member)) taken
      → IfSome member (λ node. IsCellPlace bytes (value (node_tree node)) place)
      → IfNone member (place_state bytes place ≡ 0)
      → IsTakenAt Stands blank bytes place taken
  taken_member bytes place member taken read is held none = (
    λ cell there. read_cell cell member taken (read cell there) is,
    (
      none_held bytes place member taken is held none,
      some_taken Stands blank (option_map node_tree member) taken is,
    ),
  )

  -- What is taken of the payload that was read at its place.
  payload_cell : (cell : Cell Tree) (type : ℕ) (payload : Bor (List ℕ)) (taken : V × ℕ)
      → IsPayloadRead type cell (Ok (Some payload))
      → ((t : Tree) → IsPayloadOf type payload.now t
      → IsTakenCell Stands blank (member_cell (Some t)) taken)
      → IsTakenCell Stands blank cell taken
  payload_cell absent type payload taken read entry = absurd cc
  payload_cell (value t) type payload taken read entry = entry t read
  payload_cell (other b) type payload taken read entry = absurd cc

  pub taken_payload : (bytes : List ℕ) (place : KohibladPlace) (payload : Bor (List ℕ))
      (taken : V × ℕ)
      → ((cell : Cell Tree) → IsCellPlace bytes cell place
      → IsPayloadRead place.type_code cell (Ok (Some payload)))
      → ((t : Tree) → IsPayloadOf place.type_code payload.now t
      → IsTakenCell Stands blank (member_cell (Some t)) taken)
      → IsThere bytes place payload.now
      → (((t : Tree) → IsPayloadOf place.type_code payload.now t → ⊥)
      → taken ≡ (blank, entry_state place.type_code))
      → IsSomeTaken blank taken → IsTakenAt Stands blank bytes place taken
  taken_payload bytes place payload taken read entry there unread some = (
    λ cell there. payload_cell cell place.type_code payload taken (read cell there) entry,
    (
      λ holds. unread (λ t means. holds t (
        there.0,
        (
          there.1.0,
          subst
              (λ (p : List ℕ). IsPayloadOf place.type_code p t) there.1.1 means,
        ),
      ))
          ∙ ap (λ (n : ℕ). (blank, n)) (sym (state_there bytes place there.0 there.1.0)),
      some,
    ),
  )

  none_cell : (cell : Cell Tree) (type : ℕ) → IsPayloadRead type cell (Ok None)
      → IsTakenCell Stands blank cell (blank, 0)
  none_cell absent type read = refl
  none_cell (value t) type read = absurd read
  none_cell (other b) type read = absurd cc

  pub taken_none : (bytes : List ℕ) (place : KohibladPlace)
      → ((cell : Cell Tree) → IsCellPlace bytes cell place
      → IsPayloadRead place.type_code cell (Ok None))
      → place.status ≡ none
      → IsTakenAt Stands blank bytes place (blank, 0)
  taken_none bytes place read is = (
    λ cell there. none_cell cell place.type_code (read cell there),
    (
      λ holds. ap (λ (n : ℕ). (blank, n)) (sym (state_none bytes place is)),
      inr (refl, omega arith),
    ),
  )

  fault_cell : (cell : Cell Tree) (type state : ℕ) → state ≡ 4
      → IsPayloadRead type cell (Err state) → IsTakenCell Stands blank cell (blank, state)
  fault_cell absent type state is read = absurd cc
  fault_cell (value t) type state is read = absurd read
  fault_cell (other b) type state is read = ap (λ (n : ℕ). (blank, n)) is

  pub taken_fault : (bytes : List ℕ) (place : KohibladPlace) (state : ℕ) → state ≡ 4
      → ((cell : Cell Tree) → IsCellPlace bytes cell place
      → IsPayloadRead place.type_code cell (Err state))
      → IsNowhere bytes place
      → IsTakenAt Stands blank bytes place (blank, state)
  taken_fault bytes place state is read nowhere = (
    λ cell there. fault_cell cell place.type_code state is (read cell there),
    (
      λ holds. ap (λ (n : ℕ). (blank, n)) (is ∙ sym (state_nowhere bytes place nowhere)),
      known_state Stands blank state (inr is),
    ),
  )

  state_cell : (cell : Cell Tree) (state : ℕ) → HoldsScalars Stands
      → IsCellRead cell (Err state) → IsTakenCell Stands blank cell (blank, state)
  state_cell absent state scalars read = absurd read
  state_cell (value t) state scalars read = state_found Stands blank (Some t) state scalars read
  state_cell (other b) state scalars read = ap (λ (n : ℕ). (blank, n)) (state_is read)
    where
      state_is : ◌≡◌ {A = Result (Option Node) ℕ} (Err state) (Err 4) → state ≡ 4
      state_is same = cc

  pub taken_state : (bytes : List ℕ) (place : KohibladPlace) (state : ℕ) → HoldsScalars Stands
      → ((cell : Cell Tree) → IsCellPlace bytes cell place → IsCellRead cell (Err state))
      → (state ≡ 3) ⊎ (state ≡ 4) → state ≡ place_state bytes place
      → IsTakenAt Stands blank bytes place (blank, state)
  taken_state bytes place state scalars read known is = (
    λ cell there. state_cell cell state scalars (read cell there),
    (λ holds. ap (λ (n : ℕ). (blank, n)) is, known_state Stands blank state known),
  )
