-- The places of members in rows, and the values that are taken there.
use Rattle.std.specs.Prelude.{◌≡◌, ◌≢◌, ◌≤◌, ◌+◌, ◌-◌, ◌∷◌, ◌==◌, ◌&&◌, [], ℕ, zero, suc}
use Rattle.std.specs.Prelude.{if◌then◌else◌, nat_le, List, length, take, drop, Option, None}
use Rattle.std.specs.Prelude.{Some, Result, Ok, Err, IsOkAnd, IsSomeAnd}
use Rattle.std.specs.Borrow.{Bor}
use Rattle.jsonb_value.specs.Tree.{Tree}
use Rattle.jsonb_value.specs.declared.error.Error.TheVariants.{InvalidJsonb}
use Rattle.jsonb_codec.specs.declared.constants.TheConstants.{CONTAINER_TAG}
use Rattle.jsonb_codec.specs.Parts.{IsPayloadOf}
use Rattle.jsonb.specs.declared.node.Node.{Node}
use Rattle.typed_vector.specs.Cells.{Cell, absent, value, other}
use Rattle.kohiblad.specs.declared.places.KohibladPlace.{KohibladPlace}
use Rattle.kohiblad.specs.Places.{place_answer}
use Rattle.kohiblad.specs.Status.{none}
use Rattle.kohiblad.specs.Taking.{IsSomeTaken, IsTakenCell}
use Rattle.kohiblad.specs.UncheckedRows.{IsReadAs}

-- The place of what a row has: none of no member, that of the payload of a member, and that the row
-- is no document.
abbrev pub IsCellPlace : List ℕ → Cell Tree → KohibladPlace → Type 0
IsCellPlace bytes absent place = place ≡ place_answer (Ok None)
IsCellPlace bytes (value t) place = (place.status ≡ 0)
    × ((place.offset + place.length ≤ length bytes)
    × IsPayloadOf place.type_code (take place.length (drop place.offset bytes)) t)
IsCellPlace bytes (other b) place = place ≡ place_answer (Err InvalidJsonb)

-- The place is inside the bytes, and this is what is there.
abbrev pub IsThere : List ℕ → KohibladPlace → List ℕ → Type 0
IsThere bytes place payload = (place.status ≡ 0)
    × ((place.offset + place.length ≤ length bytes)
    × (payload ≡ take place.length (drop place.offset bytes)))

-- The place is not inside the bytes, and does not say that there is no member.
abbrev pub IsNowhere : List ℕ → KohibladPlace → Type 0
IsNowhere bytes place = (place.status ≢ none)
    × (place.status ≡ 0 → place.offset + place.length ≤ length bytes → ⊥)

-- What is read of the payload of a row's member at its place.
abbrev pub IsPayloadRead : ℕ → Cell Tree → Result (Option (Bor (List ℕ))) ℕ → Type 0
IsPayloadRead type absent result = result ≡ Ok None
IsPayloadRead type (value t) result =
    IsOkAnd result (λ found. IsSomeAnd found (λ payload. IsPayloadOf type payload.now t))
IsPayloadRead type (other b) result = result ≡ Err 4

-- What is read of a row's member at its place.
abbrev pub IsCellRead : Cell Tree → Result (Option Node) ℕ → Type 0
IsCellRead absent result = IsReadAs None result
IsCellRead (value t) result = IsReadAs (Some t) result
IsCellRead (other b) result = result ≡ Err 4

-- The bytes at the place mean no tree: the place has another status, is not inside the bytes, or
-- what is there is no payload of its type.
abbrev pub HoldsNone : List ℕ → KohibladPlace → Type 0
HoldsNone bytes place = (t : Tree) → IsCellPlace bytes (value t) place → ⊥

-- The state of an entry whose payload means no tree: 3 of an array or object, which is not read,
-- and otherwise 4.
abbrev pub entry_state : ℕ → ℕ
entry_state type = if type == CONTAINER_TAG then 3 else 4

-- The state at a place that holds no tree: 0 if it says that there is no member, that of its entry
-- if it is inside the bytes, and otherwise 4.
abbrev pub place_state : List ℕ → KohibladPlace → ℕ
place_state bytes place =
    if place.status == none then 0
    else if (place.status == 0) && nat_le (place.offset + place.length) (length bytes)
    then entry_state place.type_code
    else 4

-- What is taken at a place: where a tree is, what a call that takes it out of a row takes, and
-- everywhere else no value, and the state of the place.
abbrev pub IsTakenAt : {V : Type 0} → (V → Tree → Type 0) → V → List ℕ → KohibladPlace → V × ℕ
    → Type 0
IsTakenAt Stands blank bytes place taken =
    ((cell : Cell Tree) → IsCellPlace bytes cell place → IsTakenCell Stands blank cell taken)
    × ((HoldsNone bytes place → taken ≡ (blank, place_state bytes place))
    × IsSomeTaken blank taken)

-- The element after so many, and then each that is so many steps after the one before it.
abbrev pub each_after : {A : Type 0} → ℕ → ℕ → List A → List A
each_after step passed [] = []
each_after step zero (x ∷ xs) = x ∷ each_after step (step - 1) xs
each_after step (suc passed) (x ∷ xs) = each_after step passed xs

-- The first element, and each that is so many steps after the one before it; all with 0 as with 1.
abbrev pub each_of : {A : Type 0} → ℕ → List A → List A
each_of step xs = each_after step 0 xs
