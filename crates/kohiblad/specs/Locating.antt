-- The places of several members in rows, as C receives them.
use Rattle.std.specs.Prelude.{◌≡◌, ◌<◌, ◌≤◌, ◌⊎◌, ◌+◌, ◌-◌, ◌*◌, ◌++◌, ◌∷◌, [], ⊤, ℕ, true}
use Rattle.std.specs.Prelude.{false, List, drop, length, map, take, Option, None, Some, IfSome, Ok}
use Rattle.std.specs.Borrow.{Bor}
use Rattle.std.specs.List.{AllZip, flat_map}
use Rattle.jsonb_value.specs.Meaning.{Meaning, document, other_bytes}
use Rattle.jsonb_value.specs.Tree.{Tree}
use Rattle.jsonb_value.specs.declared.error.Error.TheVariants.{InvalidEOF, InvalidJsonb}
use Rattle.jsonb_value.specs.declared.error.Error.TheVariants.{OutOfMemory}
use Rattle.jsonb_codec.specs.Doc.{Doc}
use Rattle.jsonb.specs.Entry.{IsEntryIn}
use Rattle.jsonb.specs.Within.{meaning_within}
use Rattle.jsonb.specs.declared.entries.Entry.{Entry}
use Rattle.jsonb_functions.specs.Found.{found_at}
use Rattle.jsonb_functions.specs.PathPlaces.{moved}
use Rattle.jsonb_functions.specs.declared.path.Step.TheVariants.{Key}
use Rattle.jsonb_typed.specs.Surveys.{member_cell}
use Rattle.kohiblad.specs.declared.places.KohibladPlace.{KohibladPlace}
use Rattle.kohiblad.specs.declared.taking.Reading.{Reading}
use Rattle.kohiblad.specs.declared.taking.Reading.TheVariants.{Checked, Unchecked}
use Rattle.kohiblad.specs.Located.{IsCellPlace}
use Rattle.kohiblad.specs.Names.{names_in}
use Rattle.kohiblad.specs.PlacedMembers.{name_place, names_ascend}
use Rattle.kohiblad.specs.Places.{place_answer}
use Rattle.kohiblad.specs.RowCells.{row_cell}
use Rattle.kohiblad.specs.Rows.{are_offsets}
use Rattle.kohiblad.specs.Status.{code, no_room, other_kind}

-- No place, or one inside the bytes.
abbrev pub IsSomePlace : List ℕ → KohibladPlace → Type 0
IsSomePlace bytes place = (place ≡ place_answer (Ok None))
    ⊎ ((place.status ≡ 0) × (place.offset + place.length ≤ length bytes))

-- The place of the member with a name of a row, by how rows are read: that of what the row has; if
-- it is not checked, of a document that of its member, of no bytes that there is none, and of other
-- bytes any.
abbrev pub IsLocated : Reading → List ℕ → List ℕ → Bor (List ℕ) → KohibladPlace → Type 0
IsLocated (Checked depth) bytes row name place =
    IsCellPlace bytes (row_cell depth (Key name ∷ []) row) place
IsLocated Unchecked bytes row name place =
    ((t : Tree) → Doc row t → IsCellPlace bytes (member_cell (found_at (Key name ∷ []) t)) place)
    × ((row ≡ [] → place ≡ place_answer (Ok None)) × IsSomePlace bytes place)

-- The place in all bytes of an entry that was found in a row, which begins at `start`.
abbrev pub placed_answer : ℕ → Option Entry → KohibladPlace
placed_answer start None = place_answer (Ok None)
placed_answer start (Some entry) = place_answer (Ok (Some (moved start entry)))

-- The place is that of the value of the name in a row that begins at `start`, or that the row has
-- none, by how rows are read: of a document of at most the depth, and if rows are not checked of
-- every document.
abbrev pub IsValueOfName : Reading → ℕ → List ℕ → Bor (List ℕ) → KohibladPlace → Type 0
IsValueOfName (Checked depth) start row name place =
    (t : Tree) → meaning_within depth row ≡ document t
    → place ≡ placed_answer start (name_place name.now row)
IsValueOfName Unchecked start row name place =
    (t : Tree) → Doc row t → place ≡ placed_answer start (name_place name.now row)

-- Where rows begin and end in all bytes: the first begins at `start`, and each other at the end of
-- the previous one.
abbrev pub spans_from : ℕ → List ℕ → List (ℕ × ℕ)
spans_from start [] = []
spans_from start (end ∷ ends) = (start, end) ∷ spans_from end ends

-- Where the rows between these offsets begin and end.
abbrev pub spans : List ℕ → List (ℕ × ℕ)
spans [] = []
spans (start ∷ ends) = spans_from start ends

-- The bytes of the row that begins and ends there.
abbrev pub row_at : List ℕ → ℕ × ℕ → List ℕ
row_at bytes span = take (span.1 - span.0) (drop span.0 bytes)

-- The place is one inside the row that begins and ends there, if it is any.
abbrev pub IsInRow : ℕ × ℕ → KohibladPlace → Type 0
IsInRow span place =
    place.status ≡ 0 → (span.0 ≤ place.offset) × (place.offset + place.length ≤ span.1)

-- The place of the member with a name of the row that begins and ends there: it holds the value
-- that the row's tree has for the name, is inside the row, and is that of the value stored for the
-- name.
abbrev pub IsLocatedIn : Reading → List ℕ → ℕ × ℕ → Bor (List ℕ) → KohibladPlace → Type 0
IsLocatedIn reading bytes span name place =
    IsLocated reading bytes (row_at bytes span) name place
    × (IsInRow span place × IsValueOfName reading span.0 (row_at bytes span) name place)

-- The places of the members with these names of a row.
abbrev pub AreNamesLocated : Reading → List ℕ → List (Bor (List ℕ)) → ℕ × ℕ
    → List KohibladPlace → Type 0
AreNamesLocated reading bytes names span places =
    AllZip (IsLocatedIn reading bytes span) names places

-- One list after another.
abbrev pub joined_places : List (List KohibladPlace) → List KohibladPlace
joined_places = flat_map (λ places. places)

-- The places of each row are at the start of the buffer, one row's after another's, and the rest is
-- unchanged.
abbrev pub AreRowsLocated : Reading → List ℕ → List (Bor (List ℕ)) → List (ℕ × ℕ)
    → List KohibladPlace → List KohibladPlace → Type 0
AreRowsLocated reading bytes names rows before after =
    (found : List (List KohibladPlace))
    × (AllZip (AreNamesLocated reading bytes names) rows found
    × (after ≡ joined_places found ++ drop (length (joined_places found)) before))

-- The places are written, if the buffer has room for those of all rows.
abbrev pub ArePlacesWritten : Reading → List ℕ → List (Bor (List ℕ)) → List (ℕ × ℕ)
    → List KohibladPlace → List KohibladPlace → ℕ → Type 0
ArePlacesWritten reading bytes names rows before after status =
    ((length before < length rows * length names) × ((status ≡ no_room) × (after ≡ before)))
    ⊎ ((length rows * length names ≤ length before)
    × ((status ≡ 0) × AreRowsLocated reading bytes names rows before after))

-- The call is done with these names, or refused: there are none, or they do not ascend.
abbrev pub WithNames : (ℕ → Type 0) → (List (Bor (List ℕ)) → Type 0) → Option (List (List ℕ))
    → Type 0
WithNames Refused Done None = Refused other_kind
WithNames Refused Done (Some texts) =
    ((names_ascend None texts ≡ false) × Refused other_kind)
    ⊎ ((names_ascend None texts ≡ true)
    × ((names : List (Bor (List ℕ))) × ((map (λ name. name.now) names ≡ texts) × Done names)))

-- The call is done with the names that a document gives, or there is not enough memory; bytes that
-- are not a document are refused.
abbrev pub WithNamesOf : (ℕ → Type 0) → (List (Bor (List ℕ)) → Type 0) → Meaning → Type 0
WithNamesOf Refused Done (document t) =
    WithNames Refused Done (names_in t) ⊎ Refused (code OutOfMemory)
WithNamesOf Refused Done (other_bytes b) = Refused (code InvalidJsonb)

-- The places of the members that have these names are written for all rows. Offsets that are below
-- the previous one or beyond the bytes are refused first.
abbrev pub AreLocated : Reading → List ℕ → List ℕ → Meaning → List KohibladPlace
    → List KohibladPlace → ℕ → Type 0
AreLocated reading bytes offsets names before after status =
    ((are_offsets (length bytes) 0 offsets ≡ false)
    × ((status ≡ code InvalidEOF) × (after ≡ before)))
    ⊎ ((are_offsets (length bytes) 0 offsets ≡ true)
    × WithNamesOf (λ refusal. (status ≡ refusal) × (after ≡ before))
    (λ names. ArePlacesWritten reading bytes names (spans offsets) before after status) names)

-- The row is known to be a document, if rows are checked.
abbrev pub IsKnownRow : Reading → List ℕ → Type 0
IsKnownRow (Checked depth) row =
    (t : Tree) × (Doc row t × (meaning_within depth row ≡ document t))
IsKnownRow Unchecked row = ⊤

-- The place of an entry that was found in a row: of a document that of the value of the name.
abbrev pub IsMemberPlace : ℕ → List ℕ → Bor (List ℕ) → KohibladPlace → Type 0
IsMemberPlace start row name place =
    (found : Option Entry)
    × ((place ≡ placed_answer start found)
    × (IfSome found (IsEntryIn row) × ((t : Tree) → Doc row t → found ≡ name_place name.now row)))

-- The places are in the buffer behind so many others, and the rest is unchanged.
abbrev pub ArePutBehind : ℕ → List KohibladPlace → List KohibladPlace → List KohibladPlace
    → Type 0
ArePutBehind at found before after =
    (front old : List KohibladPlace) → length front ≡ at → before ≡ front ++ drop at old
    → after ≡ (front ++ found) ++ drop (at + length found) old
