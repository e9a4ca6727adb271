-- The results of the calls on paths, as C receives them.
use Rattle.std.specs.Prelude.{◌≡◌, ◌⊎◌, ◌<◌, ◌≤◌, ℕ, List, map, Option, None, Some, Ok}
use Rattle.std.specs.Str.{IsUtf8}
use Rattle.jsonb_value.specs.declared.error.Error.TheVariants.{InvalidJsonb, InvalidUtf8}
use Rattle.jsonb_value.specs.declared.error.Error.TheVariants.{OutOfMemory}
use Rattle.jsonb_value.specs.Meaning.{Meaning, document, other_bytes}
use Rattle.jsonb_codec.specs.Depth.{IsDocumentWithin}
use Rattle.jsonb.specs.Document.{tree_in}
use Rattle.jsonb.specs.declared.entries.Entry.{Entry}
use Rattle.jsonb_functions.specs.declared.path.Step.{Step}
use Rattle.jsonb_functions.specs.declared.selection.Selector.{Selector}
use Rattle.jsonb_functions.specs.PathDocument.{path_tree}
use Rattle.jsonb_functions.specs.PathText.{PathText, SelectorView, selector_view, single_steps}
use Rattle.jsonb_functions.specs.SelectSteps.{select_steps}
use Rattle.jsonb_functions.specs.StoredPath.{StepView, path_in, step_view}
use Rattle.kohiblad.specs.declared.places.KohibladPlace.{KohibladPlace}
use Rattle.kohiblad.specs.Functions.{WritesTo}
use Rattle.jsonb_functions.specs.PathPlaces.{path_place, selected_places}
use Rattle.kohiblad.specs.Places.{place_answer}
use Rattle.kohiblad.specs.Scalars.{no_place}
use Rattle.kohiblad.specs.Status.{code, other_kind, too_many_steps, IsHandedOver}
use Rattle.kohiblad.specs.Status.{IsOneAnswered, IsRefused}

-- The text is a path of these steps, without wildcards, ranges and filters.
abbrev pub GivesSteps : List ℕ → List StepView → Type 0
GivesSteps text path =
    (selectors : List SelectorView)
    × (PathText text selectors × (single_steps selectors ≡ Some path))

-- The document of the path that a UTF-8 text gives is handed over; a text that is no path without
-- wildcards, ranges and filters is refused; or there is not enough memory.
abbrev pub IsPathTextRead : List ℕ → List ℕ → List ℕ → ℕ → ℕ → Type 0
IsPathTextRead text before after size status =
    ((path : List StepView)
    × (GivesSteps text path × IsOneAnswered (WritesTo (path_tree path)) before after size status))
    ⊎ ((((path : List StepView) → GivesSteps text path → ⊥)
    × IsRefused other_kind before after size status)
    ⊎ IsRefused (code OutOfMemory) before after size status)

-- The text is refused if it is not UTF-8, and otherwise read as `IsPathTextRead` says.
abbrev pub IsPathWritten : List ℕ → List ℕ → List ℕ → ℕ → ℕ → Type 0
IsPathWritten text before after size status =
    ((IsUtf8 text → ⊥) × IsRefused (code InvalidUtf8) before after size status)
    ⊎ (IsUtf8 text × IsPathTextRead text before after size status)

-- The place at the end of these steps, if they are there.
abbrev pub IsStepsPlace : List ℕ → Option (List StepView) → KohibladPlace → Type 0
IsStepsPlace bytes None answer = answer ≡ no_place other_kind
IsStepsPlace bytes (Some steps) answer =
    (path : List Step)
    × ((map step_view path ≡ steps) × (answer ≡ place_answer (Ok (path_place path bytes))))

-- The place at the end of the path that a document gives; or there is not enough memory. Bytes that
-- are not a document are refused.
abbrev pub IsPathPlace : List ℕ → Meaning → KohibladPlace → Type 0
IsPathPlace bytes (document p) answer =
    IsStepsPlace bytes (path_in p) answer ⊎ (answer ≡ no_place (code OutOfMemory))
IsPathPlace bytes (other_bytes b) answer = answer ≡ no_place (code InvalidJsonb)

-- Bytes that are not a document of at most this depth are refused, and in others the place is found
-- as `IsPathPlace` says.
abbrev pub IsPathPlaceWithin : ℕ → List ℕ → Meaning → KohibladPlace → Type 0
IsPathPlaceWithin depth bytes path answer =
    ((IsDocumentWithin depth bytes → ⊥) × (answer ≡ no_place (code InvalidJsonb)))
    ⊎ (IsDocumentWithin depth bytes × IsPathPlace bytes path answer)

-- A place that was found, as C receives it.
abbrev pub found_answer : Entry → KohibladPlace
found_answer place = place_answer (Ok (Some place))

-- The places that the path of a UTF-8 text selects are handed over; a text that is not a path is
-- refused; or there is not enough memory.
abbrev pub AreTextPlaces : List ℕ → List ℕ → List KohibladPlace → List KohibladPlace → ℕ → ℕ
    → Type 0
AreTextPlaces bytes text before after count status =
    ((path : List Selector)
    × (PathText text (map selector_view path)
    × IsHandedOver (map found_answer (selected_places path bytes)) before after count status))
    ⊎ ((((path : List SelectorView) → PathText text path → ⊥)
    × IsRefused other_kind before after count status)
    ⊎ IsRefused (code OutOfMemory) before after count status)

-- A text that is not UTF-8 is refused first, then bytes that are not a document of at most this
-- depth; otherwise there is another answer.
abbrev pub IsAskedWithin : ℕ → List ℕ → List ℕ → List KohibladPlace → List KohibladPlace → ℕ → ℕ
    → Type 0 → Type 0
IsAskedWithin depth bytes text before after count status Answered =
    ((IsUtf8 text → ⊥) × IsRefused (code InvalidUtf8) before after count status)
    ⊎ (IsUtf8 text
    × (((IsDocumentWithin depth bytes → ⊥)
    × IsRefused (code InvalidJsonb) before after count status)
    ⊎ (IsDocumentWithin depth bytes × Answered)))

-- In a document of at most this depth the places are handed over as `AreTextPlaces` says.
abbrev pub AreSelectedWithin : ℕ → List ℕ → List ℕ → List KohibladPlace → List KohibladPlace → ℕ → ℕ
    → Type 0
AreSelectedWithin depth bytes text before after count status =
    IsAskedWithin depth bytes text before after count status
    (AreTextPlaces bytes text before after count status)

-- The places that the path selects are handed over if it takes at most so many steps.
abbrev pub AreHandedInSteps : ℕ → List ℕ → List Selector → List KohibladPlace → List KohibladPlace
    → ℕ → ℕ → Type 0
AreHandedInSteps steps bytes path before after count status =
    ((select_steps path (tree_in bytes) ≤ steps)
    × IsHandedOver (map found_answer (selected_places path bytes)) before after count status)
    ⊎ ((steps < select_steps path (tree_in bytes))
    × IsRefused too_many_steps before after count status)

-- So are those of the path of a UTF-8 text; a text that is not a path is refused; or there is not
-- enough memory.
abbrev pub AreStepPlaces : ℕ → List ℕ → List ℕ → List KohibladPlace → List KohibladPlace → ℕ → ℕ
    → Type 0
AreStepPlaces steps bytes text before after count status =
    ((path : List Selector)
    × (PathText text (map selector_view path)
    × AreHandedInSteps steps bytes path before after count status))
    ⊎ ((((path : List SelectorView) → PathText text path → ⊥)
    × IsRefused other_kind before after count status)
    ⊎ IsRefused (code OutOfMemory) before after count status)

-- In a document of at most this depth the places are handed over as `AreStepPlaces` says.
abbrev pub AreSelectedInSteps : ℕ → ℕ → List ℕ → List ℕ → List KohibladPlace → List KohibladPlace
    → ℕ → ℕ → Type 0
AreSelectedInSteps depth steps bytes text before after count status =
    IsAskedWithin depth bytes text before after count status
    (AreStepPlaces steps bytes text before after count status)
