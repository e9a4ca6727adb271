-- The members of rows as texts or as binary values, as C receives them.
use Rattle.std.specs.Prelude.{◌≡◌, ◌<◌, ◌≤◌, ◌⊎◌, ◌+◌, ◌%◌, ◌^◌, ◌∷◌, [], ℕ, List, length}
use Rattle.std.specs.Prelude.{Result, Err, IsOkAnd}
use Rattle.std.specs.List.{AllZip, concat}
use Rattle.std.specs.Str.{IsUtf8}
use Rattle.jsonb_value.specs.declared.error.Error.TheVariants.{OutOfMemory}
use Rattle.jsonb_value.specs.Meaning.{Meaning}
use Rattle.jsonb_value.specs.Tree.{Tree}
use Rattle.jsonb_functions.specs.declared.path.Step.{Step}
use Rattle.jsonb_typed.specs.Types.{IsBinary, IsText}
use Rattle.kohiblad.specs.declared.places.KohibladPlace.{KohibladPlace}
use Rattle.kohiblad.specs.declared.taking.KohibladTaken.{KohibladTaken}
use Rattle.kohiblad.specs.declared.taking.Reading.{Reading}
use Rattle.kohiblad.specs.declared.taking.Reading.TheVariants.{Checked, Unchecked}
use Rattle.kohiblad.specs.declared.taking_texts.BytesType.{BytesType}
use Rattle.kohiblad.specs.declared.taking_texts.BytesType.TheVariants as bytes_types
use Rattle.kohiblad.specs.declared.taking_texts.TakenTexts.{TakenTexts}
use Rattle.kohiblad.specs.Located.{IsTakenAt}
use Rattle.kohiblad.specs.OverRows.{OverRows}
use Rattle.kohiblad.specs.Status.{code, no_room, IsCopied}
use Rattle.kohiblad.specs.Taking.{IsTakenBy, not_taken, states_of, taken_answer, values_put}

-- The bytes stand for the member, a text or a binary value.
abbrev pub IsBytes : BytesType → List ℕ → Tree → Type 0
IsBytes bytes_types.Text = IsText
IsBytes bytes_types.Binary = IsBinary

-- What is taken at a place as a text; also at a place where there is none it is UTF-8.
abbrev pub IsTextAt : List ℕ → KohibladPlace → List ℕ × ℕ → Type 0
IsTextAt bytes place taken = IsTakenAt IsText [] bytes place taken × IsUtf8 taken.0

-- What is taken at a place as a text or as a binary value.
abbrev pub IsBytesAt : BytesType → List ℕ → KohibladPlace → List ℕ × ℕ → Type 0
IsBytesAt bytes_types.Text = IsTextAt
IsBytesAt bytes_types.Binary = IsTakenAt IsBinary []

-- What is written for a row that is not checked, as a text; also where the row is no document it is
-- UTF-8.
abbrev pub IsTextUnchecked : List Step → List ℕ → List ℕ × ℕ → Type 0
IsTextUnchecked path row taken = IsTakenBy IsText [] Unchecked path row taken × IsUtf8 taken.0

-- What is written for a row that is not checked, as a text or as a binary value.
abbrev pub IsBytesUnchecked : BytesType → List Step → List ℕ → List ℕ × ℕ → Type 0
IsBytesUnchecked bytes_types.Text = IsTextUnchecked
IsBytesUnchecked bytes_types.Binary = IsTakenBy IsBinary [] Unchecked

-- The same by how rows are read.
abbrev pub IsBytesRow : Reading → BytesType → List Step → List ℕ → List ℕ × ℕ → Type 0
IsBytesRow (Checked depth) bytes_type = IsTakenBy (IsBytes bytes_type) [] (Checked depth)
IsBytesRow Unchecked bytes_type = IsBytesUnchecked bytes_type

-- Where texts end, the first of which begins at an offset.
abbrev pub ends_from : ℕ → List (List ℕ) → List ℕ
ends_from start [] = []
ends_from start (text ∷ texts) = (start + length text) ∷ ends_from (start + length text) texts

-- Where the texts begin, and the last one ends.
abbrev pub text_offsets : List (List ℕ) → List ℕ
text_offsets texts = 0 ∷ ends_from 0 texts

-- The buffers of texts, of their offsets and of states, before and after, and the length.
pub record TextBuffers : Type 0 where
  pub texts : List ℕ
  pub texts_after : List ℕ
  pub size : ℕ
  pub offsets : List ℕ
  pub offsets_after : List ℕ
  pub states : List ℕ
  pub states_after : List ℕ

-- The same of these buffers.
abbrev pub text_outputs : List ℕ → List ℕ → ℕ → List ℕ → List ℕ → List ℕ → List ℕ → TextBuffers
text_outputs texts texts_after size offsets offsets_after states states_after = record {
  texts = texts;
  texts_after = texts_after;
  size = size;
  offsets = offsets;
  offsets_after = offsets_after;
  states = states;
  states_after = states_after;
}

-- The buffers are unchanged.
abbrev pub AreTextsKept : TextBuffers → Type 0
AreTextsKept b = (b.texts_after ≡ b.texts)
    × ((b.offsets_after ≡ b.offsets) × (b.states_after ≡ b.states))

-- A buffer is too short for these rows.
abbrev pub IsShortFor : List (List ℕ × ℕ) → TextBuffers → Type 0
IsShortFor taken b = (length b.texts < length (concat (values_put taken)))
    ⊎ ((length b.offsets < length (text_offsets (values_put taken)))
    ⊎ (length b.states < length (states_of taken)))

-- The texts, their offsets and the states of these rows are at the start of the buffers, and the
-- rest is unchanged.
abbrev pub AreTextsPut : List (List ℕ × ℕ) → TextBuffers → Type 0
AreTextsPut taken b = IsCopied (concat (values_put taken)) b.texts b.texts_after
    × (IsCopied (text_offsets (values_put taken)) b.offsets b.offsets_after
    × IsCopied (states_of taken) b.states b.states_after)

-- These rows are handed over, or a buffer is too short; in any case the length of the texts is
-- stored.
abbrev pub AreTextsHandedOver : List (List ℕ × ℕ) → TextBuffers → KohibladTaken → Type 0
AreTextsHandedOver taken b answer =
    (b.size ≡ length (concat (values_put taken)))
    × ((AreTextsPut taken b × (answer ≡ taken_answer (states_of taken)))
    ⊎ (IsShortFor taken b × ((answer ≡ not_taken no_room) × AreTextsKept b)))

-- The same if the texts have at most so many bytes; longer ones are refused as if the room for them
-- were too short.
abbrev pub AreTextsWithin : ℕ → List (List ℕ × ℕ) → TextBuffers → KohibladTaken → Type 0
AreTextsWithin most taken b answer =
    ((length (concat (values_put taken)) ≤ most) × AreTextsHandedOver taken b answer)
    ⊎ ((most < length (concat (values_put taken)))
    × ((b.size ≡ length (concat (values_put taken)))
    × ((answer ≡ not_taken no_room) × AreTextsKept b)))

-- Only this status is returned: the buffers are unchanged, and the length is 0.
abbrev pub AreTextsRefused : ℕ → TextBuffers → KohibladTaken → Type 0
AreTextsRefused status b answer = (answer ≡ not_taken status) × ((b.size ≡ 0) × AreTextsKept b)

-- What is kept of these rows: their texts, one after another, the offsets of these, and the states.
pub record IsTextsOf (taken : List (List ℕ × ℕ)) (kept : TakenTexts) : Type 0 where
  pub texts : kept.texts.items ≡ concat (values_put taken)
  pub offsets : kept.offsets.items ≡ text_offsets (values_put taken)
  pub states : kept.states.items ≡ states_of taken

-- The texts of the rows are made, each as the relation says; or there is not enough memory.
abbrev pub AreTextsMade : {A : Type 0} → (A → List ℕ × ℕ → Type 0) → List A
    → Result TakenTexts ℕ → Type 0
AreTextsMade IsTaken rows made =
    ((taken : List (List ℕ × ℕ))
    × (AllZip IsTaken rows taken × IsOkAnd made (λ kept. IsTextsOf taken kept)))
    ⊎ (made ≡ Err (code OutOfMemory))

-- How texts are handed over: what is in the buffers then, and the answer.
abbrev pub HandingOver : Type 1
HandingOver = List (List ℕ × ℕ) → TextBuffers → KohibladTaken → Type 0

-- The texts of the rows are taken, each as the relation says, and handed over.
abbrev pub AreRowTextsTaken : {A : Type 0} → HandingOver → (A → List ℕ × ℕ → Type 0) → List A
    → TextBuffers → KohibladTaken → Type 0
AreRowTextsTaken AreHandedOver IsTaken rows b answer =
    ((taken : List (List ℕ × ℕ)) × (AllZip IsTaken rows taken × AreHandedOver taken b answer))
    ⊎ AreTextsRefused (code OutOfMemory) b answer

-- The members of the rows are taken, at the end of the path and of each row as the relation says.
abbrev pub AreTextsTaken : HandingOver → (List Step → List ℕ → List ℕ × ℕ → Type 0) → List ℕ
    → List ℕ → Meaning → TextBuffers → KohibladTaken → Type 0
AreTextsTaken AreHandedOver IsTaken bytes offsets path b answer =
    OverRows (λ status. AreTextsRefused status b answer)
    (λ rows steps. AreRowTextsTaken AreHandedOver (IsTaken steps) rows b answer) bytes offsets path

-- The low 32 bits of a word.
abbrev pub low_word : ℕ → ℕ
low_word word = word % (2 ^ 32)
