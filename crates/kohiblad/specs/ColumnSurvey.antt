-- A survey, as C receives it.
use Rattle.std.specs.Prelude.{◌≡◌, ℕ, List, map, Option, None, Some}
use Rattle.jsonb_value.specs.Meaning.{Meaning}
use Rattle.jsonb_typed.specs.Surveys.{no_rows, survey_of}
use Rattle.jsonb_typed.specs.declared.survey.Scales.{Scales}
use Rattle.jsonb_typed.specs.declared.survey.Survey.{Survey}
use Rattle.kohiblad.specs.declared.column_survey.KohibladSurvey.{KohibladSurvey}
use Rattle.kohiblad.specs.OverRows.{OverRows}
use Rattle.kohiblad.specs.RowCells.{row_cell}

-- The least scale of a survey's numbers, and the greatest; 0 if it has none.
abbrev pub least_scale : Option Scales → ℕ
least_scale None = 0
least_scale (Some s) = s.least

abbrev pub greatest_scale : Option Scales → ℕ
greatest_scale None = 0
greatest_scale (Some s) = s.greatest

-- The counts of a survey.
abbrev pub survey_answer : Survey → KohibladSurvey
survey_answer s = record {
  status = 0;
  least_scale = least_scale s.scales;
  greatest_scale = greatest_scale s.scales;
  most_digits = s.most_digits;
  longest_text = s.longest_text;
  rows = s.rows;
  not_documents = s.not_documents;
  absent = s.absent;
  nulls = s.nulls;
  booleans = s.booleans;
  int64s = s.int64s;
  uint64s = s.uint64s;
  decimal64s = s.decimal64s;
  decimal128s = s.decimal128s;
  texts = s.texts;
  binaries = s.binaries;
  dates = s.dates;
  timestamps = s.timestamps;
  zoned_timestamps = s.zoned_timestamps;
  intervals = s.intervals;
  opaques = s.opaques;
  arrays = s.arrays;
  objects = s.objects;
}

-- A survey with this status, and 0 in all fields.
abbrev pub no_survey : ℕ → KohibladSurvey
no_survey status = record (survey_answer no_rows) { status = status }

-- The survey of what the rows have at the end of the path; or it is refused.
abbrev pub AreRowsSurveyed : ℕ → List ℕ → List ℕ → Meaning → KohibladSurvey → Type 0
AreRowsSurveyed depth bytes offsets path answer =
    OverRows (λ status. answer ≡ no_survey status)
    (λ rows steps. answer ≡ survey_answer (survey_of (map (row_cell depth steps) rows)))
    bytes offsets path
