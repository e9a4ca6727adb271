-- How a survey is written as JSON.
use Rattle.std.specs.Prelude.{◌++◌, ℕ, List, Option, None, Some, codes, decimal}
use Rattle.jsonb_typed.specs.declared.survey.Scales.{Scales}
use Rattle.jsonb_typed.specs.declared.survey.Survey.{Survey}

-- A count with its name, and a comma after it.
abbrev pub count_member : List ℕ → ℕ → List ℕ
count_member name count =
    codes "\"" ++ (name ++ (codes "\":" ++ (decimal count ++ codes ",")))

-- How many rows there are, how many have no value, and how many values are null or booleans.
abbrev pub row_count_members : Survey → List ℕ
row_count_members s =
    count_member (codes "rows") s.rows ++ (count_member (codes "absent") s.absent
    ++ (count_member (codes "null") s.nulls ++ count_member (codes "boolean") s.booleans))

-- How many values are numbers of each kind.
abbrev pub number_count_members : Survey → List ℕ
number_count_members s =
    count_member (codes "int64") s.int64s ++ (count_member (codes "uint64") s.uint64s
    ++ (count_member (codes "decimal64") s.decimal64s
    ++ count_member (codes "decimal128") s.decimal128s))

-- How many values are dates, timestamps or intervals.
abbrev pub time_count_members : Survey → List ℕ
time_count_members s =
    count_member (codes "date") s.dates ++ (count_member (codes "timestamp") s.timestamps
    ++ (count_member (codes "timestamp_tz") s.zoned_timestamps
    ++ count_member (codes "interval") s.intervals))

-- How many values are extension values of other kinds.
abbrev pub extension_count_members : Survey → List ℕ
extension_count_members s =
    count_member (codes "binary") s.binaries ++ count_member (codes "opaque") s.opaques

-- How many values are texts, arrays or objects.
abbrev pub container_count_members : Survey → List ℕ
container_count_members s =
    count_member (codes "text") s.texts ++ (count_member (codes "array") s.arrays
    ++ count_member (codes "object") s.objects)

-- How many bytes texts have, and how many digits numbers, at most.
abbrev pub length_members : Survey → List ℕ
length_members s =
    count_member (codes "length") s.longest_text ++ count_member (codes "digits") s.most_digits

-- How many digits numbers have after the point, or null if there are no numbers.
abbrev pub scales_json : Option Scales → List ℕ
scales_json None = codes "null"
scales_json (Some s) =
    codes "[" ++ (decimal s.least ++ (codes "," ++ (decimal s.greatest ++ codes "]")))

-- All counts of a survey, with commas after them.
abbrev pub count_members : Survey → List ℕ
count_members s =
    row_count_members s ++ (number_count_members s ++ (time_count_members s
    ++ (extension_count_members s ++ (container_count_members s ++ length_members s))))

-- A survey as an object on one line.
abbrev pub survey_json : Survey → List ℕ
survey_json s =
    codes "{" ++ (count_members s ++ (codes "\"scales\":" ++ (scales_json s.scales ++ codes "}\n")))
