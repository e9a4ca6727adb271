-- Texts of paths of SQL/JSON, as C receives what they are.
use Rattle.std.specs.Prelude.{◌≡◌, ◌⊎◌, ℕ, List, Option, None, Some, chars, length}
use Rattle.std.specs.Str.{IsUtf8}
use Rattle.jsonb_value.specs.declared.error.Error.TheVariants.{InvalidUtf8, OutOfMemory}
use Rattle.jsonb_path.specs.declared.read.scan.Expected.{Expected}
use Rattle.jsonb_path.specs.declared.read.scan.Expected.TheVariants as expects
use Rattle.jsonb_path.specs.declared.read.scan.LeftOut.{LeftOut}
use Rattle.jsonb_path.specs.declared.read.scan.LeftOut.TheVariants as leaves
use Rattle.jsonb_path.specs.declared.token.Found.{Found}
use Rattle.jsonb_path.specs.declared.token.Found.TheVariants as finds
use Rattle.jsonb_path.specs.declared.token.PathFault.{PathFault}
use Rattle.jsonb_path.specs.declared.token.Reason.{Reason}
use Rattle.jsonb_path.specs.declared.token.Reason.TheVariants as reasons
use Rattle.jsonb_path.specs.Grammar.{path_of_text}
use Rattle.jsonb_path.specs.Meaning.{Query}
use Rattle.jsonb_path.specs.PathText.{query_text}
use Rattle.kohiblad.specs.Status.{IsHandedOver, IsRefused, code, none, other_kind}
use Rattle.kohiblad.specs.declared.path_texts.KohibladPathFault.{KohibladPathFault}

-- The numbers of reasons, of what is expected and found, and of what is left out.
abbrev pub reason_number : Reason → ℕ
reason_number reasons.UnclosedComment = 1
reason_number reasons.UnclosedText = 2
reason_number reasons.InvalidEscape = 3
reason_number reasons.InvalidNumber = 4
reason_number (reasons.Expected e f) = 5
reason_number (reasons.LeftOut l) = 6
reason_number reasons.TooDeep = 7

abbrev pub expected_number : Expected → ℕ
expected_number expects.Key = 1
expected_number expects.Level = 2
expected_number expects.KeyOrValue = 3
expected_number expects.Value = 4
expected_number expects.TextOrVariable = 5
expected_number (expects.Mark c) = 6
expected_number expects.ExpressionBefore = 7
expected_number expects.TestBefore = 8
expected_number expects.End = 9

abbrev pub mark_of : Expected → ℕ
mark_of (expects.Mark c) = c
mark_of e = 0

abbrev pub found_number : Found → ℕ
found_number finds.End = 1
found_number finds.Word = 2
found_number finds.Text = 3
found_number finds.Variable = 4
found_number finds.Number = 5
found_number (finds.Mark c) = 6
found_number (finds.Pair c d) = 6

abbrev pub left_out_number : LeftOut → ℕ
left_out_number leaves.Double = 1
left_out_number leaves.Datetime = 2
left_out_number leaves.WideNumber = 3
left_out_number leaves.Division = 4
left_out_number leaves.LikeRegex = 5

-- This status and offset, without a reason.
abbrev pub no_path_fault : ℕ → ℕ → KohibladPathFault
no_path_fault status at = record {
  status = status;
  reason = 0;
  offset = at;
  expected = 0;
  mark = 0;
  found = 0;
  left_out = 0;
}

-- A fault at a byte, as C receives it.
abbrev pub fault_at : ℕ → Reason → KohibladPathFault
fault_at at (reasons.Expected e f) = record {
  status = other_kind;
  reason = 5;
  offset = at;
  expected = expected_number e;
  mark = mark_of e;
  found = found_number f;
  left_out = 0;
}
fault_at at (reasons.LeftOut l) = record {
  status = other_kind;
  reason = 6;
  offset = at;
  expected = 0;
  mark = 0;
  found = 0;
  left_out = left_out_number l;
}
fault_at at r = record {
  status = other_kind;
  reason = reason_number r;
  offset = at;
  expected = 0;
  mark = 0;
  found = 0;
  left_out = 0;
}

-- Of a path the length of its text is the answer, of another text a fault; or there is not enough
-- memory.
abbrev pub IsFaultOf : List ℕ → Option Query → KohibladPathFault → Type 0
IsFaultOf text (Some query) answer =
    (answer ≡ no_path_fault 0 (length text)) ⊎ (answer ≡ no_path_fault (code OutOfMemory) 0)
IsFaultOf text None answer =
    ((fault : PathFault) × (answer ≡ fault_at fault.at fault.reason))
    ⊎ (answer ≡ no_path_fault (code OutOfMemory) 0)

-- A text that is not UTF-8 is refused first.
abbrev pub IsPathFault : List ℕ → KohibladPathFault → Type 0
IsPathFault text answer =
    ((IsUtf8 text → ⊥) × (answer ≡ no_path_fault (code InvalidUtf8) 0))
    ⊎ (IsUtf8 text × IsFaultOf text (path_of_text (chars text)) answer)

-- The text of a path is handed over; another text is of another kind.
abbrev pub IsPrintedAs : Option Query → List ℕ → List ℕ → ℕ → ℕ → Type 0
IsPrintedAs (Some query) before after size status =
    IsHandedOver (query_text query) before after size status
IsPrintedAs None before after size status = IsRefused other_kind before after size status

-- A text that is not UTF-8 is refused first; or there is not enough memory.
abbrev pub IsPathPrinted : List ℕ → List ℕ → List ℕ → ℕ → ℕ → Type 0
IsPathPrinted text before after size status =
    ((IsUtf8 text → ⊥) × IsRefused (code InvalidUtf8) before after size status)
    ⊎ (IsUtf8 text × (IsPrintedAs (path_of_text (chars text)) before after size status
    ⊎ IsRefused (code OutOfMemory) before after size status))

-- Some words are handed over, which are UTF-8.
abbrev pub AreWordsHandedOver : List ℕ → List ℕ → ℕ → ℕ → Type 0
AreWordsHandedOver before after size status =
    (words : List ℕ) × IsUtf8 words × IsHandedOver words before after size status

-- A text that is no path is refused in words; of a path there are none.
abbrev pub IsReportOf : Option Query → List ℕ → List ℕ → ℕ → ℕ → Type 0
IsReportOf (Some query) before after size status = IsRefused none before after size status
IsReportOf None before after size status = AreWordsHandedOver before after size status

-- A text that is not UTF-8 is refused first; or there is not enough memory.
abbrev pub IsPathReported : List ℕ → List ℕ → List ℕ → ℕ → ℕ → Type 0
IsPathReported text before after size status =
    ((IsUtf8 text → ⊥) × IsRefused (code InvalidUtf8) before after size status)
    ⊎ (IsUtf8 text × (IsReportOf (path_of_text (chars text)) before after size status
    ⊎ IsRefused (code OutOfMemory) before after size status))
