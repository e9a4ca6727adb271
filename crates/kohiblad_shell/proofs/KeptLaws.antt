-- Rows that are kept by their keys.
use Rattle.std.proofs.Common.{◌≡◌, ◌∙◌, ℕ, Bool, true, false, List, Result, Ok, Err}
use Rattle.std.proofs.Common.{[], ◌∷◌, ◌++◌, ◌<◌, OnErr, ap, arith, inr, length, not, refl, sym}
use Rattle.std.proofs.lemmas.List.{append-nil}
use Rattle.answer_lines.specs.Output.{AppendsPrefix}
use Rattle.answer_lines.proofs.Output.{Known}
use Rattle.kept_rows.specs.FirstRows.{has_key}
use Rattle.kohiblad_shell.specs.KeptWrites.{AppendsPrefixIfNew}
use Rattle.kohiblad_shell.specs.Sorts.{keyed_bytes}
use Rattle.kohiblad_shell.specs.declared.halt.Halt.{Halt}
use Rattle.kohiblad_shell.specs.declared.sort.Keyed.{Keyed}

-- nothing stands after a row
pub lone_row : (bytes rest : List ℕ) (row : Keyed) → bytes ≡ keyed_bytes row ++ rest
    → length rest < 1 → bytes ≡ keyed_bytes row
lone_row bytes [] row is none = is ∙ append-nil (keyed_bytes row)
lone_row bytes (b ∷ rest) row is none = absurd (omega (arith, none))

is_false : (b : Bool) → true ≡ not b → b ≡ false
is_false true h = absurd cc
is_false false h = refl

-- a prefix of the first row of a key is written
pub new_breaks : {T : Type 0} (result : Result T Halt) (keys : List (List ℕ)) (old new : Known)
    (bytes key : List ℕ) (row : Keyed) → bytes ≡ keyed_bytes row → key ≡ row.key.now
    → true ≡ not (has_key keys key) → OnErr result (AppendsPrefix old new row.line.now)
    → OnErr result (AppendsPrefixIfNew keys old new bytes)
new_breaks (Ok x) keys old new bytes key row is same fresh begins = tt
new_breaks (Err e) keys old new bytes key row is same fresh begins =
    let absent : has_key keys row.key.now ≡ false =
    ap (has_key keys) (sym same) ∙ is_false (has_key keys key) fresh in
    inr (row, is, rw absent begins)
