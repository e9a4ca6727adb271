-- What is left of a document after what is at the ends of paths is removed.
use Rattle.std.specs.Prelude.{◌≡◌, ◌⊎◌, ℕ, suc, List, [], ◌∷◌, Bool, false, Ok, Err}
use Rattle.std.specs.Prelude.{◌==◌, cond}
use Rattle.std.specs.Borrow.{Bor}
use Rattle.jsonb_value.specs.Tree.{Tree}
use Rattle.jsonb_codec.specs.Canon.{canon, Fits}
use Rattle.jsonb.specs.Document.{tree_in}
use Rattle.jsonb_functions.specs.Edited.{edited_whole, remove}
use Rattle.jsonb_functions.specs.declared.path.Step.{Step}
use Rattle.jsonb_rows.specs.declared.reach.Reach.{Reach}
use Rattle.jsonb_rows.specs.Each as each
use Rattle.jsonb_rows.specs.Each.{edited_each}
use Rattle.kohiblad_shell.specs.declared.target.Target.{Target}
use Rattle.kohiblad_shell.specs.declared.target.Target.TheVariants.{One, Each}
use Rattle.kohiblad_shell.specs.declared.input.Form.{Form}
use Rattle.kohiblad_shell.specs.declared.outcome.Reason.TheVariants.{TooLarge}
use Rattle.kohiblad_shell.specs.Faults.{plain_fault}
use Rattle.kohiblad_shell.specs.Inputs.{made_row}
use Rattle.kohiblad_shell.specs.Outcomes.{Outcome}

-- The value of a document without what is at the end of a path.
abbrev pub without_one : List Step → List ℕ → Tree
without_one path bytes = edited_whole path remove (tree_in bytes)

-- The value of a document without what is at each place of a path with wildcards.
abbrev pub without_each : List Reach → List ℕ → Tree
without_each path bytes = edited_each path each.remove (tree_in bytes)

-- The value of a document without what a target names.
abbrev pub without : Target → List ℕ → Tree
without (One path) bytes = without_one path.items bytes
without (Each path) bytes = without_each path.items bytes

-- What the removal of what is at the ends or places of these paths, one after the other, gives for a
-- document: the row of what is left at last, or the fault that what one of them leaves is too large
-- for a document.
abbrev pub IsRemoved : Form → List Target → List ℕ → Outcome → Type 0
IsRemoved form [] bytes outcome = outcome ≡ Ok (made_row form bytes)
IsRemoved form (target ∷ targets) bytes outcome =
    (Fits (without target bytes)
    × IsRemoved form targets (canon (without target bytes)) outcome)
    ⊎ ((Fits (without target bytes) → ⊥)
    × (outcome ≡ Err (plain_fault 0 TooLarge)))

-- Whether a word begins as a path does, by a dollar sign.
abbrev pub begins_path : List ℕ → Bool
begins_path [] = false
begins_path (byte ∷ word) = byte == 36

-- How many words, from the first on, begin so.
abbrev pub path_count : List (Bor (List ℕ)) → ℕ
path_count [] = 0
path_count (word ∷ words) = cond (begins_path word.now) (suc (path_count words)) 0
