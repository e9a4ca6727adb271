-- The value at the key that a path names alone.
use Rattle.std.specs.Prelude.{ℕ, List, [], ◌∷◌, Option, None, Some, Ok, string_bytes}
use Rattle.jsonb.specs.Document.{tree_in}
use Rattle.jsonb_path.specs.declared.path.Accessor.{Accessor}
use Rattle.jsonb_path.specs.declared.path.Accessor.TheVariants.{Member}
use Rattle.jsonb_path.specs.declared.path.Mode.{Mode}
use Rattle.jsonb_path.specs.declared.path.Mode.TheVariants.{Lax}
use Rattle.jsonb_path.specs.declared.path.Part.{Part}
use Rattle.jsonb_path.specs.declared.path.Part.TheVariants.{Chain}
use Rattle.jsonb_path.specs.declared.path.Source.TheVariants.{Root}
use Rattle.jsonb_path.specs.PathParts.{PathParts}
use Rattle.kohiblad_shell.specs.declared.input.Form.TheVariants.{Lines}
use Rattle.kohiblad_shell.specs.declared.input.Reading.{Reading}
use Rattle.kohiblad_shell.specs.declared.operation.Style.{Style}
use Rattle.kohiblad_shell.specs.Asked.{asked}
use Rattle.kohiblad_shell.specs.Operations.{IsFirstGiven}
use Rattle.kohiblad_shell.specs.Rows.{IsRow}

abbrev pub key_of_steps : List Accessor → Option (List ℕ)
key_of_steps (Member key ∷ []) = Some (string_bytes key)
key_of_steps steps = None

abbrev pub key_of_parts : Mode → List Part → Option (List ℕ)
key_of_parts Lax (Chain Root steps ∷ []) = key_of_steps steps.items
key_of_parts mode parts = None

-- The key of a path that asks a row in lax for the value at this key, and for nothing else.
abbrev pub lone_key : PathParts → Option (List ℕ)
lone_key path = key_of_parts path.mode path.parts

-- These are the lines that are written for a line of which the first value at a path is asked.
abbrev pub IsMemberLine : Reading → PathParts → Style → List ℕ → List ℕ → Type 0
IsMemberLine reading path style line lines = (bytes : List ℕ) × (IsRow (Lines reading) line bytes
    × IsFirstGiven style (asked path (tree_in bytes)) (Ok lines))
