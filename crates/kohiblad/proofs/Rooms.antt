-- How many bytes trees take in documents.
use Rattle.std.proofs.Common.{ℕ, ◌+◌, List, [], ◌∷◌, length}
use Rattle.jsonb_value.specs.Tree.{Tree, null, boolean, number, text, extension, array, object}
use Rattle.jsonb_value.specs.Tree.{Trees, no_trees, tree, Pairs, no_pairs, pair}
use Rattle.jsonb_value.specs.NumCode.{number_payload}
use Rattle.jsonb_value.specs.ExtCode.{extension_payload}
use Rattle.jsonb_functions.specs.declared.path.Step.{Step}
use Rattle.jsonb_functions.specs.declared.path.Step.TheVariants.{Key}
use Rattle.jsonb_functions.specs.Edited.{Operation, put, create, insert, remove}

abbrev mutual
  -- The bytes of a tree as a child: its entry word, and its payload in canonical form.
  pub room : Tree → ℕ
  room null = 4
  room (boolean b) = 4
  room (number x) = 4 + length (number_payload x)
  room (text s) = 4 + length s
  room (extension e) = 4 + length (extension_payload e)
  room (array ts) = 8 + rooms ts
  room (object ps) = 8 + pair_rooms ps

  -- Those of an array's items.
  pub rooms : Trees → ℕ
  rooms no_trees = 0
  rooms (tree t ts) = room t + rooms ts

  -- Those of an object's pairs, with the keys.
  pub pair_rooms : Pairs → ℕ
  pair_rooms no_pairs = 0
  pair_rooms (pair k t ps) = 4 + length k + room t + pair_rooms ps

-- The bytes of a container that is made for a step.
abbrev pub step_room : Step → ℕ
step_room (Key k) = 12 + length k.now
step_room s = 12

-- Those of the containers for all steps.
abbrev pub path_room : List Step → ℕ
path_room [] = 0
path_room (s ∷ path) = step_room s + path_room path

-- Those of the value that an edit has.
abbrev pub operation_room : Operation → ℕ
operation_room (put v) = room v
operation_room (create v) = room v
operation_room (insert v) = room v
operation_room remove = 0
