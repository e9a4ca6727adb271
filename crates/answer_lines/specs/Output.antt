-- How much of some bytes was written.
use Rattle.std.specs.Prelude.{◌≡◌, ℕ, List, ◌++◌, Option}
use Rattle.std.specs.Io.KnownBytes.{Appends}

-- A prefix of the bytes was appended.
pub record AppendsPrefix (old new : Option (List ℕ)) (bytes : List ℕ) : Type 0 where
  pub written : List ℕ
  pub unwritten : List ℕ
  pub parts : bytes ≡ written ++ unwritten
  pub appends : Appends old new written

-- All of the bytes but the rest were appended.
pub record AppendsAllBut (rest : List ℕ) (old new : Option (List ℕ)) (bytes : List ℕ) : Type 0 where
  pub written : List ℕ
  pub parts : bytes ≡ written ++ rest
  pub appends : Appends old new written
