-- Texts that are equal but for capital and small letters.
use Rattle.std.proofs.Common.{◌≡◌, ℕ, Bool, List}
use Rattle.std.specs.Prelude.{◌↔◌, IsTrue, bytes_eq}
use Rattle.std.proofs.lemmas.Bool.Decides.{same_from_decides}
use Rattle.std.proofs.lemmas.Slice.Eq.{bytes_eq-Decides}

pub same_letters : (r : Bool) (x y : List ℕ) → (IsTrue r ↔ (x ≡ y)) → r ≡ bytes_eq x y
same_letters r x y h = same_from_decides r (bytes_eq x y) h (bytes_eq-Decides x y)
