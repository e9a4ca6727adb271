-- What is known of values that were gathered for an array.
use Rattle.std.specs.Prelude.{◌≡◌, ◌↔◌, ℕ, List, length, IsTrue}
use Rattle.jsonb.specs.declared.builder.gathered.Gathered.{Gathered}
use Rattle.jsonb.specs.ItemView.{ItemView}
use Rattle.jsonb.specs.Building.{FitArray}
use Rattle.jsonb.specs.Children.{AreShown}

-- The values came for an array of these items. It is known whether such an array can be built; if
-- so, they were counted, and kept unless memory was refused.
pub record IsGathered {T : Type 0} (stored : T → Type 0) (code : T → ℕ × List ℕ) (g : Gathered T)
    (xs : List ItemView) : Type 0 where
  pub fit : IsTrue g.fit ↔ FitArray xs
  pub counted : IsTrue g.fit → g.count ≡ length xs
  pub kept : IsTrue g.fit → IsTrue g.complete → AreShown stored code g.values.items xs
