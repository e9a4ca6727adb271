-- What a printed text means when it is parsed.
use Rattle.std.specs.Prelude.{◌≡◌, ℕ, List}
use Rattle.std.specs.declared.cmp.Ordering.TheVariants.{Equal}
use Rattle.jsonb_value.specs.Tree.{Tree}
use Rattle.jsonb_value.specs.TreeOrder.{tree_cmp}
use Rattle.jsonb_value.specs.WellFormed.{IsTree}
use Rattle.jsonb_value.specs.Json.Syntax.{Json}
use Rattle.jsonb_codec.specs.Canon.{Fits}

-- The characters are a JSON text whose tree fits the format and compares Equal to t.
pub record MeansAgain (characters : List ℕ) (t : Tree) : Type 0 where
  pub again : Tree
  pub is_tree : IsTree again
  pub fits : Fits again
  pub is_meant : Json characters again
  pub is_equal : tree_cmp again t ≡ Equal
