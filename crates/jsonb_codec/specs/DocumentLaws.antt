-- What is true of every document.
use Rattle.std.specs.Prelude.{◌≡◌, ◌≢◌, ◌<◌, ◌≤◌, ◌+◌, ◌/◌, ◌++◌, ℕ, List, [], All, length}
use Rattle.jsonb_value.specs.Tree.{Tree}
use Rattle.jsonb_codec.specs.Depth.{depth as tree_depth, size as tree_size}
use Rattle.jsonb_codec.specs.Doc.{Doc, IsDocument}
use Rattle.jsonb_codec.specs.Payloads.{payloads_in}

-- A document
pub record DocumentLaws (b : List ℕ) : Type 0 where
  -- means one tree,
  pub one_tree : (t u : Tree) → Doc b t → Doc b u → t ≡ u
  -- does not begin with a shorter document,
  pub no_beginning : (a c : List ℕ) → b ≡ a ++ c → IsDocument a → c ≡ []
  -- and does not begin a longer one.
  pub no_longer : (c : List ℕ) → IsDocument (b ++ c) → c ≡ []
  -- Its length bounds the size
  pub size : (t : Tree) → Doc b t → tree_size t ≤ length b / 4
  -- and the depth of its tree.
  pub depth : (t : Tree) → Doc b t → tree_depth t ≤ (length b + 4) / 8
  -- If no byte is zero, it has many payloads,
  pub many_payloads : All (λ x. x ≢ 0) b → (t : Tree) (d : Doc b t)
      → 65793 ≤ length (payloads_in b t d)
  -- all of them are long,
  pub long_payloads : All (λ x. x ≢ 0) b → (t : Tree) (d : Doc b t)
      → All (λ p. 65793 ≤ length p) (payloads_in b t d)
  -- and so is the document.
  pub no_zero : All (λ x. x ≢ 0) b → 4294967296 < length b
