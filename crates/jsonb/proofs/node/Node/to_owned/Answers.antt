use Rattle.std.proofs.Common.{subst}
use Rattle.jsonb_codec.specs.Doc.{Doc}
use Rattle.jsonb.specs.Code.{CanBeStored, IsSignedZero, ItemMeans, item_document}
use Rattle.jsonb.specs.ItemView.{ItemView}
use Rattle.jsonb.specs.Node.{node_tree}
use Rattle.jsonb.proofs.ItemDocuments.{node_means}
use Rattle.jsonb.proofs.node.Node.to_owned.Goals as goal

-- The document means the item, and so the value.
pub returns-clause-means : goal.returns-clause-means
returns-clause-means c =
    let node = c.args.self.now in
    subst (λ (x : ItemView). ItemMeans x (node_tree node) → CanBeStored x → (IsSignedZero x → ⊥)
    → Doc (item_document x) (node_tree node)) c.from.ensures
    (c.from_item.ensures.means (node_tree node)) (node_means node)
