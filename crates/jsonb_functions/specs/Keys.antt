-- The keys of an object as texts.
use Rattle.std.specs.Prelude.{Option, None, Some}
use Rattle.jsonb_value.specs.Tree.{Tree, text, array, object}
use Rattle.jsonb_value.specs.Tree.{Trees, no_trees, tree, Pairs, no_pairs, pair}

-- The keys of pairs, in their order.
abbrev pub key_texts : Pairs → Trees
key_texts no_pairs = no_trees
key_texts (pair k t ps) = tree (text k) (key_texts ps)

-- The array of an object's keys; none for any other tree.
abbrev pub key_array : Tree → Option Tree
key_array (object ps) = Some (array (key_texts ps))
key_array t = None
