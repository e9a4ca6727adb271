-- What values are written as: the shapes of their trees.
use Rattle.std.specs.Prelude.{◌≡◌, ◌-◌, List, String}
use Rattle.std.specs.Borrow.{Bor}
use Rattle.std.specs.BTreeMap.{BTreeMap}
use Rattle.std.specs.declared.alloc.Global.{Global}
use Rattle.jsonb_codec.specs.declared.ser.ast.Pairs.{Pairs}
use Rattle.jsonb_value.specs.declared.value.Value.{Value}
use Rattle.jsonb_value.specs.declared.ast.JsonAst.{JsonAst}
use Rattle.jsonb_value.specs.Tree.{object}
use Rattle.jsonb_value.specs.Value.{tree_of, items_view, pairs_view}
use Rattle.jsonb_value.specs.Ast.{ast_tree, asts_view, ast_pairs_view, AllAscend, PairsAscend}
use Rattle.jsonb_value.specs.Ast.{AscendEverywhere}
use Rattle.jsonb_value.specs.WellFormed.{IsTree, AreTrees, ArePairs}
use Rattle.jsonb_codec.specs.Depth.{size, sizes, pair_sizes}
use Rattle.jsonb_codec.specs.Source.{SourceMeaning, Laws}
use Rattle.jsonb_codec.specs.Shape.{key_payloads}
use Rattle.jsonb_codec.specs.Canon.{shape_of, items_shapes, pairs_shapes, bare}
use Rattle.std.proofs.Common.{sym, ap, ◌∙◌}

-- The meaning of values as a source of the writer.
abbrev pub value_meaning : SourceMeaning (Bor Value) (Bor (List Value))
    (Bor (BTreeMap (String Global) Value))
    (List (String Global × Value))
value_meaning = record {
  child = λ v s. shape_of (tree_of v.now) ≡ s;
  child_size = λ v. size (tree_of v.now) - 1;
  child_held = λ v. IsTree (tree_of v.now);
  items = λ vs ss. items_shapes (items_view vs.now) ≡ ss;
  object = λ m ss. pairs_shapes (pairs_view m.now.entries) ≡ ss;
  members = λ ms ss. pairs_shapes (pairs_view ms) ≡ ss;
  items_size = λ vs. sizes (items_view vs.now);
  object_size = λ m. pair_sizes (pairs_view m.now.entries);
  members_size = λ ms. pair_sizes (pairs_view ms);
  items_held = λ vs. AreTrees (items_view vs.now);
  object_held = λ m. IsTree (object (pairs_view m.now.entries));
  members_held = λ ms. ArePairs (pairs_view ms);
}

pub value_laws : Laws value_meaning
value_laws = record {
  one_items = λ x ss us h k. sym h ∙ k;
  one_object = λ x ss us h k. sym h ∙ k;
  one_members = λ x ss us h k. sym h ∙ k;
  bare_items = λ x ss h. ap key_payloads (sym h) ∙ bare (items_view x.now);
}

-- The meaning of values whose objects are lists of pairs, whose invariants hold only if keys
-- ascend.
abbrev pub ast_meaning : SourceMeaning (Bor JsonAst) (Bor (List JsonAst)) Pairs Pairs
ast_meaning = record {
  child = λ v s. shape_of (ast_tree v.now) ≡ s;
  child_size = λ v. size (ast_tree v.now) - 1;
  child_held = λ v. AscendEverywhere (ast_tree v.now) → IsTree (ast_tree v.now);
  items = λ vs ss. items_shapes (asts_view vs.now) ≡ ss;
  object = λ ms ss. pairs_shapes (ast_pairs_view ms.left.now) ≡ ss;
  members = λ ms ss. pairs_shapes (ast_pairs_view ms.left.now) ≡ ss;
  items_size = λ vs. sizes (asts_view vs.now);
  object_size = λ ms. pair_sizes (ast_pairs_view ms.left.now);
  members_size = λ ms. pair_sizes (ast_pairs_view ms.left.now);
  items_held = λ vs. AllAscend (asts_view vs.now) → AreTrees (asts_view vs.now);
  object_held = λ ms.
      PairsAscend (ast_pairs_view ms.left.now) → ArePairs (ast_pairs_view ms.left.now);
  members_held = λ ms.
      PairsAscend (ast_pairs_view ms.left.now) → ArePairs (ast_pairs_view ms.left.now);
}

pub ast_laws : Laws ast_meaning
ast_laws = record {
  one_items = λ x ss us h k. sym h ∙ k;
  one_object = λ x ss us h k. sym h ∙ k;
  one_members = λ x ss us h k. sym h ∙ k;
  bare_items = λ x ss h. ap key_payloads (sym h) ∙ bare (asts_view x.now);
}
