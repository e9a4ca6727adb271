use Rattle.std.proofs.Common.{◌≡◌, rules}
use Rattle.jsonb_value.specs.declared.ast.JsonAst.{the_lemmas}
use Rattle.jsonb_value.specs.Tree.{object}
use Rattle.jsonb_value.specs.Ast.{ast_tree, ast_pairs_view}
use Rattle.jsonb_codec.proofs.ser.ast.ast_level.Goals as goal

pub returns-in-Object-clause-held : goal.returns-in-Object-clause-held
returns-in-Object-clause-held c held =
    let tree : ast_tree c.args.value.now ≡ object (ast_pairs_view c.deref-in-Object.result.now) =
    search (rules, the_lemmas) in
    rw tree (λ ascend. (ascend.0, held ascend.1))
