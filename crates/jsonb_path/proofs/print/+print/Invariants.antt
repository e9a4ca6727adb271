-- A part is written by those before it.
use denote.Shadow.{shadow}
use denote.Text.{Utf8}
use Rattle.std.proofs.Common.{◌≡◌, ◌++◌, ◌+◌, ◌*◌, ℕ, List, [], codes, length}
use Rattle.std.specs.Prelude.{IsTrue}
use Rattle.std.specs.Fmt.{HasWrittenStyled, IsFlush}
use Rattle.std.specs.List.{list_all}
use Rattle.jsonb_path.specs.PathParts.{is_accessor, is_subscript}
use Rattle.jsonb_path.specs.PathText.{accessors_text, expression_text, subscripts_text}
use Rattle.jsonb_path.specs.PathTree.{accessors_of, nodes_of, primary_of, subscripts_of}
use Rattle.jsonb_path.specs.Syntax.{chain}
use Rattle.jsonb_path.proofs.print.+print.Given as goal

abbrev pub decreases-write_at : goal.decreases-write_at
decreases-write_at g l = 8 * length l.parts.now

abbrev pub decreases-write_operation : goal.decreases-write_operation
decreases-write_operation g l = 8 * length l.parts.now + 2

abbrev pub decreases-write_source : goal.decreases-write_source
decreases-write_source g l = 8 * length l.parts.now + 2

abbrev pub decreases-write_subscript : goal.decreases-write_subscript
decreases-write_subscript g l = 8 * length l.parts.now + 2

abbrev pub decreases-write_subscripts : goal.decreases-write_subscripts
decreases-write_subscripts g l = 8 * length l.parts.now + 3

abbrev pub decreases-write_accessor : goal.decreases-write_accessor
decreases-write_accessor g l = 8 * length l.parts.now + 4

abbrev pub decreases-write_chain : goal.decreases-write_chain
decreases-write_chain g l = 8 * length l.parts.now + 5

abbrev pub decreases-write_starting : goal.decreases-write_starting
decreases-write_starting g l = 8 * length l.parts.now + 3

abbrev pub decreases-write_test : goal.decreases-write_test
decreases-write_test g l = 8 * length l.parts.now + 4

abbrev pub decreases-write_part : goal.decreases-write_part
decreases-write_part g l = 8 * length l.parts.now + 6

-- What is written so far, followed by the accessors that are left.
abbrev pub invariant-write_chain-loop-left : goal.invariant-write_chain-loop-left
invariant-write_chain-loop-left g l =
    let nodes = nodes_of l.fn.parts in
    IsTrue (list_all (is_accessor l.fn.parts) l.left)
    × (done : List ℕ)
    × (done ++ accessors_text (accessors_of nodes l.left)
    ≡ expression_text 0 (chain (primary_of nodes l.fn.source) (accessors_of nodes l.fn.accessors)))
    × (IsFlush l.fn.f → HasWrittenStyled g.W.Write.write_str_gives l.fn.f done l.f)

abbrev pub decreases-write_chain-loop-left : goal.decreases-write_chain-loop-left
decreases-write_chain-loop-left g l = length l.left

-- What is written so far, followed by the subscripts that are left and the bracket.
abbrev pub invariant-write_subscripts-loop-left : goal.invariant-write_subscripts-loop-left
invariant-write_subscripts-loop-left g l =
    let nodes = nodes_of l.fn.parts in
    IsTrue (list_all (is_subscript l.fn.parts) l.left)
    × (done : List ℕ)
    × (done ++ (subscripts_text l.separator (subscripts_of nodes l.left) ++ codes "]")
    ≡ codes "[" ++ (subscripts_text [] (subscripts_of nodes l.fn.subscripts) ++ codes "]"))
    × (IsFlush l.fn.f → HasWrittenStyled g.W.Write.write_str_gives l.fn.f done l.f)
    × shadow (Utf8 l.separator)

abbrev pub decreases-write_subscripts-loop-left : goal.decreases-write_subscripts-loop-left
decreases-write_subscripts-loop-left g l = length l.left
