-- What is read of a text, level by level.
use Rattle.std.proofs.Common.{◌<◌, ◌≤◌, ◌+◌, ◌*◌, ◌-◌, length}
use Rattle.std.specs.Prelude.{IsTrue, None}
use Rattle.std.specs.List.{list_all}
use Rattle.jsonb_value.specs.Json.Bind.{◌>>=◌}
use Rattle.jsonb_path.specs.Dotted.{lexemes}
use Rattle.jsonb_path.specs.Grammar.{accessor_turn, all_accessors, all_subscripts}
use Rattle.jsonb_path.specs.Grammar.{deeper, infix_turn, ranked, subscript_at, subscript_turn}
use Rattle.jsonb_path.specs.Growth.{PartsGrow}
use Rattle.jsonb_path.specs.PathParts.{is_part, is_subscript}
use Rattle.jsonb_path.specs.PathTree.{node_of, nodes_of, subscripts_of}
use Rattle.jsonb_path.proofs.TurnLaws.{Leads}
use Rattle.jsonb_path.proofs.read.grammar.+grammar.Given as goal

abbrev pub decreases-read_deeper : goal.decreases-read_deeper
decreases-read_deeper l = 600 * l.depth + 0

abbrev pub decreases-read_parentheses : goal.decreases-read_parentheses
decreases-read_parentheses l = 600 * l.depth + 1

abbrev pub decreases-read_index : goal.decreases-read_index
decreases-read_index l = 600 * l.depth + 1

abbrev pub decreases-read_signed : goal.decreases-read_signed
decreases-read_signed l = 600 * l.depth + 1

abbrev pub decreases-read_exists : goal.decreases-read_exists
decreases-read_exists l = 600 * l.depth + 2

abbrev pub decreases-read_filter : goal.decreases-read_filter
decreases-read_filter l = 600 * l.depth + 2

abbrev pub decreases-read_subscript : goal.decreases-read_subscript
decreases-read_subscript l = 600 * l.depth + 2

abbrev pub decreases-read_closed : goal.decreases-read_closed
decreases-read_closed l = 600 * l.depth + 3

abbrev pub decreases-read_items : goal.decreases-read_items
decreases-read_items l = 600 * l.depth + 3

abbrev pub decreases-read_bracketed : goal.decreases-read_bracketed
decreases-read_bracketed l = 600 * l.depth + 4

abbrev pub decreases-read_accessor : goal.decreases-read_accessor
decreases-read_accessor l = 600 * l.depth + 5

abbrev pub decreases-read_accessors : goal.decreases-read_accessors
decreases-read_accessors l = 600 * l.depth + 6

abbrev pub decreases-read_after_parentheses : goal.decreases-read_after_parentheses
decreases-read_after_parentheses l = 600 * l.depth + 7

abbrev pub decreases-read_chain : goal.decreases-read_chain
decreases-read_chain l = 600 * l.depth + 7

abbrev pub decreases-read_operand : goal.decreases-read_operand
decreases-read_operand l = 600 * l.depth + 8

abbrev pub decreases-read_infix : goal.decreases-read_infix
decreases-read_infix l = 600 * l.depth + (10 + 2 * l.looseness)

abbrev pub decreases-read_ranked : goal.decreases-read_ranked
decreases-read_ranked l = 600 * l.depth + (9 + 2 * l.looseness)

-- The left operand so far, and the operators that are left.
abbrev pub invariant-read_ranked-infixes : goal.invariant-read_ranked-infixes
invariant-read_ranked-infixes l = record {
  grown : PartsGrow l.fn.parts.items l.parts.items;
  part : IsTrue (is_part l.parts.items l.part);
  leads : Leads (infix_turn (ranked (deeper l.depth) (l.looseness - 1) l.scope) l.looseness) None
      (ranked (deeper l.depth) l.looseness l.scope (lexemes l.tokens))
      (node_of (nodes_of l.parts.items) l.part, lexemes l.left) (length l.left);
  shorter : length l.left < length l.tokens;
}

abbrev pub decreases-read_ranked-infixes : goal.decreases-read_ranked-infixes
decreases-read_ranked-infixes l = length l.left

-- What has accessors so far, and those that are left.
abbrev pub invariant-read_accessors-accessors : goal.invariant-read_accessors-accessors
invariant-read_accessors-accessors l = record {
  grown : PartsGrow l.fn.parts.items l.parts.items;
  part : IsTrue (is_part l.parts.items l.part);
  leads : Leads (accessor_turn (deeper l.depth) l.scope) None
      (all_accessors (deeper l.depth) l.scope
      (node_of (nodes_of l.fn.parts.items) l.fn.part, lexemes l.tokens))
      (node_of (nodes_of l.parts.items) l.part, lexemes l.left) (length l.left);
  shorter : length l.left ≤ length l.tokens;
}

abbrev pub decreases-read_accessors-accessors : goal.decreases-read_accessors-accessors
decreases-read_accessors-accessors l = length l.left

-- The subscripts so far, and those that are left.
abbrev pub invariant-read_items-subscripts : goal.invariant-read_items-subscripts
invariant-read_items-subscripts l = record {
  grown : PartsGrow l.fn.parts.items l.parts.items;
  subscripts : IsTrue (list_all (is_subscript l.parts.items) l.subscripts.items);
  leads : Leads (subscript_turn (deeper l.depth) l.scope) None
      (subscript_at (deeper l.depth) l.scope (lexemes l.tokens)
      >>= all_subscripts (deeper l.depth) l.scope)
      (subscripts_of (nodes_of l.parts.items) l.subscripts.items, lexemes l.left) (length l.left);
  shorter : length l.left < length l.tokens;
}

abbrev pub decreases-read_items-subscripts : goal.decreases-read_items-subscripts
decreases-read_items-subscripts l = length l.left
