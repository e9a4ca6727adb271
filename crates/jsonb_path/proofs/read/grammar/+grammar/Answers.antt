use Rattle.std.proofs.Common.{rules, ◌≡◌, ◌<◌, ◌-◌, ◌∙◌, Some, ap, arith, length, true}
use Rattle.std.specs.Prelude.{IsTrue, codes, false}
use Rattle.jsonb_path.specs.PathParts.{is_expression}
use Rattle.jsonb_path.specs.Dotted.{after_word, lexemes}
use Rattle.jsonb_path.specs.Grammar.{accessor_at, begins_accessor, deeper}
use Rattle.jsonb_path.specs.Grammar.{index_at, infix_at, infixed, operand, ranked, wants_test, with_accessor}
use Rattle.jsonb_path.specs.Growth.{PartsGrow, is_operand}
use Rattle.jsonb_path.specs.PathTree.{accessor_of, as_expression, expression, expression_at, node_at}
use Rattle.jsonb_path.specs.PathTree.{node_of, nodes_of}
use Rattle.jsonb_path.proofs.GrammarLaws.{grown_part_node}
use Rattle.jsonb_path.proofs.GrowthLaws.{both_true, grown_node, grown_operand, grown_twice}
use Rattle.jsonb_path.proofs.ReadLaws.{accessors_on, infixed_on, operated, ranged}
use Rattle.jsonb_path.proofs.read.grammar.+grammar.Goals as goal

pub read_accessors-accessors-preserved : goal.read_accessors-accessors-preserved
read_accessors-accessors-preserved t c =
    let before = c.accessors.parts.items in
    let between = c.read_accessor.new.parts.items in
    let after = c.with_accessor.new.parts.items in
    let once : PartsGrow c.args.parts.now.items before = c.accessors.invariant.grown in
    let twice : PartsGrow before between = c.in_ok-accessor.ensures.grown in
    let thrice : PartsGrow between after = c.in_ok-part.ensures.grown in
    let read : accessor_at (deeper c.args.depth) c.args.scope (lexemes c.accessors.left.now)
    ≡ Some (accessor_of (nodes_of between) c.in_ok-accessor.accessor, lexemes c.in_ok-accessor.rest.now) =
    c.in_ok-accessor.ensures.meaning in
    let stays : node_of (nodes_of between) c.accessors.part
    ≡ node_of (nodes_of before) c.accessors.part =
    grown_part_node before between c.accessors.part twice c.accessors.invariant.part in
    let made : node_of (nodes_of after) c.in_ok-part.part ≡ expression (with_accessor
    (as_expression (node_of (nodes_of between) c.accessors.part))
    (accessor_of (nodes_of between) c.in_ok-accessor.accessor)) = c.in_ok-part.ensures.node in
    let begins : begins_accessor (lexemes c.accessors.left.now) ≡ true =
    first_of (search rules, cc, cc c.begins_accessor.ensures, grind arith) in
    let less : length c.in_ok-accessor.rest.now < length c.accessors.left.now =
    c.in_ok-accessor.ensures.shorter in
    record {
      grown = grown_twice _ before after once (grown_twice before between after twice thrice);
      part = c.in_ok-part.ensures.part;
      leads = accessors_on (deeper c.args.depth) c.args.scope _
          (node_of (nodes_of before) c.accessors.part)
          (node_of (nodes_of after) c.in_ok-part.part) (lexemes c.accessors.left.now)
          (lexemes c.in_ok-accessor.rest.now)
          (accessor_of (nodes_of between) c.in_ok-accessor.accessor)
          (length c.accessors.left.now) (length c.in_ok-accessor.rest.now)
          c.accessors.invariant.leads begins read
          (made ∙ ap (λ n. expression (with_accessor (as_expression n)
          (accessor_of (nodes_of between) c.in_ok-accessor.accessor))) stays) less;
      shorter = omega (arith, less, c.accessors.invariant.shorter);
    }

pub read_ranked-infixes-preserved : goal.read_ranked-infixes-preserved
read_ranked-infixes-preserved t c =
    let before = c.infixes.parts.items in
    let after = c.read_infix.new.parts.items in
    let tighter = ranked (deeper c.args.depth) (c.args.looseness - 1) c.args.scope in
    let once : PartsGrow c.args.parts.now.items before = c.infixes.invariant.grown in
    let twice : PartsGrow before after = c.in_ok-next.ensures.grown in
    let found : infix_at c.args.looseness (lexemes c.infixes.left.now)
    ≡ Some (c.in-Some.link, lexemes c.in-Some.rest.now) =
    first_of (search rules, cc, cc c.in-Some.ensures.meaning, grind arith) in
    let read : infixed tighter (node_of (nodes_of before) c.infixes.part) c.in-Some.link
    (lexemes c.in-Some.rest.now)
    ≡ Some (node_of (nodes_of after) c.in_ok-next.next, lexemes c.in_ok-next.rest.now) =
    c.in_ok-next.ensures.meaning in
    let shorter : length c.in-Some.rest.now < length c.infixes.left.now =
    c.in-Some.ensures.shorter in
    let next : length c.in_ok-next.rest.now < length c.in-Some.rest.now =
    c.in_ok-next.ensures.shorter in
    let less : length c.in_ok-next.rest.now < length c.infixes.left.now = omega (arith, shorter, next) in
    record {
      grown = grown_twice _ before after once twice;
      part = c.in_ok-next.ensures.part;
      leads = infixed_on tighter c.args.looseness _
          (node_of (nodes_of before) c.infixes.part)
          (node_of (nodes_of after) c.in_ok-next.next) (lexemes c.infixes.left.now)
          (lexemes c.in-Some.rest.now) (lexemes c.in_ok-next.rest.now) c.in-Some.link
          (length c.infixes.left.now) (length c.in_ok-next.rest.now)
          c.infixes.invariant.leads found read less;
      shorter = omega (arith, less, c.infixes.invariant.shorter);
    }

pub read_infix-returns-in_ok-right-in-Operation-2-clause-meaning :
    goal.read_infix-returns-in_ok-right-in-Operation-2-clause-meaning
read_infix-returns-in_ok-right-in-Operation-2-clause-meaning t c =
    let wanted = c.wants_test-wants_test.result in
    let op = c.in-Operation.operation in
    let tighter = ranked (deeper c.args.depth) c.args.looseness c.args.scope in
    let node = node_of (nodes_of c.args.parts.now.items) c.args.left in
    let one = c.push_operand-in-Operation.new.parts.items in
    let two = c.read_ranked.new.parts.items in
    let three = c.push_operand-in-Operation-2.new.parts.items in
    let left = c.in_ok-left-in-Operation.left in
    let right = c.in_ok-right-in-Operation-2.right in
    let grows : PartsGrow one two = c.in_ok-right-in-Operation.ensures.grown in
    let more : PartsGrow two three =
    c.in_ok-right-in-Operation-2.ensures.grown in
    let stays : node_at (nodes_of three) left ≡ node_at (nodes_of one) left =
    grown_node wanted one three left (grown_twice one two three grows more)
    c.in_ok-left-in-Operation.ensures.operand in
    ap (λ i. infixed tighter node i (lexemes c.args.tokens.now)) c.in-Operation.is
    ∙ operated tighter op wanted node (node_at (nodes_of one) left) (node_at (nodes_of three) left)
    (node_at (nodes_of three) right) (node_of (nodes_of two) c.in_ok-right-in-Operation.right)
    (node_of (nodes_of three) c.with_operands.result) (lexemes c.args.tokens.now)
    (lexemes c.in_ok-right-in-Operation.rest.now) c.wants_test-wants_test.ensures
    c.in_ok-left-in-Operation.ensures.meaning c.in_ok-right-in-Operation.ensures.meaning
    c.in_ok-right-in-Operation-2.ensures.meaning stays
    (c.with_operands.ensures.node (nodes_of three))

pub read_infix-returns-in_ok-right-in-Operation-2-clause-part :
    goal.read_infix-returns-in_ok-right-in-Operation-2-clause-part
read_infix-returns-in_ok-right-in-Operation-2-clause-part t c =
    let wanted = c.wants_test-wants_test.result in
    let one = c.push_operand-in-Operation.new.parts.items in
    let two = c.read_ranked.new.parts.items in
    let three = c.push_operand-in-Operation-2.new.parts.items in
    let same : wanted ≡ wants_test c.in-Operation.operation = c.wants_test-wants_test.ensures in
    let grows : PartsGrow one two = c.in_ok-right-in-Operation.ensures.grown in
    let more : PartsGrow two three = c.in_ok-right-in-Operation-2.ensures.grown in
    let left : IsTrue (is_operand wanted one c.in_ok-left-in-Operation.left) =
    c.in_ok-left-in-Operation.ensures.operand in
    let stays : IsTrue (is_operand wanted three c.in_ok-left-in-Operation.left) =
    grown_operand wanted one three c.in_ok-left-in-Operation.left (grown_twice one two three grows more) left in
    let right : IsTrue (is_operand wanted three c.in_ok-right-in-Operation-2.right) =
    c.in_ok-right-in-Operation-2.ensures.operand in
    c.with_operands.ensures.part three (rw same at stays) (rw same at right)

pub read_subscript-returns-in_ok-last-in-Some-clause-meaning :
    goal.read_subscript-returns-in_ok-last-in-Some-clause-meaning
read_subscript-returns-in_ok-last-in-Some-clause-meaning t c =
    let one = c.read_index.new.parts.items in
    let two = c.read_index-in-Some.new.parts.items in
    let grows : PartsGrow one two = c.in_ok-last-in-Some.ensures.grown in
    let first : IsTrue (is_operand false one c.in_ok-first.first) =
    c.in_ok-first.ensures.index in
    let stays : expression_at (nodes_of two) c.in_ok-first.first
    ≡ expression_at (nodes_of one) c.in_ok-first.first =
    ap as_expression (grown_node false one two c.in_ok-first.first grows first) in
    let begins : index_at (deeper c.args.depth) c.args.scope (lexemes c.args.tokens.now)
    ≡ Some (expression_at (nodes_of one) c.in_ok-first.first, lexemes c.in_ok-first.rest.now) =
    c.in_ok-first.ensures.meaning in
    let to : after_word (codes "to") (lexemes c.in_ok-first.rest.now)
    ≡ Some (lexemes c.in-Some.begun.now) =
    first_of (search rules, cc, cc c.in-Some.ensures.meaning, grind arith) in
    let ends : index_at (deeper c.args.depth) c.args.scope (lexemes c.in-Some.begun.now)
    ≡ Some (
      expression_at (nodes_of two) c.in_ok-last-in-Some.last,
      lexemes c.in_ok-last-in-Some.rest.now,
    ) =
    c.in_ok-last-in-Some.ensures.meaning in
    ranged (deeper c.args.depth) c.args.scope (expression_at (nodes_of one) c.in_ok-first.first)
    (expression_at (nodes_of two) c.in_ok-first.first)
    (expression_at (nodes_of two) c.in_ok-last-in-Some.last) (lexemes c.args.tokens.now)
    (lexemes c.in_ok-first.rest.now) (lexemes c.in-Some.begun.now)
    (lexemes c.in_ok-last-in-Some.rest.now) begins to ends stays

pub read_subscript-returns-in_ok-last-in-Some-clause-subscript :
    goal.read_subscript-returns-in_ok-last-in-Some-clause-subscript
read_subscript-returns-in_ok-last-in-Some-clause-subscript t c =
    let one = c.read_index.new.parts.items in
    let two = c.read_index-in-Some.new.parts.items in
    let grows : PartsGrow one two = c.in_ok-last-in-Some.ensures.grown in
    let first : IsTrue (is_operand false one c.in_ok-first.first) =
    c.in_ok-first.ensures.index in
    let last : IsTrue (is_expression two c.in_ok-last-in-Some.last) =
    c.in_ok-last-in-Some.ensures.index in
    both_true (is_expression two c.in_ok-first.first) (is_expression two c.in_ok-last-in-Some.last)
    (grown_operand false one two c.in_ok-first.first grows first) last
