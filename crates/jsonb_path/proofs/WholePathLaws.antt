-- Paths of whole texts.
use Rattle.std.proofs.Common.{◌≡◌, ◌<◌, ◌≤◌, ◌∙◌, ◌-◌, ◌+◌, ℕ, List, [], ◌∷◌, ◌++◌, ap, arith, length, map, refl, subst, sym}
use Rattle.std.proofs.Common.{Some, None, Result, Ok}
use Rattle.std.specs.Prelude.{IsTrue, true, false, if◌then◌else◌}
use Rattle.std.proofs.lemmas.List.{length-append}
use Rattle.jsonb_path.specs.declared.path.Mode.{Mode}
use Rattle.jsonb_path.specs.declared.path.Part.{Part}
use Rattle.jsonb_path.specs.declared.token.PathFault.{PathFault}
use Rattle.jsonb_path.specs.declared.token.PlacedToken.{PlacedToken}
use Rattle.jsonb_path.specs.declared.token.ReadError.{ReadError}
use Rattle.jsonb_path.specs.declared.token.ReadError.TheVariants as read_errors
use Rattle.jsonb_path.specs.Dotted.{lexeme_in, lexemes}
use Rattle.jsonb_path.specs.Fault.{IsRefused}
use Rattle.jsonb_path.specs.Grammar.{lexemes_of, path_of_lexemes, path_of_text, query_if_end, query_if_low}
use Rattle.jsonb_path.specs.Height.{is_low}
use Rattle.jsonb_path.specs.Meaning.{Query}
use Rattle.jsonb_path.specs.PathParts.{are_parts, are_parts_after, is_part, is_some_part}
use Rattle.jsonb_path.specs.PathTree.{PathNode, as_expression, expression_at, node_of, nodes_of}
use Rattle.jsonb_path.specs.PathTree.{query_of, tree_of_parts}
use Rattle.jsonb_path.specs.Syntax.{Expression}
use Rattle.jsonb_path.proofs.GrowthLaws.{both_true, pushed_grows, pushed_node}
use Rattle.jsonb_value.specs.Json.Bind.{◌>>=◌}
use Rattle.jsonb_path.specs.Token.{Placed, placed_of, tokens_of}
use Rattle.jsonb_path.specs.Unread.{Rejects}

placed_lexemes : (ts : List PlacedToken)
    → map (λ (t : Placed). t.lexeme) (map placed_of ts) ≡ lexemes ts
placed_lexemes [] = refl
placed_lexemes (t ∷ ts) = ap (λ rest. lexeme_in t ∷ rest) (placed_lexemes ts)

-- the path of a text is that of its tokens
pub tokens_read : (s : List ℕ) (ts : List PlacedToken) → tokens_of s ≡ Ok (map placed_of ts)
    → path_of_text s ≡ path_of_lexemes (lexemes ts)
tokens_read s ts e =
    ap (λ (r : Result (List Placed) PathFault). lexemes_of r >>= path_of_lexemes) e
    ∙ ap path_of_lexemes (placed_lexemes ts)

-- a text without tokens is no path
pub tokens_refused : (s : List ℕ) (e : ReadError) → IsRefused e (tokens_of s)
    → Rejects e (path_of_text s)
tokens_refused s read_errors.OutOfMemory h = tt
tokens_refused s (read_errors.Refused f) h =
    ap (λ (r : Result (List Placed) PathFault). lexemes_of r >>= path_of_lexemes) h

some_part_last : (ps : List Part) (p : Part) → IsTrue (is_some_part (ps ++ (p ∷ [])))
some_part_last [] p = refl
some_part_last (q ∷ ps) p = refl

-- parts and a last one make a path
pub whole_parts : (before after : List Part) (p : Part) → after ≡ before ++ (p ∷ [])
    → IsTrue (are_parts_after [] before) → IsTrue (is_part before p) → IsTrue (are_parts after)
whole_parts before after p e h k =
    let grows = pushed_grows before after p h k e in
    both_true (are_parts_after [] after) (is_some_part after) grows.parts
    (subst (λ qs. IsTrue (is_some_part qs)) (sym e) (some_part_last before p))

query_with : (mode : Mode) {e f : Expression} → e ≡ f
    → ◌≡◌ {A = Query} (record { mode = mode; tree = e }) (record { mode = mode; tree = f })
query_with mode same = λ k. record { mode = mode; tree = same k }

-- what that path asks
pub whole_query : (mode : Mode) (before after : List Part) (p : Part)
    → after ≡ before ++ (p ∷ [])
    → query_of (record { mode = mode; parts = after })
    ≡ record { mode = mode; tree = as_expression (node_of (nodes_of before) p) }
whole_query mode before after p e =
    let size : length after ≡ length before + 1 = ap length e ∙ length-append before (p ∷ []) in
    let place : length after - 1 ≡ length before = omega arith in
    let node : expression_at (nodes_of after) (length after - 1)
    ≡ as_expression (node_of (nodes_of before) p) =
    ap as_expression (pushed_node before after p (length after - 1) e place) in
    query_with mode node

-- that path, unless it is too high
pub low_query : (mode : Mode) (before after : List Part) (p : Part) → after ≡ before ++ (p ∷ [])
    → true ≡ is_low (tree_of_parts after)
    → Some (query_of (record { mode = mode; parts = after }))
    ≡ query_if_low (record { mode = mode; tree = as_expression (node_of (nodes_of before) p) })
low_query mode before after p e low =
    (λ i. if low i then Some (query_of (record { mode = mode; parts = after })) else None)
    ∙ ap query_if_low (whole_query mode before after p e)

pub high_query : (mode : Mode) (before after : List Part) (p : Part) → after ≡ before ++ (p ∷ [])
    → false ≡ is_low (tree_of_parts after)
    → None
    ≡ query_if_low (record { mode = mode; tree = as_expression (node_of (nodes_of before) p) })
high_query mode before after p e high =
    (λ i. if high i then Some (query_of (record { mode = mode; parts = after })) else None)
    ∙ ap query_if_low (whole_query mode before after p e)

-- the end of a path
pub query_ended : (mode : Mode) (n : PathNode) (rest : List PlacedToken) → length rest < 1
    → query_if_end mode (n, lexemes rest)
    ≡ Some (record { mode = mode; tree = as_expression n })
query_ended mode n [] h = refl
query_ended mode n (t ∷ rest) h = absurd (omega arith)

pub query_goes_on : (mode : Mode) (n : PathNode) (rest : List PlacedToken) → 1 ≤ length rest
    → query_if_end mode (n, lexemes rest) ≡ None
query_goes_on mode n [] h = absurd (omega arith)
query_goes_on mode n (t ∷ rest) h = refl

pub ruleset paths = (
  tokens_read,
  tokens_refused,
  whole_parts,
  low_query,
  high_query,
  query_ended,
  query_goes_on,
)
