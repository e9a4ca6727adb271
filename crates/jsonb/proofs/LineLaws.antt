-- The text of a container is that of its lines.
use Rattle.std.proofs.Common.{◌≡◌, ℕ, zero, suc, ◌*◌, ◌≤◌, List, ◌∷◌, ◌++◌, codes}
use Rattle.std.proofs.Common.{flat_map, replicate, refl, sym, ap, ◌∙◌, arith, append_assoc}
use Rattle.std.specs.List.{repeat}
use Rattle.std.proofs.Math.Nat.{le-max_right}
use Rattle.jsonb_value.specs.Tree.{Tree, array, object, Trees, no_trees, tree, Pairs, no_pairs}
use Rattle.jsonb_value.specs.Tree.{pair}
use Rattle.jsonb_value.specs.Text.{Layout, in_one_line, on_lines, inside, line_start, colon_text}
use Rattle.jsonb_value.specs.Text.{laid_out, more_items, more_pairs, string_text, byte_text}
use Rattle.jsonb_value.specs.Value.{trees_of}
use Rattle.jsonb_codec.specs.Depth.{depth, depths, pair_depths, sizes, pair_sizes}
use Rattle.jsonb.specs.Lines.{more_lines, bracket_text, pair_text, item_lines, pair_lines}
use Rattle.jsonb.specs.Lines.{next_key}
use Rattle.jsonb.specs.Node.{pairs_of}

more_lines-items : (l : Layout) (ts : Trees) → more_lines l (item_lines l ts) ≡ more_items l ts
more_lines-items l no_trees = refl
more_lines-items l (tree t ts) = rw (more_lines-items l ts)

bracketed-items : (l : Layout) (ts : Trees)
    → bracket_text l (codes "[") (codes "]") (item_lines (inside l) ts) ≡ laid_out l (array ts)
bracketed-items l no_trees = refl
bracketed-items l (tree t ts) = rw (more_lines-items (inside l) ts)

-- a pair followed by other text
pair-before : (l : Layout) (k : List ℕ) (t : Tree) (rest : List ℕ)
    → pair_text l k t ++ rest ≡ string_text k ++ (colon_text l ++ (laid_out l t ++ rest))
pair-before l k t rest = simp append_assoc

more_lines-pairs : (l : Layout) (ps : Pairs) → more_lines l (pair_lines l ps) ≡ more_pairs l ps
more_lines-pairs l no_pairs = refl
more_lines-pairs l (pair k t ps) = rw (more_lines-pairs l ps, pair-before l k t (more_pairs l ps))

colon-inside : (l : Layout) → colon_text (inside l) ≡ colon_text l
colon-inside in_one_line = refl
colon-inside (on_lines depth) = refl

bracketed-pairs : (l : Layout) (ps : Pairs)
    → bracket_text l (codes "{") (codes "}") (pair_lines (inside l) ps) ≡ laid_out l (object ps)
bracketed-pairs l no_pairs = refl
bracketed-pairs l (pair k t ps) =
    let i = inside l in
    rw (
      more_lines-pairs i ps,
      pair-before i k t (more_pairs i ps ++ (line_start l ++ codes "}")),
      colon-inside l,
    )

-- two spaces for each container
pub indent : (depth : ℕ) → repeat depth (codes "  ") ≡ replicate (2 * depth) 32
indent zero = refl
indent (suc n) =
    ap (λ spaces. 32 ∷ 32 ∷ spaces) (indent n) ∙ ap (λ k. replicate k 32) (twice n)
  where
    twice : (n : ℕ) → suc (suc (2 * n)) ≡ 2 * suc n
    twice n = omega arith

-- The first line of a container is written.
lines_begin : (l : Layout) (front end line : List ℕ) (lines : List (List ℕ))
    → (front ++ (line_start (inside l) ++ line))
    ++ (more_lines (inside l) lines ++ (line_start l ++ end))
    ≡ bracket_text l front end (line ∷ lines)
lines_begin l front end line lines = simp append_assoc

pub items_begin : (l : Layout) (ts : Trees) (t : Tree) (others : Trees) → ts ≡ tree t others
    → (codes "[" ++ (line_start (inside l) ++ laid_out (inside l) t))
    ++ (more_lines (inside l) (item_lines (inside l) others) ++ (line_start l ++ codes "]"))
    ≡ laid_out l (array ts)
items_begin l ts t others are =
    lines_begin l (codes "[") (codes "]") (laid_out (inside l) t) (item_lines (inside l) others)
    ∙ bracketed-items l (tree t others) ∙ ap (λ x. laid_out l (array x)) (sym are)

pub pairs_begin : (l : Layout) (ps : Pairs) (k : List ℕ) (t : Tree) (others : Pairs)
    → ps ≡ pair k t others
    → (codes "{" ++ (line_start (inside l) ++ pair_text (inside l) k t))
    ++ (more_lines (inside l) (pair_lines (inside l) others) ++ (line_start l ++ codes "}"))
    ≡ laid_out l (object ps)
pairs_begin l ps k t others are =
    lines_begin l (codes "{") (codes "}") (pair_text (inside l) k t) (pair_lines (inside l) others)
    ∙ bracketed-pairs l (pair k t others) ∙ ap (λ x. laid_out l (object x)) (sym are)

-- A key that follows a pair in one line: its quotes stand with what is beside them.
pub key_in_line : (k : List ℕ)
    → codes ",\"" ++ (flat_map byte_text k ++ codes "\":") ≡ next_key in_one_line k
key_in_line k = simp append_assoc

-- A key that follows a pair is written, and its value.
pub next_pair : (l : Layout) (k : List ℕ) (t : Tree)
    → next_key l k ++ laid_out l t ≡ codes "," ++ (line_start l ++ pair_text l k t)
next_pair l k t = simp append_assoc

-- A further line is written.
pub lines_next : (i : Layout) (done end all line : List ℕ) (lines : List (List ℕ))
    → done ++ (more_lines i (line ∷ lines) ++ end) ≡ all
    → (done ++ (codes "," ++ (line_start i ++ line))) ++ (more_lines i lines ++ end) ≡ all
lines_next i done end all line lines whole = simp append_assoc (simp append_assoc at whole)

-- What is left of an array or object has a smaller size and no greater depth.
pub record IsLess (small large shallow deep : ℕ) : Type 0 where
  pub less : small ≤ large
  pub no_deeper : shallow ≤ deep

pub items_after : (xs ys : List Tree) (t : Tree) → xs ≡ t ∷ ys
    → IsLess (sizes (trees_of ys)) (sizes (trees_of xs)) (depths (trees_of ys))
    (depths (trees_of xs))
items_after xs ys t are = rw are record {
  less = omega arith;
  no_deeper = le-max_right (depth t) (depths (trees_of ys));
}

pub pairs_after : (xs ys : List (List ℕ × Tree)) (k : List ℕ) (t : Tree) → xs ≡ (k, t) ∷ ys
    → IsLess (pair_sizes (pairs_of ys)) (pair_sizes (pairs_of xs)) (pair_depths (pairs_of ys))
    (pair_depths (pairs_of xs))
pairs_after xs ys k t are = rw are record {
  less = omega arith;
  no_deeper = le-max_right (depth t) (pair_depths (pairs_of ys));
}
