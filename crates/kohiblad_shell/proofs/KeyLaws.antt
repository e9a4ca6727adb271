-- Keys of documents, and of what paths lead to.
use Rattle.std.proofs.Common.{◌≡◌, ℕ, ◌+◌, ◌<◌, List, [], ◌∷◌, ◌++◌, length, take, refl, sym, ap}
use Rattle.std.proofs.Common.{◌∙◌, append_assoc, true, ◌==◌, arith}
use Rattle.std.proofs.lemmas.Bool.Decides.{nat_tests}
use Rattle.std.proofs.lemmas.List.{append-nil, take_more}
use Rattle.std.specs.Prelude.{slice_index_or}
use Rattle.jsonb_value.specs.Tree.{Tree}
use Rattle.jsonb.specs.declared.document.Document.{Document}
use Rattle.jsonb.specs.declared.sort_key.SortKey.TheVariants as keys
use Rattle.jsonb.specs.Document.{document_tree}
use Rattle.jsonb.specs.SortKey.{key_meaning}
use Rattle.jsonb_comparable.specs.TreeKey.{meaning_key, tree_key}
use Rattle.kohiblad_shell.specs.Asked.{first_asked}
use Rattle.kohiblad_shell.specs.Keys.{directed, path_key, path_keys, row_key}
use Rattle.kohiblad_shell.specs.declared.sort_path.SortPath.{SortPath}

-- the key of a document is that of its tree
pub document_key : (d : Document)
    → meaning_key (key_meaning (keys.Document d)) ≡ tree_key (document_tree d)
unfolding meaning_key
document_key d = refl

-- the key of what a path leads to
abbrev pub key_at : SortPath → Tree → List ℕ
key_at p t = directed p.direction (path_key (first_asked p.path t))

path_keys-append : (ps qs : List SortPath) (t : Tree)
    → path_keys (ps ++ qs) t ≡ path_keys ps t ++ path_keys qs t
path_keys-append [] qs t = refl
path_keys-append (p ∷ ps) qs t =
    ap (λ b. key_at p t ++ b) (path_keys-append ps qs t)
    ∙ sym (append_assoc (key_at p t) (path_keys ps t) (path_keys qs t))

-- one more path
pub path_keys-more : (paths : List SortPath) (i : ℕ) (path : SortPath)
    (t : Tree) → i < length paths → path ≡ slice_index_or paths i path
    → path_keys (take (i + 1) paths) t ≡ path_keys (take i paths) t ++ key_at path t
path_keys-more paths i path t low is =
    ap (λ ps. path_keys ps t)
    (take_more paths i path low ∙ ap (λ r. take i paths ++ r ∷ []) (sym is))
    ∙ path_keys-append (take i paths) (path ∷ []) t
    ∙ ap (λ b. path_keys (take i paths) t ++ b)
    (append-nil (key_at path t))

-- no path
row_key-none : (paths : List SortPath) (t : Tree)
    → true ≡ (length paths == 0) → tree_key t ≡ row_key paths t
row_key-none [] t none = refl
row_key-none (p ∷ ps) t none = absurd (grind (arith, nat_tests))

-- the key of a whole document, where there is no path
pub document_row_key : (paths : List SortPath) (d : Document) (old new : List ℕ)
    → old ≡ [] → true ≡ (length paths == 0)
    → new ≡ old ++ meaning_key (key_meaning (keys.Document d))
    → new ≡ row_key paths (document_tree d)
document_row_key paths d old new empty none is =
    is ∙ ap (λ (b : List ℕ). b ++ meaning_key (key_meaning (keys.Document d))) empty
    ∙ document_key d ∙ row_key-none paths (document_tree d) none
