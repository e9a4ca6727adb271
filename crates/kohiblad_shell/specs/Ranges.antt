-- Rows whose values lie in a range.
use Rattle.std.specs.Prelude.{◌&&◌, Bool, false, Option, None, Some}
use Rattle.std.specs.Ordering.{is_ge, is_lt}
use Rattle.jsonb_value.specs.Tree.{Tree}
use Rattle.jsonb_value.specs.TreeOrder.{tree_cmp}
use Rattle.jsonb.specs.Document.{document_tree}
use Rattle.kohiblad_shell.specs.Asked.{first_asked}
use Rattle.kohiblad_shell.specs.declared.range.ValueRange.{ValueRange}

-- Whether a value is at least one and less than another, in the order of documents.
abbrev pub is_tree_in : Tree → Tree → Tree → Bool
is_tree_in from to t = is_ge (tree_cmp t from) && is_lt (tree_cmp t to)

-- The same of a value that may be missing.
abbrev pub is_found_in : Tree → Tree → Option Tree → Bool
is_found_in from to None = false
is_found_in from to (Some t) = is_tree_in from to t

-- Whether a path leads to some value of a row, and the first of them lies in the range.
abbrev pub is_in_range : ValueRange → Tree → Bool
is_in_range range t = is_found_in (document_tree range.from) (document_tree range.to)
    (first_asked range.path.now t)
