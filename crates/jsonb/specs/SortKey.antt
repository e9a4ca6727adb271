-- The bytes and the meaning of bytes that were checked once.
use Rattle.std.specs.Prelude.{ℕ, List}
use Rattle.jsonb_value.specs.Meaning.{Meaning, document, other_bytes}
use Rattle.jsonb.specs.declared.sort_key.SortKey.{SortKey}
use Rattle.jsonb.specs.declared.sort_key.SortKey.TheVariants as keys
use Rattle.jsonb.specs.Document.{document_bytes, document_tree}

-- The bytes of a key.
abbrev pub sort_bytes : SortKey → List ℕ
sort_bytes (keys.Document d) = document_bytes d
sort_bytes (keys.Other bytes) = bytes.now

-- The meaning of a key: the tree of a document; other bytes mean themselves.
abbrev pub key_meaning : SortKey → Meaning
key_meaning (keys.Document d) = document (document_tree d)
key_meaning (keys.Other bytes) = other_bytes bytes.now
