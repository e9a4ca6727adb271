-- What is true of every document.
use Rattle.std.proofs.Common.{ℕ, List, subst, arith}
use Rattle.jsonb_codec.specs.Doc.{IsDocument}
use Rattle.jsonb_codec.specs.DocumentLaws.{DocumentLaws}
use Rattle.jsonb_codec.proofs.Unique.{Doc-unique, Doc-prefix_free}
use Rattle.jsonb_codec.proofs.DepthLaws.{Doc-depth, Doc-size}
use Rattle.jsonb_codec.proofs.ZeroLaws.{Doc-least, Doc-long}

pub document_laws_of : (b : List ℕ) → IsDocument b → DocumentLaws b
document_laws_of b whole = record {
  one_tree = Doc-unique b;
  no_beginning = λ a c parts h. let is = subst IsDocument parts whole in
      Doc-prefix_free a c h.0 is.0 h.1 is.1;
  no_longer = λ c h. Doc-prefix_free b c whole.0 h.0 whole.1 h.1;
  size = λ t h. let few = Doc-size b t h in omega arith;
  depth = λ t h. let flat = Doc-depth b t h in omega arith;
  many_payloads = λ zero_free t h. (Doc-long b t h zero_free).0;
  long_payloads = λ zero_free t h. (Doc-long b t h zero_free).1;
  no_zero = Doc-least b whole.0 whole.1;
}
