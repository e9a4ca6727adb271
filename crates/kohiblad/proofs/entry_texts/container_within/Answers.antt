use Rattle.std.proofs.Common.{refl}
use Rattle.kohiblad.proofs.EntryTextLaws.{container_is, no_container}
use Rattle.kohiblad.proofs.entry_texts.container_within.Goals as goal

pub returns-in-Container-clause-some : goal.returns-in-Container-clause-some
returns-in-Container-clause-some c =
    container_is c.args.depth c.args.bytes.now c.in_ok-document.document _
    (c.in_ok-document.ensures.exact.0 refl) c.in_ok-document.ensures.bytes
    c.in-Container.ensures.tree c.in-Container.ensures.container

pub returns-in_default : goal.returns-in_default
returns-in_default c = record {
  some = tt;
  none = no_container c.args.depth c.args.bytes.now c.in_ok-document.document c.value.result
      c.in_ok-document.ensures.bytes c.value.ensures.tree c.in_default.not-Container;
}
