use Rattle.std.proofs.Common.{inl, subst, sym}
use Rattle.std.proofs.lemmas.Str.{IsUtf8-string_bytes}
use Rattle.std.specs.Str.{IsUtf8}
use Rattle.kohiblad.proofs.path_texts.write_report.Goals as goal

pub returns-in-Ok : goal.returns-in-Ok
returns-in-Ok c =
    inl (
      c.as_bytes.result.now,
      subst IsUtf8 (sym c.as_bytes.ensures.value) (IsUtf8-string_bytes c.in-Ok.words),
      c.hand_over.ensures,
    )
