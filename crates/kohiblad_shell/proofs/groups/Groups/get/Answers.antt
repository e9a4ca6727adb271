use Rattle.std.proofs.Common.{option_map, sym, ap, ◌∙◌, subst}
use Rattle.std.proofs.lemmas.Option.{slice_get-map}
use Rattle.std.specs.Prelude.{slice_get}
use Rattle.jsonb_codec.specs.Doc.{IsDocument}
use Rattle.kohiblad_shell.specs.Groups.{kept_group}
use Rattle.kohiblad_shell.proofs.GroupLaws.{hold_at}
use Rattle.kohiblad_shell.proofs.groups.Groups.get.Goals as goal

pub new_unchecked-requires : goal.new_unchecked-requires
new_unchecked-requires c =
    subst IsDocument (sym c.as_slice-in-Some.ensures.value)
    (hold_at c.self.inside.kept.entries c.args.index (c.in-Some.key.now, c.in-Some.kept.now)
    (sym c.in-Some.ensures.entry) c.self.invariant)

pub returns-in-Some : goal.returns-in-Some
returns-in-Some c =
    rw (
      c.new_unchecked.ensures,
      c.as_slice.ensures.value,
      c.as_slice-in-Some.ensures.value,
      c.as_slice-in-Some-2.ensures.value,
    )
    (ap (option_map kept_group) c.in-Some.ensures.entry
    ∙ sym (slice_get-map kept_group c.self.inside.kept.entries c.args.index)
    ∙ ap (λ groups. slice_get groups c.args.index) c.self.view_is)

pub returns-in-None : goal.returns-in-None
returns-in-None c =
    ap (option_map kept_group) c.in-None.ensures.entry
    ∙ sym (slice_get-map kept_group c.self.inside.kept.entries c.args.index)
    ∙ ap (λ groups. slice_get groups c.args.index) c.self.view_is
