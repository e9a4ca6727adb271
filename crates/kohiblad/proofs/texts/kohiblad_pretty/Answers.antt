use Rattle.std.proofs.Common.{ap, inl, refl, subst, sym, ◌∙◌}
use Rattle.std.specs.Prelude.{codes}
use Rattle.jsonb_value.specs.Meaning.{Meaning, document}
use Rattle.jsonb.specs.Texts.{lined_text}
use Rattle.jsonb.specs.SortKey.{key_meaning}
use Rattle.kohiblad.specs.Output.{IsLongWrittenOut}
use Rattle.kohiblad.proofs.LongTexts.{handed_over}
use Rattle.kohiblad.proofs.texts.kohiblad_pretty.Goals as goal

pub returns-in-Other : goal.returns-in-Other
returns-in-Other c = subst
    (λ (m : Meaning). IsLongWrittenOut (lined_text m) c.args.out.now c.hand_over.new.out
    c.hand_over.new.size c.hand_over.result)
    (ap key_meaning (sym c.in-Other.is) ∙ c.within.ensures.meaning)
    (inl (handed_over (codes "null") _ _ _ _ refl c.hand_over.ensures))

pub returns-in-Document : goal.returns-in-Document
returns-in-Document c = subst
    (λ (m : Meaning). IsLongWrittenOut (lined_text m) c.args.out.now c.write_pretty.new.out
    c.write_pretty.new.length c.write_pretty.result)
    (ap document c.value.ensures.tree
    ∙ ap key_meaning (sym c.in-Document.is) ∙ c.within.ensures.meaning)
    c.write_pretty.ensures
