use Rattle.std.proofs.Common.{ap, subst, sym, ◌∙◌}
use Rattle.jsonb_value.specs.Meaning.{Meaning, document}
use Rattle.jsonb.specs.Texts.{plain_text}
use Rattle.jsonb.specs.SortKey.{key_meaning}
use Rattle.kohiblad.specs.Output.{IsWrittenOut}
use Rattle.kohiblad.proofs.texts.kohiblad_print.Goals as goal

pub returns-in-Other : goal.returns-in-Other
returns-in-Other c = subst
    (λ (m : Meaning). IsWrittenOut (plain_text m) c.args.out.now c.write_other.new.out
    c.write_other.new.length c.write_other.result)
    (ap key_meaning (sym c.in-Other.is) ∙ c.within.ensures.meaning)
    c.write_other.ensures

pub returns-in-Document : goal.returns-in-Document
returns-in-Document c = subst
    (λ (m : Meaning). IsWrittenOut (plain_text m) c.args.out.now c.write_compact.new.out
    c.write_compact.new.length c.write_compact.result)
    (ap document c.value.ensures.tree
    ∙ ap key_meaning (sym c.in-Document.is) ∙ c.within.ensures.meaning)
    c.write_compact.ensures
