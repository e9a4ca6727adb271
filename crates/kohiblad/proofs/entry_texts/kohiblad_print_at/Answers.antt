use Rattle.jsonb_value.specs.Text.{compact}
use Rattle.jsonb_value.specs.Tree.{Tree}
use Rattle.kohiblad.specs.Output.{IsWrittenOut}
use Rattle.kohiblad.proofs.EntryTextLaws.{one_value, printed_part}
use Rattle.std.proofs.Common.{subst}
use Rattle.kohiblad.proofs.entry_texts.kohiblad_print_at.Goals as goal

pub returns-in-Some-clause-text : goal.returns-in-Some-clause-text
returns-in-Some-clause-text c = λ t means. subst
    (λ (u : Tree). IsWrittenOut (compact u) c.args.out.now c.write_compact.new.out c.write_compact.new.length
    c.write_compact.result)
    (one_value c.args.depth c.args.type_code c.args.payload.now _ t c.in-Some.ensures.some means)
    c.write_compact.ensures

pub returns-in-Some-clause-place : goal.returns-in-Some-clause-place
returns-in-Some-clause-place c =
    printed_part c.args.depth c.args.type_code c.args.payload.now _ (returns-in-Some-clause-text c)

pub returns-in-None-clause-place : goal.returns-in-None-clause-place
returns-in-None-clause-place c =
    printed_part c.args.depth c.args.type_code c.args.payload.now _
    (λ t means. absurd (c.in-None.ensures.none (t, means)))
