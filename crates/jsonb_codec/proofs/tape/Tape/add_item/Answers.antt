use Rattle.std.proofs.Common.{rules, refl}
use Rattle.jsonb_codec.proofs.OnTape.Adding.{fit_item, never_of, some_made, unfit_item}
use Rattle.jsonb_codec.proofs.tape.Tape.add_item.Goals as goal

pub returns-in_default-clause-ok : goal.returns-in_default-clause-ok
returns-in_default-clause-ok c = λ ps qs a cs t places h low made.
    unfit_item c.args.self.now ps qs a cs t c.requires places h low
    (never_of c.args.self.now.storage c.args.entry a _ qs t made c.in_default.ensures.none)

pub returns-clause-ok : goal.returns-clause-ok
returns-clause-ok c = λ ps qs a cs t places h low made.
    let old = c.args.self.now in
    fit_item old (record old { words = c.extend_from_slice.new.self }) ps qs a cs t c.args.entry
    c.in-Some.word c.requires places h low made c.in-Some.ensures.some
    (some_made c.args.entry c.word_of.result c.in-Some.word c.word_of.ensures.made c.in-Some.is)
    (search rules) refl refl refl refl
