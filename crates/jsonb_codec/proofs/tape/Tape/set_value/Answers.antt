use Rattle.std.proofs.Common.{rules, refl, ◌-◌}
use Rattle.std.specs.Vec.{with_item}
use Rattle.jsonb_codec.specs.declared.tape.Tape.{Tape}
use Rattle.jsonb_codec.specs.declared.tape.member.Member.{Member}
use Rattle.jsonb_codec.proofs.OnTape.Adding.{tape_set}
use Rattle.jsonb_codec.proofs.tape.Tape.set_value.Goals as goal

pub returns-then-count-gt0 : goal.returns-then-count-gt0
returns-then-count-gt0 c = λ ps qs a cs t places h low made.
    let old = c.args.self.now in
    let m = c.index-member.result.now in
    let n : Member = record m {
      word = c.word_of-word.result;
      part = record m.part {
        end = c.len.result;
        last = c.len-then-count-gt0.result;
        size = c.size_of.result;
      };
    } in
    let new : Tape = record old {
      members = with_item old.members (c.len-count.result - 1) n;
      inner = record old.inner { fits = c.fits_with-self.result };
    } in
    tape_set old new ps qs a c.size_of.result m n cs t c.args.entry c.word_of-word.result
    c.fits_with-self.result c.requires places h low made (record {
      some = c.word_of-word.ensures.some;
      none = c.word_of-word.ensures.none;
      made = c.word_of-word.ensures.made;
    }) c.size_of.ensures (search rules) (search rules) (record {
      key = refl;
      prefix = refl;
      word_is = refl;
      start = refl;
      first = refl;
      end_is = search rules;
      last_is = search rules;
      size_is = refl;
    }) c.fits_with-self.ensures.some c.fits_with-self.ensures.none refl refl refl refl
