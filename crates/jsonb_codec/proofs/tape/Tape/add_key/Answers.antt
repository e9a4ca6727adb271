use Rattle.std.proofs.Common.{rules, subst, sym, ◌≡◌, ◌++◌, ◌∷◌, [], length, None}
use Rattle.jsonb_value.specs.Reader.Resume.{at_key}
use Rattle.jsonb_codec.specs.Tape.{AreOpen}
use Rattle.jsonb_codec.specs.declared.tape.member.Member.{Member}
use Rattle.jsonb_codec.proofs.OnTape.Keys.{key_added}
use Rattle.jsonb_codec.proofs.tape.Tape.add_key.Goals as goal

pub returns-clause-ok : goal.returns-clause-ok
returns-clause-ok c = λ front cs bytes h key.
    let old = c.args.self.now in
    let on = c.still_ascends-ascends.result in
    let m : Member = record {
      key = c.args.key;
      prefix = c.args.prefix;
      word = None;
      part = record {
        start = c.len-start.result;
        end = c.len-start.result;
        first = c.len-first.result;
        last = c.len-first.result;
        size = 0;
      };
    } in
    let grown : c.extend_from_slice.new.self.items ≡ old.members.items ++ m ∷ [] = search rules in
    subst (λ xs. AreOpen old.storage (record old.inner { ascends = on }) old.places.items
    old.words.items xs (length old.storage.payload.items) (at_key front bytes ∷ cs)) (sym grown)
    (key_added old.storage old.inner on old.places.items old.words.items old.members.items m
    (length old.storage.payload.items) front bytes cs h key (search rules) (search rules)
    c.still_ascends-ascends.ensures.before
    (λ up base qs read are. c.still_ascends-ascends.ensures.last up bytes base qs read key are))
