use Rattle.std.proofs.Common.{◌≡◌, refl, rules}
use Rattle.jsonb.specs.SortKey.{key_meaning}
use Rattle.jsonb_comparable.specs.TreeKey.{meaning_key}
use Rattle.kohiblad.specs.KeySink.{cut_into}
use Rattle.kohiblad.proofs.CutLaws.{all_written}
use Rattle.kohiblad.proofs.key_parts.cut_key.Goals as goal

pub returns-clause-out : goal.returns-clause-out
returns-clause-out c =
    let key = meaning_key (key_meaning c.args.key) in
    let whole : c.append_key_to.new.sink.out.now ≡ cut_into key c.args.out.now =
    (all_written key _ c.append_key_to.new.sink refl c.append_key_to.ensures).out in
    search rules

pub returns-clause-len : goal.returns-clause-len
returns-clause-len c =
    let key = meaning_key (key_meaning c.args.key) in
    (all_written key _ c.append_key_to.new.sink refl c.append_key_to.ensures).len
