use Rattle.std.proofs.Common.{subst}
use Rattle.jsonb_typed_file.specs.Values.{IsTextOfRow}
use Rattle.jsonb_typed_file.proofs.buffers.Buffers.stored.Goals as goal

pub returns-in-None : goal.returns-in-None
returns-in-None c =
    absurd (c.in-None.ensures
    (subst (λ t. IsTextOfRow t c.args.self.now.numbers.now c.args.self.now.texts.now c.args.index)
    c.in-Text.is (c.requires.texts c.args.index c.requires.within)))

pub returns-in-None-bytes : goal.returns-in-None-bytes
returns-in-None-bytes c =
    absurd (c.in-None-bytes.ensures
    (subst (λ t. IsTextOfRow t c.args.self.now.numbers.now c.args.self.now.texts.now c.args.index)
    c.in-Binary.is (c.requires.texts c.args.index c.requires.within)))
