use Rattle.std.proofs.Common.{◌≡◌, ◌+◌, ◌%◌, ◌^◌, ℕ, ap, ◌∙◌, arith}
use Rattle.jsonb_codec.proofs.JEntryLaws.{bit_and-length}
use Rattle.jsonb_codec.proofs.RoomLaws.{HasWordsAt-word}
use Rattle.jsonb_codec.proofs.writer.append.entry_size.Goals as goal

pub unreachable-requires : goal.unreachable-requires
unreachable-requires c =
    let (n, (short, stored)) = c.requires in
    let found = HasWordsAt-word _ _ _ (omega arith) stored in
    let read = rw (← c.deref.ensures.value) at found in
    cc (c.in_default.is, c.read_word.ensures, read)

pub returns : goal.returns
returns c n short stored =
    let found = HasWordsAt-word _ _ _ (omega arith) stored in
    let read = rw (← c.deref.ensures.value) at found in
    let word : c.in-Ok.word ≡ 1342177280 + n = cc (c.in-Ok.is, c.read_word.ensures, read) in
    let length : (1342177280 + n) % 2 ^ 28 ≡ n = omega arith in
    bit_and-length c.in-Ok.word ∙ ap (λ (k : ℕ). k % 2 ^ 28) word ∙ length
