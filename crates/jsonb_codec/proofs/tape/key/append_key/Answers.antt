use Rattle.std.proofs.Common.{rules, ap, ◌∙◌, ◌≡◌, ◌+◌, ◌++◌, arith, length, take}
use Rattle.std.proofs.Math.Seq.{take-append-add}
use Rattle.std.specs.Int.{to_be_bytes, w64}
use Rattle.jsonb_codec.proofs.OnTape.Prefixes.{prefix_bytes}
use Rattle.jsonb_codec.proofs.tape.key.append_key.Goals as goal

pub returns : goal.returns
returns c =
    let old = c.args.buf.now.items in
    let key = c.args.key.now in
    let word = c.to_be_bytes-word.result in
    let count : c.len-2.result ≡ length old = search rules in
    let front : take (length key) word ≡ key =
    ap (take (length key)) (c.to_be_bytes-word.ensures ∙ ap (to_be_bytes w64) c.requires)
    ∙ prefix_bytes key (search rules) (omega (arith, c.if-key-gt8.false)) in
    c.truncate.ensures.items
    ∙ ap (take (c.len-2.result + length key)) c.in_ok-extend_from_slice.ensures.items
    ∙ ap (λ n. take (n + length key) (old ++ word)) count ∙ take-append-add old word (length key)
    ∙ ap (λ xs. old ++ xs) front
