use Rattle.std.proofs.Common.{◌≡◌, ◌∙◌, ◌++◌, [], ap, length, rules, subst}
use Rattle.jsonb_codec.specs.WordBytes.{word}
use Rattle.jsonb_codec.specs.declared.constants.TheConstants.{SCALAR_CONTAINER_TAG}
use Rattle.jsonb_codec.specs.Canon.{payload_of}
use Rattle.jsonb_codec.specs.Tape.{Joined}
use Rattle.jsonb_codec.proofs.OnTape.Writing.{container_written, scalar_written}
use Rattle.jsonb_codec.proofs.tape.write.write_document.Goals.{then-entry-eq-CONTAINER_TAG+in_ok-try_reserve, else-entry-eq-CONTAINER_TAG+in-Some+in_ok-try_reserve-2+in_ok-extend_from_slice+in_ok-extend_from_slice-2}
use Rattle.jsonb_codec.proofs.tape.write.write_document.Goals as goal

pub returns-clause-ok : goal.returns-clause-ok
returns-clause-ok c = λ t is joined.
    let p = payload_of t in
    let end : length c.args.storage.now.payload.items ≡ c.len.result = search rules in
    let copied : c.append_payloads.new.out.items ≡ c.if-entry-eq-CONTAINER_TAG.out.items ++ p =
    c.in_ok-append_payloads.ensures.ok p
    (subst (λ n. Joined c.args.storage.now 0 c.args.places.now n p) end joined) in
    elim c.if-entry-eq-CONTAINER_TAG.branch [
      | then-entry-eq-CONTAINER_TAG+in_ok-try_reserve w ↦
          let none : w.try_reserve.new.self.items ≡ [] = search rules in
          container_written t c.args.entry _ is w.if-entry-eq-CONTAINER_TAG.true
          (copied ∙ ap (λ v. v.items ++ p) w.out-is ∙ ap (λ xs. xs ++ p) none)
      | else-entry-eq-CONTAINER_TAG+in-Some+in_ok-try_reserve-2+in_ok-extend_from_slice+in_ok-extend_from_slice-2
          w ↦
          let begun : w.extend_from_slice-else-entry-eq-CONTAINER_TAG.new.self.items
          ≡ word SCALAR_CONTAINER_TAG ++ word w.in-Some.word = search rules in
          scalar_written t c.args.entry w.in-Some.word _ is w.if-entry-eq-CONTAINER_TAG.false
          w.in-Some.ensures.some.0 w.in-Some.ensures.some.1
          (copied ∙ ap (λ v. v.items ++ p) w.out-is ∙ ap (λ xs. xs ++ p) begun)
    ]
