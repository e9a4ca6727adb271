use Rattle.std.proofs.Common.{◌≡◌, ◌∙◌, Bor, List, Some, ap, inr, length, map, rules, true, ℕ}
use Rattle.jsonb.specs.Document.{document_tree}
use Rattle.jsonb.specs.Within.{meaning_within}
use Rattle.kohiblad.specs.Locating.{ArePlacesWritten, spans}
use Rattle.kohiblad.specs.Rows.{are_offsets}
use Rattle.kohiblad.proofs.LocatingLaws.{with_names}
use Rattle.kohiblad.proofs.locating.locate.Goals as goal

pub returns-in-Ok-Some : goal.returns-in-Ok-Some
returns-in-Ok-Some c =
    let good : are_offsets (length c.args.bytes.now) 0 c.args.offsets.now ≡ true = search rules in
    inr (
      good,
      with_names
          (λ refusal. (c.locate_names.result ≡ refusal)
          × (c.locate_names.new.places ≡ c.args.places.now))
          (λ names. ArePlacesWritten c.args.reading c.args.bytes.now names
          (spans c.args.offsets.now) c.args.places.now c.locate_names.new.places
          c.locate_names.result)
          c.deref.result.now c.locate_names.ensures.order c.locate_names.ensures.written
          (document_tree c.in-Ok.names) (meaning_within c.args.depth c.args.names.now)
          c.in-Ok.ensures.ok
          (ap (λ (names : List (Bor (List ℕ))). Some (map (λ name. name.now) names))
          c.deref.ensures.value
          ∙ rw c.in-Ok-Some.field-0-is at c.in-Ok-Some.ensures.ok),
    )
