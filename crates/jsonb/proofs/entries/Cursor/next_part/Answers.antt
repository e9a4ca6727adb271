use Rattle.std.proofs.Common.{◌+◌, ◌-◌, ◌∷◌, List, ℕ, Ok, sym, ap, subst, ◌∙◌, arith}
use Rattle.std.proofs.lemmas.Grind.{merely}
use Rattle.jsonb_codec.specs.Parts.{IsSomePayload}
use Rattle.jsonb.specs.Entries.{entries_of, run_from}
use Rattle.jsonb.specs.EntryTrees.{AreParts}
use Rattle.jsonb.proofs.EntryLaws.{entries_of-first}
use Rattle.jsonb.proofs.entries.Cursor.next_part.Goals as goal

pub invariant_of-result : goal.invariant_of-result
invariant_of-result c =
    let i = c.self.inside in
    let entry = c.in-Ok.entry in
    let first = sym (ap entries_of c.self.view_is)
    ∙ entries_of-first i.bytes.now i.word i.start i.left (i.left - 1) entry (omega arith)
    (sym c.in-Ok.ensures.value) in
    record {
      fact = merely (subst (IsSomePayload entry.type_code) (sym c.payload.ensures.bytes)
          (subst AreParts first c.requires).0);
    }

pub returns-clause-steps : goal.returns-clause-steps
returns-clause-steps c =
    let i = c.self.inside in
    let entry = c.in-Ok.entry in
    let rest =
    entries_of (run_from i.bytes.now (i.left - 1) (i.word + 4) (i.start + entry.length)) in
    sym (ap entries_of c.self.view_is)
    ∙ entries_of-first i.bytes.now i.word i.start i.left (i.left - 1) entry (omega arith)
    (sym c.in-Ok.ensures.value)
    ∙ ap (λ (p : List ℕ). Ok (record { type = entry.type_code; payload = p }) ∷ rest)
    (sym c.payload.ensures.bytes)

pub returns-clause-others : goal.returns-clause-others
returns-clause-others c =
    let i = c.self.inside in
    let entry = c.in-Ok.entry in
    let first = sym (ap entries_of c.self.view_is)
    ∙ entries_of-first i.bytes.now i.word i.start i.left (i.left - 1) entry (omega arith)
    (sym c.in-Ok.ensures.value) in
    (subst AreParts first c.requires).1
