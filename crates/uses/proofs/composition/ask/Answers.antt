use Rattle.std.proofs.Common.{rules, ◌≡◌, ◌∙◌, ap, inr}
use Rattle.jsonb_value.specs.Meaning.{meaning_cmp}
use Rattle.jsonb.specs.ItemMeaning.{meaning_of}
use Rattle.jsonb.specs.Kind.{kind_of_tree}
use Rattle.jsonb.specs.Raw.{raw_bytes}
use Rattle.uses.proofs.composition.ask.Goals as goal

pub returns-clause-answers : goal.returns-clause-answers
returns-clause-answers c = λ t means.
    let kind : c.in_ok-jsonb_item_type.field-0 ≡ kind_of_tree t =
    let is = c.in_ok-jsonb_item_type.ensures.document t means in cc in
    record {
      kind = kind;
      text = c.in_ok-to_string.ensures.document t means;
      pretty_text = c.in_ok-to_pretty_string.ensures.document t means;
      display = c.in_ok-display.ensures.text t means;
      item = c.in_ok-from_raw_jsonb.ensures.document t means;
      order = c.cmp.ensures
          ∙ ap (λ m. meaning_cmp m (meaning_of (raw_bytes c.args.other)))
          (c.meaning_laws.ensures.document _ t means);
      document_order = λ u. c.try_cmp.ensures.order t u means;
      no_order = λ none. c.try_cmp.ensures.none.1 (inr none);
      items = c.in_ok-array_items.ensures.all t means;
      keys = c.in_ok-object_keys.ensures.all t means;
      values = c.in_ok-object_values.ensures.all t means;
      pairs = c.in_ok-object_pairs.ensures.all t means;
      item_entries = c.in_ok-array_items.ensures.entries t means;
      value_entries = c.in_ok-object_values.ensures.entries t means;
      pair_entries = c.in_ok-object_pairs.ensures.entries t means;
      found = c.in_ok-find_by_name.ensures.value t means;
      counted = c.in_ok-counted.ensures.value t means;
      counted_entry = c.in_ok-counted.ensures.entry t means;
      reads = c.in_ok-counted.ensures.words t means;
      found_entry = c.in_ok-find_by_name.ensures.entry t means;
    }

pub returns-in_err-from_raw_jsonb-clause-memory : goal.returns-in_err-from_raw_jsonb-clause-memory
returns-in_err-from_raw_jsonb-clause-memory c =
    λ t h. absurd (c.in_err-from_raw_jsonb.ensures.document t h)

pub returns-in_err-array_items-clause-memory : goal.returns-in_err-array_items-clause-memory
returns-in_err-array_items-clause-memory c =
    λ t h. let known = c.in_err-array_items.ensures.memory t h in search rules

pub returns-in_err-object_keys-clause-memory : goal.returns-in_err-object_keys-clause-memory
returns-in_err-object_keys-clause-memory c =
    λ t h. let known = c.in_err-object_keys.ensures.memory t h in search rules

pub returns-in_err-object_values-clause-memory : goal.returns-in_err-object_values-clause-memory
returns-in_err-object_values-clause-memory c =
    λ t h. let known = c.in_err-object_values.ensures.memory t h in search rules

pub returns-in_err-object_pairs-clause-memory : goal.returns-in_err-object_pairs-clause-memory
returns-in_err-object_pairs-clause-memory c =
    λ t h. let known = c.in_err-object_pairs.ensures.memory t h in search rules

pub returns-in_err-find_by_name-clause-memory : goal.returns-in_err-find_by_name-clause-memory
returns-in_err-find_by_name-clause-memory c =
    λ t h. absurd (c.in_err-find_by_name.ensures.value t h)
