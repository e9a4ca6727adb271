-- The examples, by computing.
use Rattle.std.proofs.Common.{arith, inl, refl, [], codes}
use Rattle.jsonb_functions.specs.PathText.{plain, quoted, bracketed}
use Rattle.jsonb_functions.specs.Examples.{ChangedExamples, ContainmentExamples, PathExamples}
use Rattle.jsonb_functions.specs.Examples.{PathTexts}

pub paths : PathExamples
paths = record {
  by_key = refl;
  by_other_key = refl;
  key_in_array = refl;
  last_item = refl;
  past_the_last = refl;
  no_item = refl;
  at_no_step = refl;
  at_two_steps = refl;
  in_scalar = refl;
  each_item = refl;
  each_member = refl;
  in_range = refl;
  in_no_array = refl;
}

pub path_texts : PathTexts
path_texts = record {
  no_step = record { steps = (_, refl, refl); one_list = omega arith };
  key_and_item = record {
    steps = (
      codes ".a[0]",
      refl,
      (
        codes "[0]",
        inl (codes ".a", refl, (plain (codes "a"), refl, refl)),
        ([], inl (codes "[0]", refl, (bracketed (codes "0"), refl, refl)), refl),
      ),
    );
    one_list = omega arith;
  };
  quoted_key = record {
    steps = (_, refl, ([], inl (codes ".\"a.b\"", refl, (quoted (codes "a.b"), refl, refl)), refl));
    one_list = omega arith;
  };
  wildcards = record {
    steps = (
      codes ".*[*]",
      refl,
      (
        codes "[*]",
        inl (codes ".*", refl, (plain (codes "*"), refl, refl)),
        ([], inl (codes "[*]", refl, (bracketed (codes "*"), refl, refl)), refl),
      ),
    );
    one_list = omega arith;
  };
  from_last = record {
    steps = (
      _,
      refl,
      ([], inl (codes "[last - 1]", refl, (bracketed (codes "last - 1"), refl, refl)), refl),
    );
    one_list = omega arith;
  };
  past_the_last = record {
    steps = (
      _,
      refl,
      ([], inl (codes "[#]", refl, (bracketed (codes "#"), refl, refl)), refl),
    );
    one_list = omega arith;
  };
  to_last = record {
    steps = (
      _,
      refl,
      ([], inl (codes "[1 to last]", refl, (bracketed (codes "1 to last"), refl, refl)), refl),
    );
    one_list = omega arith;
  };
  empty_text = λ path h. grind (arith, h.steps.1);
  without_root = λ path h. grind (arith, h.steps.1);
  of_document = refl;
  of_no_array = refl;
  as_pointer = refl;
  of_pointer = refl;
  of_no_pointer = refl;
  of_list = (codes ",\"b,c\"}", refl, (codes "}", refl, refl));
  of_empty_list = refl;
}

pub containment : ContainmentExamples
containment = record {
  nested_item = refl;
  missing_item = refl;
  equal_number = refl;
  fewer_members = refl;
  other_value = refl;
  scalar_in_array = refl;
  scalar_in_whole_array = refl;
  array_in_whole_scalar = refl;
  top_key = refl;
  top_string = refl;
}

pub changed : ChangedExamples
changed = record {
  distinct_items = refl;
  common_items = refl;
  other_items = refl;
  no_common_item = refl;
  joined_members = refl;
  joined_items = refl;
  patched_member = refl;
  patched_array = refl;
  patched_null = refl;
  null_members = refl;
  put_item = refl;
  put_at_end = refl;
  inserted_item = refl;
  removed_item = refl;
  put_past_the_last = refl;
  put_before_the_first = refl;
  created_nowhere = refl;
  made_item = refl;
  put_whole = refl;
}
