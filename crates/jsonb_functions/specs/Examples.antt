-- Examples of paths and what they select, of containment, and of edited and joined trees.
use Rattle.std.specs.Prelude.{◌≡◌, pos, true, false, List, [], ◌∷◌, codes, Some, None}
use Rattle.jsonb_value.specs.declared.number.Number.TheVariants.{Int64}
use Rattle.jsonb_value.specs.Notation.{neg, whole, scaled, string, items, members}
use Rattle.jsonb_value.specs.Tree.{Tree, null, number}
use Rattle.jsonb_functions.specs.declared.path.Step.TheVariants.{Index, FromEnd, End}
use Rattle.jsonb_functions.specs.declared.selection.Bound.TheVariants as bounds
use Rattle.jsonb_functions.specs.declared.selection.Selector.TheVariants as selectors
use Rattle.jsonb_functions.specs.StoredPath.{key, index, from_end, past_end, path_in}
use Rattle.jsonb_functions.specs.NamedSteps.{child_by}
use Rattle.jsonb_functions.specs.Found.{found_at}
use Rattle.jsonb_functions.specs.Selected.{selected}
use Rattle.jsonb_functions.specs.PathText.{PathText, SelectorView, step, all_items, all_members}
use Rattle.jsonb_functions.specs.PathText.{range}
use Rattle.jsonb_functions.specs.Pointer.{pointer_of, pointer_name}
use Rattle.jsonb_functions.specs.NameList.{NameList}
use Rattle.jsonb_functions.specs.Contains.{contains, contains_whole, has_top_key}
use Rattle.jsonb_functions.specs.ArraySets.{distinct, intersection, difference, overlaps}
use Rattle.jsonb_functions.specs.Joined.{joined}
use Rattle.jsonb_functions.specs.Patched.{patched}
use Rattle.jsonb_functions.specs.Stripped.{stripped}
use Rattle.jsonb_functions.specs.Edited.{put, create, insert, remove, edited, edited_whole}

-- [1,[2,3]] and {"a":1,"b":[2]}
abbrev nested : Tree
nested = items (whole 1 ∷ items (whole 2 ∷ whole 3 ∷ []) ∷ [])

abbrev two_members : Tree
two_members = members (("a", whole 1) ∷ ("b", items (whole 2 ∷ [])) ∷ [])

-- Where steps lead, and what paths select.
pub record PathExamples : Type 0 where
  pub by_key : child_by (key (codes "b")) two_members ≡ Some (items (whole 2 ∷ []))
  pub by_other_key : child_by (key (codes "c")) two_members ≡ None
  pub key_in_array : child_by (key (codes "0")) nested ≡ None
  pub last_item : child_by (from_end 0) nested ≡ Some (items (whole 2 ∷ whole 3 ∷ []))
  pub past_the_last : child_by past_end nested ≡ None
  pub no_item : child_by (index 2) nested ≡ None
  pub at_no_step : found_at [] nested ≡ Some nested
  pub at_two_steps : found_at (Index 1 ∷ (FromEnd 1 ∷ [])) nested ≡ Some (whole 2)
  pub in_scalar : found_at (Index 0 ∷ (Index 0 ∷ [])) nested ≡ None
  pub each_item : selected (selectors.Step (FromEnd 0) ∷ (selectors.AllItems ∷ [])) nested
      ≡ whole 2 ∷ (whole 3 ∷ [])
  pub each_member : selected (selectors.AllMembers ∷ []) two_members
      ≡ whole 1 ∷ (items (whole 2 ∷ []) ∷ [])
  pub in_range : selected (selectors.Range (bounds.FromStart 1) (bounds.FromEnd 0) ∷ [])
      (items (whole 1 ∷ whole 2 ∷ whole 3 ∷ [])) ≡ whole 2 ∷ (whole 3 ∷ [])
  pub in_no_array : selected (selectors.AllItems ∷ []) two_members ≡ []

-- The paths that texts and documents give.
pub record PathTexts : Type 0 where
  pub no_step : PathText (codes "$") []
  pub key_and_item : PathText (codes "$.a[0]") (step (key (codes "a")) ∷ (step (index 0) ∷ []))
  pub quoted_key : PathText (codes "$.\"a.b\"") (step (key (codes "a.b")) ∷ [])
  pub wildcards : PathText (codes "$.*[*]") (all_members ∷ (all_items ∷ []))
  pub from_last : PathText (codes "$[last - 1]") (step (from_end 1) ∷ [])
  pub past_the_last : PathText (codes "$[#]") (step past_end ∷ [])
  pub to_last : PathText (codes "$[1 to last]")
      (range (bounds.FromStart 1) (bounds.FromEnd 0) ∷ [])
  pub empty_text : (path : List SelectorView) → PathText [] path → ⊥
  pub without_root : (path : List SelectorView) → PathText (codes "a") path → ⊥
  pub of_document : path_in (items (string "a" ∷ whole 0 ∷ number (Int64 (neg 1)) ∷ []))
      ≡ Some (key (codes "a") ∷ (index 0 ∷ (from_end 0 ∷ [])))
  pub of_no_array : path_in (string "a") ≡ None
  pub as_pointer : pointer_of (codes "a/b" ∷ codes "m~n" ∷ []) ≡ codes "/a~1b/m~0n"
  pub of_pointer : pointer_name (codes "/a~1b/x") ≡ Some (codes "a/b", codes "/x")
  pub of_no_pointer : pointer_name (codes "/~2") ≡ None
  pub of_list : NameList (codes "{a,\"b,c\"}") (codes "a" ∷ codes "b,c" ∷ [])
  pub of_empty_list : NameList (codes "{}") []

-- Which trees contain which.
pub record ContainmentExamples : Type 0 where
  pub nested_item : contains nested (items (items (whole 3 ∷ []) ∷ [])) ≡ true
  pub missing_item : contains nested (items (whole 2 ∷ [])) ≡ false
  pub equal_number : contains (items (whole 5 ∷ []))
      (items (number (scaled (pos 50) 1) ∷ [])) ≡ true
  pub fewer_members : contains two_members (members (("b", items []) ∷ [])) ≡ true
  pub other_value : contains two_members (members (("a", whole 2) ∷ [])) ≡ false
  pub scalar_in_array : contains nested (whole 1) ≡ false
  pub scalar_in_whole_array : contains_whole nested (whole 1) ≡ true
  pub array_in_whole_scalar : contains_whole (whole 1) (items (whole 1 ∷ [])) ≡ false
  pub top_key : has_top_key (codes "a") two_members ≡ true
  pub top_string : has_top_key (codes "a") (items (string "a" ∷ [])) ≡ true

-- Arrays as sets, joined and patched trees.
pub record ChangedExamples : Type 0 where
  pub distinct_items : distinct (items (whole 5 ∷ number (scaled (pos 50) 1) ∷ whole 6 ∷ []))
      ≡ items (whole 5 ∷ whole 6 ∷ [])
  pub common_items : intersection (items (whole 1 ∷ whole 1 ∷ whole 2 ∷ []))
      (items (whole 2 ∷ whole 1 ∷ [])) ≡ items (whole 1 ∷ whole 2 ∷ [])
  pub other_items : difference (items (whole 1 ∷ whole 1 ∷ whole 2 ∷ []))
      (items (whole 2 ∷ whole 1 ∷ [])) ≡ items (whole 1 ∷ [])
  pub no_common_item : overlaps (items (whole 1 ∷ [])) (items (whole 2 ∷ [])) ≡ false
  pub joined_members : joined two_members (members (("b", null) ∷ ("c", null) ∷ []))
      ≡ members (("a", whole 1) ∷ ("b", null) ∷ ("c", null) ∷ [])
  pub joined_items : joined (items (whole 1 ∷ [])) (whole 2) ≡ items (whole 1 ∷ whole 2 ∷ [])
  pub patched_member : patched (members (("a", string "b") ∷ ("b", string "c") ∷ []))
      (members (("a", null) ∷ [])) ≡ members (("b", string "c") ∷ [])
  pub patched_array : patched nested (members (("a", string "b") ∷ ("c", null) ∷ []))
      ≡ members (("a", string "b") ∷ [])
  pub patched_null : patched (members (("e", null) ∷ [])) (members (("a", whole 1) ∷ []))
      ≡ members (("a", whole 1) ∷ ("e", null) ∷ [])
  pub null_members : stripped (members (("a", null) ∷ ("b", items (null ∷ [])) ∷ []))
      ≡ members (("b", items (null ∷ [])) ∷ [])
  pub put_item : edited (Index 0 ∷ []) (put null) nested
      ≡ items (null ∷ items (whole 2 ∷ whole 3 ∷ []) ∷ [])
  pub put_at_end : edited (End ∷ []) (put null) (items (whole 1 ∷ [])) ≡ items (whole 1 ∷ null ∷ [])
  pub inserted_item : edited (Index 0 ∷ []) (insert null) (items (whole 1 ∷ []))
      ≡ items (null ∷ whole 1 ∷ [])
  pub removed_item : edited (Index 1 ∷ (FromEnd 0 ∷ [])) remove nested
      ≡ items (whole 1 ∷ items (whole 2 ∷ []) ∷ [])
  pub put_past_the_last : edited (Index 5 ∷ []) (put null) (items (whole 1 ∷ []))
      ≡ items (whole 1 ∷ null ∷ [])
  pub put_before_the_first : edited (FromEnd 5 ∷ []) (put null) (items (whole 1 ∷ []))
      ≡ items (null ∷ whole 1 ∷ [])
  pub created_nowhere : edited (Index 5 ∷ []) (create null) nested ≡ nested
  pub made_item : edited (Index 0 ∷ (Index 0 ∷ [])) (create null) (items [])
      ≡ items (items (null ∷ []) ∷ [])
  pub put_whole : edited_whole [] (put null) nested ≡ null
