-- The printed text of a tree without extension values is the spelling of a syntax that means the
-- same tree.
use Rattle.std.proofs.Common.{◌≡◌, ℕ, zero, suc, ◌*◌, Bool, true, false, None, Option, Some}
use Rattle.std.proofs.Common.{refl, sym, ap, ◌∙◌, List, [], ◌∷◌, ◌++◌, arith, append_assoc}
use Rattle.std.proofs.Common.{append-nil}
use Rattle.std.specs.Prelude.{option_map, codes, replicate, chars}
use Rattle.std.proofs.lemmas.Bool.Decides.{nat_tests}
use Rattle.std.specs.declared.cmp.Ordering.TheVariants.{Less, Equal, Greater}
use Rattle.std.specs.Ordering.{nat_cmp, ordering_reverse}
use Rattle.std.specs.Cmp.Lexicographic.{slice_cmp, nat_list_cmp_total}
use Rattle.std.specs.BTreeMap.{insert_entry}
use Rattle.std.specs.Str.{IsUtf8}
use Rattle.jsonb_value.specs.declared.number.Number.{Number}
use Rattle.jsonb_value.specs.declared.parser.number.Exponents.TheVariants.{Forbidden}
use Rattle.jsonb_value.specs.Plain.{IsPlain, ArePlain, PairsPlain}
use Rattle.jsonb_value.specs.Text.{Layout, in_one_line, on_lines, inside, line_start, colon_text}
use Rattle.jsonb_value.specs.Text.{number_text, laid_out, more_items}
use Rattle.jsonb_value.specs.Text.{more_pairs}
use Rattle.jsonb_value.specs.Text as bytes
use Rattle.jsonb_value.specs.TreeOrder.{tree_cmp}
use Rattle.jsonb_value.specs.Tree.{Tree, null, boolean, number, text, extension, array, object}
use Rattle.jsonb_value.specs.Tree.{Trees, no_trees, tree, Pairs, no_pairs, pair, Ascends}
use Rattle.jsonb_value.specs.Value.{trees_of}
use Rattle.jsonb_value.specs.WellFormed.{IsNumber, IsTree, AreTrees, ArePairs}
use Rattle.jsonb_value.specs.Json.Characters.{all_blank, all_digits}
use Rattle.jsonb_value.specs.Json.Numeral.{Numeral, sign_text, fraction_text, numeral_text}
use Rattle.jsonb_value.specs.Json.Numeral.{is_whole}
use Rattle.jsonb_value.specs.Json.Syntax.{Syntax, nothing, truth, numeral, string, empty_array}
use Rattle.jsonb_value.specs.Json.Syntax.{items, empty_object, members, Element, element, Items}
use Rattle.jsonb_value.specs.Json.Syntax.{no_item, next_item, Member, member, Members, no_member}
use Rattle.jsonb_value.specs.Json.Syntax.{next_member, string_characters, syntax_text}
use Rattle.jsonb_value.specs.Json.Syntax.{items_text, members_text, Entries, pairs}
use Rattle.jsonb_value.specs.Json.Syntax.{insert_all, meaning, items_meaning}
use Rattle.jsonb_value.specs.Json.Syntax.{members_meaning, Json}
use Rattle.jsonb_value.proofs.Json.Exponents.{WithoutExponent, without_exponent}
use Rattle.jsonb_value.proofs.Json.PrintedNumbers.{printed_number, reread, number_spelled}
use Rattle.jsonb_value.proofs.Json.PrintedText.{Spells, Spells-append, Spells-nil, Spells-ascii}
use Rattle.jsonb_value.proofs.Json.PrintedText.{all_ascii, printed_text, content_spelled}
use Rattle.jsonb_value.proofs.Json.PrintedText.{text_meaning}
use Rattle.jsonb_value.proofs.Json.Same.{IsSame, AreSame, PairsSame, tree_cmp-IsSame}

-- ---- the syntax of the printed text

-- white space after a colon
abbrev gap : Layout → List ℕ
gap in_one_line = []
gap (on_lines depth) = 32 ∷ []

-- white space after an item: none, except before the closing bracket
abbrev later : Layout → Trees → List ℕ
later l no_trees = line_start l
later l (tree t ts) = []

abbrev pair_after : Layout → Pairs → List ℕ
pair_after l no_pairs = line_start l
pair_after l (pair k t ps) = []

-- an item with its white space, given the items after it; likewise a pair
abbrev item_in : Layout → Syntax → Trees → Element
item_in l x ts = element (line_start (inside l)) x (later l ts)

abbrev pair_in : Layout → List ℕ → Syntax → Pairs → Member
pair_in l k x ps = member (line_start (inside l)) (printed_text k) []
    (element (gap (inside l)) x (pair_after l ps))

abbrev mutual
  printed : Layout → Tree → Syntax
  printed l null = nothing
  printed l (boolean b) = truth b
  printed l (number x) = numeral (printed_number x)
  printed l (text s) = string (printed_text s)
  printed l (extension e) = nothing
  printed l (array no_trees) = empty_array []
  printed l (array (tree t ts)) =
      items (item_in l (printed (inside l) t) ts) (printed_items l ts)
  printed l (object no_pairs) = empty_object []
  printed l (object (pair k t ps)) =
      members (pair_in l k (printed (inside l) t) ps) (printed_members l ps)

  -- the items after the first, in a container of this layout
  printed_items : Layout → Trees → Items
  printed_items l no_trees = no_item
  printed_items l (tree t ts) =
      next_item (item_in l (printed (inside l) t) ts) (printed_items l ts)

  printed_members : Layout → Pairs → Members
  printed_members l no_pairs = no_member
  printed_members l (pair k t ps) =
      next_member (pair_in l k (printed (inside l) t) ps) (printed_members l ps)

-- ---- white space

spaces_ascii : (n : ℕ) → all_ascii (replicate n 32) ≡ true
spaces_ascii zero = refl
spaces_ascii (suc n) = spaces_ascii n

spaces_blank : (n : ℕ) → all_blank (replicate n 32) ≡ true
spaces_blank zero = refl
spaces_blank (suc n) = spaces_blank n

line_start-spelled : (l : Layout) → Spells (line_start l) (line_start l)
line_start-spelled in_one_line = Spells-nil
line_start-spelled (on_lines depth) =
    Spells-ascii (10 ∷ replicate (2 * depth) 32) (spaces_ascii (2 * depth))

line_start-blank : (l : Layout) → all_blank (line_start l) ≡ true
line_start-blank l = grind (arith, spaces_blank)

gap-blank : (l : Layout) → all_blank (gap l) ≡ true
gap-blank l = grind arith

later-blank : (l : Layout) (ts : Trees) → all_blank (later l ts) ≡ true
later-blank l ts = grind (arith, line_start-blank)

pair_after-blank : (l : Layout) (ps : Pairs) → all_blank (pair_after l ps) ≡ true
pair_after-blank l ps = grind (arith, line_start-blank)

colon-spelled : (l : Layout) → Spells (colon_text l) (58 ∷ gap l)
colon-spelled in_one_line = Spells-ascii (58 ∷ []) refl
colon-spelled (on_lines depth) = Spells-ascii (58 ∷ 32 ∷ []) refl

colon-inside : (l : Layout) → Spells (colon_text l) (58 ∷ gap (inside l))
colon-inside in_one_line = Spells-ascii (58 ∷ []) refl
colon-inside (on_lines depth) = Spells-ascii (58 ∷ 32 ∷ []) refl

-- ---- the printed text is the spelled text

-- one ASCII character before other text
after_one : {c : ℕ} {b x : List ℕ} → all_ascii (c ∷ []) ≡ true → Spells b x
    → Spells (c ∷ b) (c ∷ x)
after_one {c} e h = Spells-append (Spells-ascii (c ∷ []) e) h

-- a quoted string followed by other text
string_spelled : {b x : List ℕ} (s : List ℕ) → IsUtf8 s → Spells b x
    → Spells (bytes.string_text s ++ b) (string_characters (printed_text s) ++ x)
string_spelled s utf8 more =
    simp append_assoc
    (after_one refl (Spells-append (content_spelled s utf8) (after_one refl more)))

digits_ascii : (ds : List ℕ) → all_digits ds ≡ true → all_ascii ds ≡ true
digits_ascii [] e = refl
digits_ascii (d ∷ ds) e = grind (arith, nat_tests, digits_ascii ds)

whole_ascii : (ds : List ℕ) → is_whole ds ≡ true → all_ascii ds ≡ true
whole_ascii ds e = grind (arith, nat_tests, digits_ascii)

ascii-append : (xs ys : List ℕ) → all_ascii xs ≡ true → all_ascii ys ≡ true
    → all_ascii (xs ++ ys) ≡ true
ascii-append [] ys e h = h
ascii-append (x ∷ xs) ys e h = grind (arith, ascii-append xs ys)

sign_ascii : (b : Bool) → all_ascii (sign_text b) ≡ true
sign_ascii b = grind arith

fraction_ascii : (ds : List ℕ) → all_digits ds ≡ true → all_ascii (fraction_text ds) ≡ true
fraction_ascii ds e = grind (arith, digits_ascii)

numeral_ascii : (n : Numeral) (x : Number) → WithoutExponent n x
    → all_ascii (numeral_text n) ≡ true
numeral_ascii n x proper =
    let fraction = fraction_text n.fraction in
    rw proper.is_spelled
    (ascii-append (sign_text n.is_negative) (n.whole ++ fraction) (sign_ascii n.is_negative)
    (ascii-append n.whole fraction (whole_ascii n.whole proper.is_whole_part)
    (fraction_ascii n.fraction proper.is_fraction)))

number_as_spelled : (x : Number) → IsNumber x
    → Spells (number_text x) (numeral_text (printed_number x))
number_as_spelled x ok =
    let back = reread x ok in
    let proper = without_exponent (printed_number x) back.number back.is_meant in
    rw number_spelled
    (Spells-ascii (numeral_text (printed_number x))
    (numeral_ascii (printed_number x) back.number proper))

mutual
  tree_spelled : (l : Layout) (t : Tree) → IsTree t → IsPlain t
      → Spells (laid_out l t) (syntax_text (printed l t))
  tree_spelled l null ok plain = Spells-ascii (codes "null") refl
  tree_spelled l (boolean true) ok plain = Spells-ascii (codes "true") refl
  tree_spelled l (boolean false) ok plain = Spells-ascii (codes "false") refl
  tree_spelled l (number x) ok plain = number_as_spelled x ok
  tree_spelled l (text s) ok plain = simp append-nil at (string_spelled s ok Spells-nil)
  tree_spelled l (extension e) ok plain = absurd plain
  tree_spelled l (array no_trees) ok plain = Spells-ascii (codes "[]") refl
  tree_spelled l (array (tree t ts)) ok plain = simp append_assoc (after_one refl
      (Spells-append (line_start-spelled (inside l))
      (Spells-append (tree_spelled (inside l) t ok.0 plain.0) (items_spelled l ts ok.1 plain.1))))
  tree_spelled l (object no_pairs) ok plain = Spells-ascii (codes "{}") refl
  tree_spelled l (object (pair k t ps)) ok plain = simp append_assoc (after_one refl
      (Spells-append (line_start-spelled (inside l)) (simp append_assoc at (string_spelled k ok.1.0
      (Spells-append (colon-inside l) (Spells-append (tree_spelled (inside l) t ok.1.1.0 plain.0)
      (pairs_spelled l ps ok.1.1.1 plain.1)))))))

  items_spelled : (l : Layout) (ts : Trees) → AreTrees ts → ArePlain ts
      → Spells (more_items (inside l) ts ++ (line_start l ++ codes "]"))
      (later l ts ++ items_text (printed_items l ts))
  items_spelled l no_trees ok plain =
      Spells-append (line_start-spelled l) (Spells-ascii (93 ∷ []) refl)
  items_spelled l (tree t ts) ok plain = simp append_assoc (after_one refl
      (Spells-append (line_start-spelled (inside l))
      (Spells-append (tree_spelled (inside l) t ok.0 plain.0) (items_spelled l ts ok.1 plain.1))))

  pairs_spelled : (l : Layout) (ps : Pairs) → ArePairs ps → PairsPlain ps
      → Spells (more_pairs (inside l) ps ++ (line_start l ++ codes "}"))
      (pair_after l ps ++ members_text (printed_members l ps))
  pairs_spelled l no_pairs ok plain =
      Spells-append (line_start-spelled l) (Spells-ascii (125 ∷ []) refl)
  pairs_spelled l (pair k t ps) ok plain = simp append_assoc (after_one refl
      (Spells-append (line_start-spelled (inside l)) (simp append_assoc at (string_spelled k ok.0
      (Spells-append (colon-spelled (inside l))
      (Spells-append (tree_spelled (inside l) t ok.1.0 plain.0)
      (pairs_spelled l ps ok.1.1 plain.1)))))))

-- ---- inserting ascending keys one by one appends them

below : (b k : List ℕ) (es : Entries) (t : Tree) (ms : Entries)
    → Ascends (Some b) (pairs (es ++ (k, t) ∷ ms)) → slice_cmp nat_cmp b k ≡ Less
below b k [] t ms h = h.0
below b k (e ∷ es) t ms h = nat_list_cmp_total.trans b e.0 k h.0 (below e.0 k es t ms h.1)

insert-last : (before : Option (List ℕ)) (es : Entries) (k : List ℕ) (t : Tree) (ms : Entries)
    → Ascends before (pairs (es ++ (k, t) ∷ ms))
    → insert_entry (slice_cmp nat_cmp) es k t ≡ es ++ (k, t) ∷ []
insert-last before [] k t ms h = refl
insert-last before (e ∷ es) k t ms h =
    let above : slice_cmp nat_cmp k e.0 ≡ Greater =
    nat_list_cmp_total.antisymm k e.0 ∙ ap ordering_reverse (below e.0 k es t ms h.1) in
    rw (above, insert-last (Some e.0) es k t ms h.1) refl

inserted-ascending : (ms front : Entries) → Ascends None (pairs (front ++ ms))
    → insert_all front ms ≡ front ++ ms
inserted-ascending [] front h = sym (append-nil front)
inserted-ascending (m ∷ ms) front h =
    rw (insert-last None front m.0 m.1 ms h)
    (inserted-ascending ms (front ++ m ∷ []) (rw append_assoc h) ∙ append_assoc front (m ∷ []) ms)

-- ---- the meaning of the printed text

record ReadsTree (l : Layout) (t : Tree) : Type 0 where
  tree_is : Tree
  is_meant : meaning Forbidden (printed l t) ≡ Some tree_is
  is_same : IsSame tree_is t
  is_tree : IsTree tree_is

record ReadsTrees (l : Layout) (ts : Trees) : Type 0 where
  own : List Tree
  is_meant : items_meaning Forbidden (printed_items l ts) ≡ Some own
  are_same : AreSame (trees_of own) ts
  are_trees : AreTrees (trees_of own)

record ReadsPairs (l : Layout) (ps : Pairs) : Type 0 where
  own : Entries
  is_meant : members_meaning Forbidden (printed_members l ps) ≡ Some own
  are_same : PairsSame (pairs own) ps
  are_pairs : ArePairs (pairs own)
  ascends : (before : Option (List ℕ)) → Ascends before ps → Ascends before (pairs own)

-- a nonempty list of items, and of members
items_mean : (x : Element) (xs : Items) (own : List Tree)
    → items_meaning Forbidden (next_item x xs) ≡ Some own
    → meaning Forbidden (items x xs) ≡ Some (array (trees_of own))
items_mean x xs own e = grind arith

members_mean : (m : Member) (ms : Members) (own : Entries)
    → members_meaning Forbidden (next_member m ms) ≡ Some own
    → meaning Forbidden (members m ms) ≡ Some (object (pairs (insert_all [] own)))
members_mean m ms own e = grind arith

mutual
  tree_reads : (l : Layout) (t : Tree) → IsTree t → IsPlain t → ReadsTree l t
  tree_reads l null ok plain =
      record { tree_is = null; is_meant = refl; is_same = tt; is_tree = tt }
  tree_reads l (boolean b) ok plain =
      record { tree_is = boolean b; is_meant = refl; is_same = refl; is_tree = tt }
  tree_reads l (number x) ok plain =
      let back = reread x ok in
      record {
        tree_is = number back.number;
        is_meant = ap
            (option_map number) back.is_meant;
        is_same = record { worth = back.is_worth; shorter = back.is_short };
        is_tree = back.is_number;
      }
  tree_reads l
      (text s) ok plain = record {
        tree_is = text s;
        is_meant = ap (option_map text)
            (text_meaning s ok);
        is_same = refl;
        is_tree = ok;
      }
  tree_reads l (extension e) ok plain = absurd plain
  tree_reads l (array no_trees) ok plain =
      record { tree_is = array no_trees; is_meant = refl; is_same = tt; is_tree = tt }
  tree_reads l (array (tree t ts)) ok plain =
      let all = trees_read l (tree t ts) ok plain in
      record {
        tree_is = array (trees_of all.own);
        is_meant = items_mean (item_in l (printed (inside l) t) ts) (printed_items l ts) all.own
            all.is_meant;
        is_same = all.are_same;
        is_tree = all.are_trees;
      }
  tree_reads l (object no_pairs) ok plain =
      record { tree_is = object no_pairs; is_meant = refl; is_same = tt; is_tree = (tt, tt) }
  tree_reads l (object (pair k t ps)) ok plain =
      let all = pairs_read l (pair k t ps) ok.1 plain in
      let ascend = all.ascends None ok.0 in
      record {
        tree_is = object (pairs all.own);
        is_meant =
            members_mean (pair_in l k (printed (inside l) t) ps) (printed_members l ps) all.own
            all.is_meant
            ∙ ap (λ (es : Entries). Some (object (pairs es)))
            (inserted-ascending all.own [] ascend);
        is_same = all.are_same;
        is_tree = (ascend, all.are_pairs);
      }

  trees_read : (l : Layout) (ts : Trees) → AreTrees ts → ArePlain ts → ReadsTrees l ts
  trees_read l no_trees ok plain =
      record { own = []; is_meant = refl; are_same = tt; are_trees = tt }
  trees_read l (tree t ts) ok plain =
      let i = inside l in
      let first = tree_reads i t ok.0 plain.0 in
      let others = trees_read l ts ok.1 plain.1 in
      record {
        own = first.tree_is ∷ others.own;
        is_meant = grind (arith, line_start-blank, later-blank);
        are_same = (first.is_same, others.are_same);
        are_trees = (first.is_tree, others.are_trees);
      }

  pairs_read : (l : Layout) (ps : Pairs) → ArePairs ps → PairsPlain ps → ReadsPairs l ps
  pairs_read l no_pairs ok plain =
      record { own = []; is_meant = refl; are_same = tt; are_pairs = tt; ascends = λ before h. tt }
  pairs_read l (pair k t ps) ok plain =
      let i = inside l in
      let first = tree_reads i t ok.1.0 plain.0 in
      let others = pairs_read l ps ok.1.1 plain.1 in
      record {
        own = (k, first.tree_is) ∷ others.own;
        is_meant = grind (
          arith,
          line_start-blank,
          gap-blank,
          pair_after-blank,
          text_meaning k ok.0,
        );
        are_same = (refl, (first.is_same, others.are_same));
        are_pairs = (ok.0, (first.is_tree, others.are_pairs));
        ascends = λ before h. (h.0, others.ascends (Some k) h.1);
      }

-- The text means the same tree up to the kinds of numbers, and that tree compares Equal to the
-- printed one.
pub record RereadTree (text_is : List ℕ) (t : Tree) : Type 0 where
  pub tree_is : Tree
  pub is_tree : IsTree tree_is
  pub is_meant : Json (chars text_is) tree_is
  pub is_same : IsSame tree_is t
  pub is_equal : tree_cmp tree_is t ≡ Equal

pub reread_tree : (l : Layout) (t : Tree) → IsTree t → IsPlain t → RereadTree (laid_out l t) t
reread_tree l t ok plain =
    let read = tree_reads l t ok plain in
    let spelled = tree_spelled l t ok plain in
    record {
      tree_is = read.tree_is;
      is_tree = read.is_tree;
      is_meant = record {
        syntax = element [] (printed l t) [];
        is_spelled = spelled.are
            ∙ sym (append-nil (syntax_text (printed l t)));
        is_meant = read.is_meant;
      };
      is_same = read.is_same;
      is_equal = tree_cmp-IsSame read.tree_is t read.is_same;
    }
