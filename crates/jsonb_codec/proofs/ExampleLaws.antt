-- The examples, by computing.
use Rattle.std.proofs.Common.{◌≡◌, ◌≢◌, ◌+◌, ◌%◌, ◌<◌, ◌≤◌, ◌^◌, ◌++◌, ℕ, List, [], ◌∷◌, length}
use Rattle.std.proofs.Common.{take, true, false, pos, Some, None, arith, refl, ◌∙◌, inl, inr, lit<}
use Rattle.std.specs.Str.{IsUtf8, is_utf8, chars}
use Rattle.std.specs.Ordering.{nat_cmp}
use Rattle.std.specs.Cmp.Lexicographic.{slice_cmp}
use Rattle.std.specs.declared.cmp.Ordering.TheVariants.{Less}
use Rattle.std.proofs.lemmas.Str.{is_utf8-from_IsUtf8, IsUtf8-from_is_utf8}
use Rattle.jsonb_value.specs.Notation.{hex, string, items, members, whole}
use Rattle.jsonb_value.specs.Tree.{Tree, Trees, Pairs, boolean}
use Rattle.jsonb_value.proofs.Codes.{NumCode-first}
use Rattle.jsonb_codec.specs.WordBytes.{word}
use Rattle.jsonb_codec.specs.Doc.{type_of, Doc, IsDocument, Payload}
use Rattle.jsonb_codec.specs.Depth.{depth, depths, pair_depths}
use Rattle.jsonb_codec.specs.Parts.{IsArray, IsObject, IsPayloadOf}
use Rattle.jsonb_codec.specs.Examples.{CanonicalDocuments, ContainerDocuments, NoDocuments}
use Rattle.jsonb_codec.specs.Examples.{ScalarDocuments, WordExamples}
use Rattle.jsonb_codec.proofs.CanonLaws.{Doc-canon}
use Rattle.jsonb_codec.proofs.Containers.{two_kinds}
use Rattle.jsonb_codec.proofs.Unique.{Doc-prefix_free}
use Rattle.jsonb_codec.proofs.Scalars.{number_after, text_after, HasPayload-empty}
use Rattle.jsonb_codec.proofs.Steps.{Read, array_children, array_in, array_room, children_iff}
use Rattle.jsonb_codec.proofs.Steps.{document_container, document_room, document_scalar, kind_is}
use Rattle.jsonb_codec.proofs.Steps.{object_in, scalar_count, scalar_entry, scalar_in}
use Rattle.jsonb_codec.proofs.KeySteps.{keys_iff, object_onward}

utf8 : (s : List ℕ) → is_utf8 s ≡ true → IsUtf8 s
utf8 s e = IsUtf8-from_is_utf8 s e

scalar : (t : Tree) (p : List ℕ) → type_of t ≢ 1342177280 → length p < 2 ^ 28 → Payload t p
    → Doc (word 536870912 ++ (word (type_of t + length p) ++ p)) t
scalar t p other short means =
    inl (other, record { payload = p; parts = refl; short = short; means = means })

types : (t : Tree) → type_of t ≤ 1610612736
types t = grind arith

-- bytes that begin with the header of a scalar
header : (n : ℕ) (rest : List ℕ) → n < 2 ^ 29
    → Read (2 ^ 29) 536870912 n rest (word (536870912 + n) ++ rest)
header n rest few =
    record { found = refl; high = refl; number = few; small = omega (arith, few) }

-- no scalar has this type and this payload
no_scalar : (ty k : ℕ) (p : List ℕ) → ty % 2 ^ 28 ≡ 0 → k < 2 ^ 28 → ty + k < 2 ^ 32
    → (k ≡ length p → ty ≢ 1342177280 → (t : Tree) → IsPayloadOf ty p t → ⊥)
    → IsDocument (word 536870912 ++ (word (ty + k) ++ p)) → ⊥
no_scalar ty k p high number small none (t, d) =
    let rest : List ℕ = word (ty + k) ++ p in
    let read : Read (2 ^ 28) ty k p rest =
    record { found = refl; high = high; number = number; small = small } in
    let h = document_scalar (header 0 rest (lit< tt)) refl t d in
    let x = scalar_in 0 rest (lit< tt) read t h.1 in
    none x.0 (λ e. h.0 (x.1.0 ∙ e)) t x.1

-- a scalar's header counts nothing
no_count : (n : ℕ) (rest : List ℕ) → n < 2 ^ 29 → n ≢ 0 → IsDocument (word (536870912 + n) ++ rest)
    → ⊥
no_count n rest few some (t, d) =
    some (scalar_count n rest few t (document_scalar (header n rest few) refl t d).1)

no_array : (n : ℕ) (rest : List ℕ) → n < 2 ^ 29 → ((ts : Trees) → IsArray n rest ts → ⊥)
    → IsDocument (word (2147483648 + n) ++ rest) → ⊥
no_array n rest few none (t, d) =
    let read : Read (2 ^ 29) 2147483648 n rest (word (2147483648 + n) ++ rest) =
    record { found = refl; high = refl; number = few; small = omega (arith, few) } in
    let found = array_in read refl t (document_container read (λ e. omega arith) t d) in
    none found.0 found.1.1

-- no array has one child of this type and this payload
no_child : (ty k : ℕ) (p : List ℕ) → ty % 2 ^ 28 ≡ 0 → k < 2 ^ 28 → ty + k < 2 ^ 32
    → ((t : Tree) → IsPayloadOf ty (take k p) t → ⊥)
    → IsDocument (word 2147483649 ++ (word (ty + k) ++ p)) → ⊥
unfolding word
no_child ty k p high number small none =
    no_array 1 (word (ty + k) ++ p) (lit< tt) (λ ts a.
    let read : Read (2 ^ 28) ty k [] (word (ty + k)) =
    record { found = refl; high = high; number = number; small = small } in
    let h = array_children {e = word (ty + k)} {p = p} refl refl refl ts a in
    let first = (children_iff read (depths ts) p).1 (ts, (omega arith, h)) in
    none first.1.0.0 first.1.0.1.1)

no_object : (n : ℕ) (rest : List ℕ) → n < 2 ^ 29 → ((ps : Pairs) → IsObject n rest ps → ⊥)
    → IsDocument (word (1073741824 + n) ++ rest) → ⊥
no_object n rest few none (t, d) =
    let read : Read (2 ^ 29) 1073741824 n rest (word (1073741824 + n) ++ rest) =
    record { found = refl; high = refl; number = few; small = omega (arith, few) } in
    let found = object_in read (λ e. omega arith) t
    (document_container read (λ e. omega arith) t d) in
    none found.0 found.1.1

-- no object has two keys of one byte that do not ascend
no_keys : (x y : ℕ) → (slice_cmp nat_cmp (x ∷ []) (y ∷ []) ≡ Less → ⊥)
    → IsDocument (word 1073741826 ++ (word 268435457 ++ (word 268435457
    ++ (word 0 ++ (word 0 ++ (x ∷ y ∷ [])))))) → ⊥
unfolding word
no_keys x y none =
    let keys : List ℕ = word 268435457 ++ word 268435457 in
    let values : List ℕ = word 0 ++ word 0 in
    let later : List ℕ = values ++ (x ∷ y ∷ []) in
    let one : Read (2 ^ 28) 268435456 1 (word 268435457) keys =
    record { found = refl; high = refl; number = lit< tt; small = lit< tt } in
    let two : Read (2 ^ 28) 268435456 1 [] (word 268435457) =
    record { found = refl; high = refl; number = lit< tt; small = lit< tt } in
    no_object 2 (keys ++ later) (lit< tt) (λ ps a.
    let found = object_onward {ke = keys} {later = later} {ve = values} {p = x ∷ y ∷ []}
    refl refl refl refl refl refl (pair_depths ps) (ps, (omega arith, a)) in
    let first = (keys_iff one None (x ∷ y ∷ []) found.0).1 found.1.0 in
    none ((keys_iff two (Some (x ∷ [])) (y ∷ []) found.0).1 first.others).above)

pub words : WordExamples
unfolding word
words = record {
  most_significant_first = refl;
  read = refl;
  cut = refl;
  entry = refl;
  entry_without_top_bit = refl;
  header = refl;
  no_header = refl;
}

pub canonical_documents : CanonicalDocuments
unfolding word
canonical_documents = record {
  of_signed_zero = refl;
  of_least_in_one_byte = refl;
  of_two_bytes = refl;
  of_wide_decimal = refl;
  of_zone = refl;
  of_interval = refl;
  of_newer_kind = refl;
  of_nested = refl;
  of_decimals = refl;
}

pub scalar_documents : ScalarDocuments
unfolding word is_utf8 chars lib.Utf8.encode
scalar_documents = record {
  of_null = scalar _ [] (λ e. omega arith) (lit< tt) refl;
  of_true = scalar _ [] (λ e. omega arith) (lit< tt) refl;
  of_false = scalar _ [] (λ e. omega arith) (lit< tt) refl;
  of_string = scalar _ (hex "617364") (λ e. omega arith) (lit< tt) (refl, utf8 _ refl);
  of_no_characters = scalar _ [] (λ e. omega arith) (lit< tt) (refl, utf8 _ refl);
  of_signed = scalar _ (hex "409c") (λ e. omega arith) (lit< tt)
      (hex "9c", (refl, inl record { len = refl; value = refl }));
  of_unsigned = scalar _ (hex "50ffff") (λ e. omega arith) (lit< tt)
      (inr (hex "ffff", (refl, inr (inl record { len = refl; value = refl }))));
  of_zero = scalar _ (hex "00") (λ e. omega arith) (lit< tt) (inl (refl, refl));
  of_signed_zero = scalar _ (hex "4000") (λ e. omega arith) (lit< tt)
      (hex "00", (refl, inl record { len = refl; value = refl }));
  of_decimal = scalar _ (hex "70 00000000000004d2 02") (λ e. omega arith) (lit< tt) (
    hex "00000000000004d2 02",
    (refl, (hex "00000000000004d2", (refl, record { len = refl; value = refl }))),
  );
  of_old_decimal = scalar _ (hex "70 000000000000000000000000000004d2 26 02") (λ e. omega arith)
      (lit< tt) (
        hex "000000000000000000000000000004d2 26 02",
        (
          refl,
          inr (
            hex "000000000000000000000000000004d2",
            (0x26, (refl, record { len = refl; value = refl })),
          ),
        ),
      );
  of_bytes = scalar _ (hex "00 010203") (λ e. omega arith) (lit< tt) refl;
  of_date = scalar _ (hex "10 ffffffff") (λ e. omega arith) (lit< tt)
      (hex "ffffffff", (refl, record { len = refl; value = refl }));
  of_zone_in_hours = scalar _ (hex "30 000640d6b7238000 08") (λ e. omega arith) (lit< tt) (
    hex "000640d6b7238000 08",
    (
      refl,
      inr record {
        value_bytes = hex "000640d6b7238000";
        hour_bytes = hex "08";
        hours = pos 8;
        parts = refl;
        value = record { len = refl; value = refl };
        hour = record { len = refl; value = refl };
        offset = refl;
      },
    ),
  );
}

pub container_documents : ContainerDocuments
unfolding word is_utf8 chars lib.Utf8.encode
container_documents = record {
  of_no_items = Doc-canon (items []) tt (lit< tt, tt);
  of_no_members = Doc-canon (members []) (tt, tt) (lit< tt, tt);
  of_truths = Doc-canon (items (boolean false ∷ boolean true ∷ [])) (tt, (tt, tt))
      (lit< tt, ((lit< tt, (tt, lit< tt)), ((lit< tt, (tt, lit< tt)), tt)));
  of_array_in_array = Doc-canon
      (items (whole 1 ∷ string "hello" ∷ items (whole 1 ∷ whole 2 ∷ whole 3 ∷ []) ∷ []))
      (lit< tt, (utf8 _ refl, ((lit< tt, (lit< tt, (lit< tt, tt))), tt))) (
        lit< tt,
        (
          (lit< tt, (tt, lit< tt)),
          (
            (lit< tt, (tt, lit< tt)),
            (
              (
                lit< tt,
                (
                  (
                    lit< tt,
                    (
                      (lit< tt, (tt, lit< tt)),
                      (
                        (lit< tt, (tt, lit< tt)),
                        ((lit< tt, (tt, lit< tt)), tt),
                      ),
                    ),
                  ),
                  lit< tt,
                ),
              ),
              tt,
            ),
          ),
        ),
      );
  of_two_members = Doc-canon (members (("a", whole 1) ∷ ("b", string "123") ∷ []))
      ((tt, (refl, tt)), (utf8 _ refl, (lit< tt, (utf8 _ refl, (utf8 _ refl, tt)))))
      (lit< tt, ((lit< tt, (tt, lit< tt)), ((lit< tt, (tt, lit< tt)), tt)));
  of_array_in_object = Doc-canon (members (("arr", items (boolean false ∷ [])) ∷ []))
      ((tt, tt), (utf8 _ refl, ((tt, tt), tt)))
      (lit< tt, ((lit< tt, ((lit< tt, ((lit< tt, (tt, lit< tt)), tt)), lit< tt)), tt));
  of_object_in_object = Doc-canon (members (("obj", members (("field", boolean true) ∷ [])) ∷ []))
      ((tt, tt), (utf8 _ refl, (((tt, tt), (utf8 _ refl, (tt, tt))), tt)))
      (lit< tt, ((lit< tt, ((lit< tt, ((lit< tt, (tt, lit< tt)), tt)), lit< tt)), tt));
}

pub no_documents : NoDocuments
unfolding word is_utf8 chars lib.Utf8.encode
no_documents = record {
  no_bytes = λ d. omega (arith, document_room d.0 [] d.1);
  other_header = λ d.
      let read : Read (2 ^ 29) 0 0 [] (hex "00000000") =
      record { found = refl; high = refl; number = lit< tt; small = lit< tt } in
      omega (
        arith,
        two_kinds d.0,
        kind_is read d.0 (document_container read (λ e. omega arith) d.0 d.1),
      );
  text_of_digits = no_count 0x11323334 (hex "35363738") (lit< tt) (λ e. omega arith);
  count_in_scalar = no_count 1 (hex "00000000") (lit< tt) (λ e. omega arith);
  no_entry = λ d. omega (
    arith,
    scalar_entry 0 [] (lit< tt) d.0
        (document_scalar (header 0 [] (lit< tt)) refl d.0 d.1).1,
  );
  top_bit_of_entry = no_scalar 0x80000000 0 [] refl (lit< tt) (lit< tt)
      (λ len other t h. omega (arith, types t, h.0));
  type_seven = no_scalar 0x70000000 0 [] refl (lit< tt) (lit< tt)
      (λ len other t h. omega (arith, types t, h.0));
  null_with_length = no_scalar 0 1 (hex "00") refl (lit< tt) (lit< tt)
      (λ len other t h. grind (
        arith,
        (HasPayload-empty (depth t) 0 (hex "00") (inl refl)).1 (t, (omega arith, h)),
      ));
  array_in_scalar = no_scalar 0x50000000 4 (hex "80000000") refl (lit< tt) (lit< tt)
      (λ len other t h. other refl);
  not_utf8 = no_scalar 0x10000000 1 (hex "ff") refl (lit< tt) (lit< tt)
      (λ len other t h. grind (arith, is_utf8-from_IsUtf8 _ (text_after t (hex "ff") h.0 h.1)));
  byte_after_zero = no_scalar 0x20000000 2 (hex "0000") refl (lit< tt) (lit< tt)
      (λ len other t h. let x = number_after t (hex "0000") h.0 h.1 in
      grind (arith, NumCode-first 0 (0 ∷ []) x.0 x.1));
  payload_cut = no_scalar 0x10000000 3 (hex "6173") refl (lit< tt) (lit< tt)
      (λ len other t h. omega (arith, len));
  byte_left_over = no_scalar 0x10000000 3 (hex "61736400") refl (lit< tt) (lit< tt)
      (λ len other t h. omega (arith, len));
  entries_cut = no_array 536870911 [] (lit< tt)
      (λ ts a. omega (arith, array_room 536870911 [] ts a));
  top_bit_in_array = no_child 0x80000000 0 [] refl (lit< tt) (lit< tt)
      (λ t h. omega (arith, types t, h.0));
  scalar_in_array = no_child 0x50000000 8 (hex "20000000 00000000") refl (lit< tt) (lit< tt)
      (λ t h. omega (arith, two_kinds t, kind_is (header 0 (hex "00000000") (lit< tt)) t h));
  keys_descend = no_keys 0x62 0x61 (λ e. grind arith);
  keys_equal = no_keys 0x61 0x61 (λ e. grind arith);
  key_no_string = no_object 1 (hex "00000000 00000000") (lit< tt) (λ ps a.
      let read : Read (2 ^ 28) 0 0 [] (hex "00000000") =
      record { found = refl; high = refl; number = lit< tt; small = lit< tt } in
      let found = object_onward {ke = hex "00000000"} {later = hex "00000000"}
      {ve = hex "00000000"} {p = []} refl refl refl refl refl refl (pair_depths ps)
      (ps, (omega arith, a)) in
      omega (arith, ((keys_iff read None [] found.0).1 found.1.0).is_text));
  after_object = λ d. grind (
    arith,
    Doc-prefix_free
        (hex "40000002 10000001 10000001 20000002 10000003 61 62 5001 313233") (0 ∷ []) _ d.0
        container_documents.of_two_members d.1,
  );
}
