-- Words and payloads at offsets in byte strings.
use Rattle.std.proofs.Common.{◌≡◌, ℕ, ◌+◌, ◌-◌, ◌%◌, ◌^◌, ◌<◌, ◌≤◌, List, [], ◌++◌, length, take}
use Rattle.std.proofs.Common.{drop, Ok, refl, sym, ap, ◌∙◌, arith, length-append, append_assoc}
use Rattle.std.proofs.Common.{append-nil, le-leb}
use Rattle.std.proofs.lemmas.Nat.{from_be_bytes-to_be_bytes_4}
use Rattle.std.proofs.lemmas.List.{take-append-le}
use Rattle.std.proofs.Math.Seq.{take-append_seam}
use Rattle.jsonb_value.proofs.ExtCodes.{back_of}
use Rattle.jsonb_codec.specs.WordBytes.{word, word_at, header_of, header_at}
use Rattle.jsonb_codec.specs.JEntry.{jentry_at}
use Rattle.jsonb.specs.Entry.{part_at}

-- the bytes have xs at offset i
pub record At (bytes : List ℕ) (i : ℕ) (xs : List ℕ) : Type 0 where
  pub front : List ℕ
  pub rest : List ℕ
  pub parts : bytes ≡ front ++ (xs ++ rest)
  pub place : i ≡ length front

pub At-all : (bytes xs : List ℕ) → bytes ≡ xs → At bytes 0 xs
At-all bytes xs e = record { front = []; rest = []; parts = e ∙ sym (append-nil xs); place = refl }

pub At-whole : (bytes : List ℕ) (xs ys : List ℕ) → bytes ≡ xs ++ ys → At bytes 0 xs
At-whole bytes xs ys e = record { front = []; rest = ys; parts = e; place = refl }

pub At-left : (bytes : List ℕ) (i : ℕ) (xs ys : List ℕ) → At bytes i (xs ++ ys) → At bytes i xs
At-left bytes i xs ys h = record {
  front = h.front;
  rest = ys ++ h.rest;
  parts = cc (h.parts, append_assoc xs ys h.rest);
  place = h.place;
}

pub At-right : (bytes : List ℕ) (i j : ℕ) (xs ys : List ℕ) → j ≡ i + length xs
    → At bytes i (xs ++ ys) → At bytes j ys
At-right bytes i j xs ys e h = record {
  front = h.front ++ xs;
  rest = h.rest;
  parts = cc (h.parts, append_assoc xs ys h.rest, append_assoc h.front xs (ys ++ h.rest));
  place = omega (arith, h.place, length-append h.front xs);
}

drop-At : (bytes : List ℕ) (i : ℕ) (xs : List ℕ) (h : At bytes i xs) → drop i bytes ≡ xs ++ h.rest
drop-At bytes i xs h = back_of i h.front (xs ++ h.rest) bytes h.parts (sym h.place)

pub take-At : (bytes : List ℕ) (i : ℕ) (xs : List ℕ) → At bytes i xs
    → take (length xs) (drop i bytes) ≡ xs
take-At bytes i xs h = cc (drop-At bytes i xs h, take-append_seam xs h.rest)

pub within-At : (bytes : List ℕ) (i : ℕ) (xs : List ℕ) → At bytes i xs
    → i + length xs ≤ length bytes
within-At bytes i xs h = omega (
  arith,
  ap length h.parts,
  length-append h.front (xs ++ h.rest),
  length-append xs h.rest,
  h.place,
)

-- reading the bytes at an offset
pub part_at-At : (bytes : List ℕ) (i n : ℕ) (xs : List ℕ) → n ≡ length xs → At bytes i xs
    → part_at bytes i n ≡ Ok xs
unfolding part_at
part_at-At bytes i n xs e h =
    let inside = within-At bytes i xs h in
    let test = le-leb (i + n) (length bytes) (omega arith) in
    rw test (cc (e, take-At bytes i xs h))

-- a word inside the bytes at an offset
pub word_at-within : (bytes : List ℕ) (i : ℕ) (xs : List ℕ) → At bytes i xs → 4 ≤ length xs
    → word_at bytes i ≡ word_at xs 0
word_at-within bytes i xs h long =
    let inside = within-At bytes i xs h in
    let test = le-leb (i + 4) (length bytes) (omega arith) in
    let own = le-leb 4 (length xs) long in
    rw (test, own) (cc (drop-At bytes i xs h, take-append-le 4 xs h.rest long))

length-word : (k : ℕ) → length (word k) ≡ 4
unfolding word
length-word k = refl

pub length-word-append : (k : ℕ) (xs : List ℕ) → length (word k ++ xs) ≡ 4 + length xs
length-word-append k xs = cc (length-append (word k) xs, length-word k)

pub At-after_word : (bytes : List ℕ) (i j k : ℕ) (xs : List ℕ) → j ≡ i + 4
    → At bytes i (word k ++ xs) → At bytes j xs
At-after_word bytes i j k xs e h =
    At-right bytes i j (word k) xs (cc (e, length-word k)) h

-- a word at an offset
pub word_at-At : (bytes : List ℕ) (i k : ℕ) → k < 2 ^ 32 → At bytes i (word k)
    → word_at bytes i ≡ Ok k
unfolding word
word_at-At bytes i k small h = word_at-within bytes i (word k) h (omega (arith, length-word k))
    ∙ ap Ok (from_be_bytes-to_be_bytes_4 k small)

-- a header at offset 0
pub header_at-At : (bytes : List ℕ) (k : ℕ) → k < 2 ^ 32 → At bytes 0 (word k)
    → header_at bytes 0 ≡ header_of k
header_at-At bytes k small h = cc (word_at-At bytes 0 k small h)

pub header_of-array : (n : ℕ) → n < 2 ^ 29 → header_of (2147483648 + n) ≡ Ok (2147483648, n)
header_of-array n h =
    let low : (2147483648 + n) % 2 ^ 29 ≡ n = omega arith in
    let high : 2147483648 + n - n ≡ 2147483648 = omega arith in
    rw (low, high)

pub header_of-object : (n : ℕ) → n < 2 ^ 29 → header_of (1073741824 + n) ≡ Ok (1073741824, n)
header_of-object n h =
    let low : (1073741824 + n) % 2 ^ 29 ≡ n = omega arith in
    let high : 1073741824 + n - n ≡ 1073741824 = omega arith in
    rw (low, high)

pub header_of-scalar : header_of 536870912 ≡ Ok (536870912, 0)
header_of-scalar = refl

-- a type of an entry
pub record IsTag (type : ℕ) : Type 0 where
  pub step : type % 2 ^ 28 ≡ 0
  pub room : type + 2 ^ 28 ≤ 2 ^ 31

-- an entry word at an offset
pub jentry_at-At : (bytes : List ℕ) (i type n : ℕ) → IsTag type → n < 2 ^ 28
    → At bytes i (word (type + n)) → jentry_at bytes i ≡ Ok record { type_code = type; length = n }
jentry_at-At bytes i type n tag short h =
    let step = tag.step in
    let room = tag.room in
    let low : (type + n) % 2 ^ 28 ≡ n = omega arith in
    let all : (type + n) % 2 ^ 31 ≡ type + n = omega arith in
    let high : type + n - n ≡ type = omega arith in
    rw (word_at-At bytes i (type + n) (omega arith) h, low, all, high)
