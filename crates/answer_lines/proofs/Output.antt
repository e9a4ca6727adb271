-- What several writes append, one after another.
use Rattle.std.proofs.Common.{◌≡◌, ℕ, List, [], ◌++◌, take, drop, refl, ap, append_assoc}
use Rattle.std.proofs.lemmas.List.{append-nil, take-append-drop}
use Rattle.std.specs.Prelude.{Option, Some, None}
use Rattle.std.specs.Io.KnownBytes.{Appends}
use Rattle.answer_lines.specs.Output.{AppendsPrefix, AppendsAllBut}

-- the bytes that a reader or a writer holds, where they are known
abbrev pub Known : Type 0
Known = Option (List ℕ)

pub appends_nothing : (known : Known) → Appends known known []
appends_nothing None = tt
appends_nothing (Some xs) = rw append-nil

pub appends_both : (a b c : Known) (xs ys : List ℕ) → Appends a b xs → Appends b c ys
    → Appends a c (xs ++ ys)
appends_both None b c xs ys first second = tt
appends_both (Some a) (Some b) (Some c) xs ys first second = rw (← append_assoc, ← first) second
appends_both (Some a) (Some b) None xs ys first second = second
appends_both (Some a) None c xs ys first second = absurd first

pub all_but_begins : {old : Known} {bytes : List ℕ} → AppendsAllBut bytes old old bytes
all_but_begins = record { written = []; parts = refl; appends = appends_nothing _ }

pub all_but_more : {rest left bytes : List ℕ} {old mid new : Known} (n : ℕ)
    → AppendsAllBut rest old mid bytes → Appends mid new (take n rest) → left ≡ drop n rest
    → AppendsAllBut left old new bytes
all_but_more {rest = rest} n so_far more is = rw is (record {
  written = so_far.written ++ take n rest;
  parts = simp (append_assoc, take-append-drop) so_far.parts;
  appends = appends_both _ _ _ _ _ so_far.appends more;
})

-- ---- a prefix of what was to be appended

pub prefix_of_all : {old new : Known} {bytes : List ℕ} → Appends old new bytes
    → AppendsPrefix old new bytes
prefix_of_all all = record { written = _; unwritten = []; parts = rw append-nil; appends = all }

pub prefix_of_more : {old new : Known} {xs : List ℕ} (ys : List ℕ)
    → AppendsPrefix old new xs → AppendsPrefix old new (xs ++ ys)
prefix_of_more ys start = record {
  written = start.written;
  unwritten = start.unwritten ++ ys;
  parts = rw append_assoc at (ap (λ zs. zs ++ ys) start.parts);
  appends = start.appends;
}

pub prefix_after_all : {old mid new : Known} (xs : List ℕ) {ys : List ℕ}
    → Appends old mid xs → AppendsPrefix mid new ys → AppendsPrefix old new (xs ++ ys)
prefix_after_all xs first start = record {
  written = xs ++ start.written;
  unwritten = start.unwritten;
  parts = rw append_assoc (ap (λ zs. xs ++ zs) start.parts);
  appends = appends_both _ _ _ _ _ first start.appends;
}

-- ---- bytes that are buffered after those that were appended

-- the buffered bytes were appended, and then more
pub all_but_none : {old new : Known} (mid : Known) {rest : List ℕ}
    (xs ys : List ℕ) → rest ≡ [] → Appends old mid xs → Appends mid new ys
    → AppendsAllBut rest old new (xs ++ ys)
all_but_none mid xs ys none first second = rw none (record {
  written = xs ++ ys;
  parts = rw append-nil;
  appends = appends_both _ mid _ _ _ first second;
})

pub all_but_waits : {old mid new : Known} {bytes waiting waiting' : List ℕ}
    (more : List ℕ) → AppendsAllBut waiting old mid bytes
    → AppendsAllBut waiting' mid new (waiting ++ more)
    → AppendsAllBut waiting' old new (bytes ++ more)
all_but_waits more so_far then = record {
  written = so_far.written ++ then.written;
  parts = rw (append_assoc, ← then.parts)
      (rw append_assoc at (ap (λ zs. zs ++ more) so_far.parts));
  appends = appends_both _ _ _ _ _ so_far.appends then.appends;
}

pub all_but_faults : {old mid new : Known} {bytes waiting : List ℕ} (more : List ℕ)
    → AppendsAllBut waiting old mid bytes → AppendsPrefix mid new (waiting ++ more)
    → AppendsPrefix old new (bytes ++ more)
all_but_faults more so_far then =
    rw (so_far.parts, append_assoc) (prefix_after_all so_far.written so_far.appends then)
