-- Names of which some bytes were read, and lists of names of which some were read.
use Rattle.std.proofs.Common.{◌≡◌, ◌<◌, ◌≤◌, ℕ, List, [], ◌∷◌, ◌++◌, length, take, drop}
use Rattle.std.proofs.Common.{get_or, refl, sym, ap, subst, ◌∙◌, arith, one-add, true, false, Bool}
use Rattle.std.proofs.Common.{append_assoc}
use Rattle.std.specs.Prelude.{Option, None, Some, ◌↔◌}
use Rattle.std.specs.List.{prefix_len}
use Rattle.std.specs.Str.{IsCharBoundary, IsUtf8}
use Rattle.std.proofs.lemmas.Str.{IsCharBoundary-after_ascii}
use Rattle.std.proofs.lemmas.List.{append-nil}
use Rattle.std.proofs.lemmas.List.Sums.{prefix_len-le-length, prefix_len_stops}
use Rattle.jsonb_functions.specs.PathText.{StopsAt}
use Rattle.jsonb_functions.specs.Names.{with_byte, AreNames}
use Rattle.jsonb_functions.proofs.PathTextLaws.{back_stops}

-- The bytes in front of what was read.
abbrev pub joined : List ℕ → Option (List ℕ × List ℕ) → Option (List ℕ × List ℕ)
joined front None = None
joined front (Some (name, rest)) = Some (front ++ name, rest)

joined_twice : (a b : List ℕ) (read : Option (List ℕ × List ℕ))
    → joined a (joined b read) ≡ joined (a ++ b) read
joined_twice a b None = refl
joined_twice a b (Some (name, rest)) = ap (λ n. Some (n, rest)) (sym (append_assoc a b name))

byte_joined : (c : ℕ) (front : List ℕ) (read : Option (List ℕ × List ℕ))
    → with_byte c (joined front read) ≡ joined (c ∷ front) read
byte_joined c front None = refl
byte_joined c front (Some (name, rest)) = refl

pub none_joined : (read : Option (List ℕ × List ℕ)) → read ≡ joined [] read
none_joined None = refl
none_joined (Some (name, rest)) = refl

one_joined : (c : ℕ) (read : Option (List ℕ × List ℕ)) → with_byte c read ≡ joined (c ∷ []) read
one_joined c None = refl
one_joined c (Some (name, rest)) = refl

-- The text may be cut where the bytes that pass a test end, if what fails it is ASCII.
pub run_boundary : (test : ℕ → Bool) → ((c : ℕ) → test c ≡ false → c < 128) → (text : List ℕ)
    (n : ℕ) → n ≡ prefix_len test text → IsCharBoundary text n
run_boundary test low text n e = (
  rw e (prefix_len-le-length test text),
  λ within high.
      let inside : prefix_len test text < length text = rw (← e) within in
      let last : get_or text n 0 < 128 = rw e (low _ (prefix_len_stops test text 0 inside)) in
      absurd (omega (arith, high, last)),
)

-- A reader that takes bytes that pass a test as they are.
module _ (read : List ℕ → Option (List ℕ × List ℕ)) (test : ℕ → Bool)
    (takes : (c : ℕ) (bytes : List ℕ) → test c ≡ true
    → read (c ∷ bytes) ≡ with_byte c (read bytes)) where
  run_more : (c : ℕ) (bytes : List ℕ) (b : Bool) → test c ≡ b
      → read bytes ≡ joined (take (prefix_len test bytes) bytes)
      (read (drop (prefix_len test bytes) bytes))
      → read (c ∷ bytes) ≡ joined (take (prefix_len test (c ∷ bytes)) (c ∷ bytes))
      (read (drop (prefix_len test (c ∷ bytes)) (c ∷ bytes)))
  run_more c bytes true e h =
      rw (e, one-add) (takes c bytes e ∙ ap (λ x. with_byte c x) h
      ∙ byte_joined c (take (prefix_len test bytes) bytes)
      (read (drop (prefix_len test bytes) bytes)))
  run_more c bytes false e h = rw e (none_joined (read (c ∷ bytes)))

  pub run_read : (bytes : List ℕ) → read bytes ≡ joined (take (prefix_len test bytes) bytes)
      (read (drop (prefix_len test bytes) bytes))
  run_read [] = none_joined (read [])
  run_read (c ∷ bytes) = run_more c bytes (test c) refl (run_read bytes)

  -- After a run of such bytes.
  pub run_on : (whole : Option (List ℕ × List ℕ)) (name run now left rest : List ℕ) (n : ℕ)
      → whole ≡ joined name (read left) → n ≡ prefix_len test left
      → run ≡ take n left → rest ≡ drop n left → now ≡ name ++ run
      → whole ≡ joined now (read rest)
  run_on whole name run now left rest n h e front back is =
      h ∙ ap (λ x. joined name x) (run_read left)
      ∙ joined_twice name (take (prefix_len test left) left)
      (read (drop (prefix_len test left) left))
      ∙ ap (λ k. joined (name ++ take k left) (read (drop k left))) (sym e)
      ∙ ap (λ x. joined (name ++ x) (read (drop n left))) (sym front)
      ∙ ap (λ x. joined (name ++ run) (read x)) (sym back)
      ∙ ap (λ x. joined x (read rest)) (sym is)

  -- After one more byte, which was written in another way.
  pub byte_on : (whole : Option (List ℕ × List ℕ)) (name now rest more : List ℕ) (c : ℕ)
      → whole ≡ joined name (read rest) → read rest ≡ with_byte c (read more)
      → now ≡ name ++ (c ∷ []) → whole ≡ joined now (read more)
  byte_on whole name now rest more c h e is =
      h ∙ ap (λ x. joined name x) (e ∙ one_joined c (read more))
      ∙ joined_twice name (c ∷ []) (read more)
      ∙ ap (λ x. joined x (read more)) (sym is)

-- The name ends where nothing of it is left.
pub name_ends : (whole : Option (List ℕ × List ℕ)) (name rest : List ℕ)
    (left : Option (List ℕ × List ℕ)) → whole ≡ joined name left → left ≡ Some ([], rest)
    → Some (name, rest) ≡ whole
name_ends whole name rest left h e =
    sym (h ∙ ap (λ x. joined name x) e ∙ ap (λ x. Some (x, rest)) (append-nil name))

pub no_name : (whole : Option (List ℕ × List ℕ)) (name : List ℕ)
    (left : Option (List ℕ × List ℕ)) → whole ≡ joined name left → left ≡ None → None ≡ whole
no_name whole name left h e = sym (h ∙ ap (λ x. joined name x) e)

-- Two names that are read alike are the same.
pub same_read : (name rest other more : List ℕ)
    → ◌≡◌ {A = Option (List ℕ × List ℕ)} (Some (name, rest)) (Some (other, more))
    → (name ≡ other) × (rest ≡ more)
same_read name rest other more e =
    let both : ◌≡◌ {A = List ℕ × List ℕ} (name, rest) (other, more) = cc in
    (ap (λ x. x.0) both, ap (λ x. x.1) both)

-- A name was not both read and not read.
pub none_some : (name rest : List ℕ)
    → ◌≡◌ {A = Option (List ℕ × List ℕ)} None (Some (name, rest)) → ⊥
none_some name rest e = let never : ⊥ = cc in never

-- A name with a byte in front of it was read, so a name was.
pub without_byte : (c : ℕ) (read : Option (List ℕ × List ℕ)) (name rest : List ℕ)
    → with_byte c read ≡ Some (name, rest)
    → (front : List ℕ) × (read ≡ Some (front, rest)) × (name ≡ c ∷ front)
without_byte c None name rest e = absurd (none_some name rest e)
without_byte c (Some (front, more)) name rest e =
    let same = same_read (c ∷ front) more name rest e in
    (front, ap (λ x. Some (front, x)) same.1, sym same.0)

-- Some of the names of a text were read: what follows them leads on, and all its names begin with
-- them.
pub record IsRead (Whole : List (List ℕ) → Type 0)
    (read : List ℕ → Option (List ℕ × List ℕ)) (end left : List ℕ) (names : List (List ℕ))
    : Type 0 where
  pub going : (others : List (List ℕ)) → AreNames read end left others → Whole (names ++ others)
  pub only : (all : List (List ℕ)) → Whole all
      → (others : List (List ℕ)) × ((all ≡ names ++ others) × AreNames read end left others)

module _ (Whole : List (List ℕ) → Type 0) (read : List ℕ → Option (List ℕ × List ℕ))
    (end : List ℕ) where
  one_only : (left rest name : List ℕ) (names new : List (List ℕ)) → (left ≡ end → ⊥)
      → read left ≡ Some (name, rest)
      → ((others : List (List ℕ)) → new ++ others ≡ names ++ (name ∷ others))
      → (all others : List (List ℕ)) → all ≡ names ++ others → AreNames read end left others
      → (more : List (List ℕ)) × ((all ≡ new ++ more) × AreNames read end rest more)
  one_only left rest name names new some is moved all [] e are = absurd (some are)
  one_only left rest name names new some is moved all (other ∷ others) e are =
      let same = same_read other are.0 name rest (sym are.1 ∙ is) in (
        others,
        (
          e ∙ ap (λ x. names ++ (x ∷ others)) same.0 ∙ sym (moved others),
          subst (λ x. AreNames read end x others) same.1 are.2,
        ),
      )

  -- One more name was read.
  pub name_on : (left rest name : List ℕ) (names new : List (List ℕ)) → (left ≡ end → ⊥)
      → read left ≡ Some (name, rest) → new ≡ names ++ (name ∷ [])
      → IsRead Whole read end left names → IsRead Whole read end rest new
  name_on left rest name names new some is e h =
      let moved : (others : List (List ℕ)) → new ++ others ≡ names ++ (name ∷ others) =
      λ others. ap (λ x. x ++ others) e ∙ append_assoc names (name ∷ []) others in
      record {
        going = λ others are.
            subst Whole (sym (moved others)) (h.going (name ∷ others) (rest, is, are));
        only = λ all whole.
            let was = h.only all whole in
            one_only left rest name names new some is moved all was.0 was.1.0 was.1.1;
      }

  none_here : (left : List ℕ) → (left ≡ end → ⊥) → read left ≡ None
      → (others : List (List ℕ)) → AreNames read end left others → ⊥
  none_here left some is [] are = some are
  none_here left some is (other ∷ others) are =
      let never : ⊥ = cc (is, are.1) in never

  -- There is no name where one has to be.
  pub none_read : (left : List ℕ) (names : List (List ℕ)) → (left ≡ end → ⊥)
      → read left ≡ None → IsRead Whole read end left names → (all : List (List ℕ))
      → Whole all ↔ ◌≡◌ {A = Option (List (List ℕ))} None (Some all)
  none_read left names some is h all = (
    λ whole. let was = h.only all whole in absurd (none_here left some is was.0 was.1.1),
    λ e. let never : ⊥ = cc in absurd never,
  )

  no_more : read end ≡ None → (others : List (List ℕ)) → AreNames read end end others
      → others ≡ []
  no_more ends [] are = refl
  no_more ends (other ∷ others) are = let never : ⊥ = cc (ends, are.1) in absurd never

  -- All names were read.
  pub all_read : read end ≡ None → (left : List ℕ) (names : List (List ℕ)) → left ≡ end
      → IsRead Whole read end left names → (all : List (List ℕ))
      → Whole all ↔ (Some names ≡ Some all)
  all_read ends left names at h all = (
    λ whole.
        let was = h.only all whole in
        let last : was.0 ≡ [] =
        no_more ends was.0 (subst (λ x. AreNames read end x was.0) at was.1.1) in
        ap (λ x. Some x) (sym (was.1.0 ∙ ap (λ x. names ++ x) last ∙ append-nil names)),
    λ e.
        let same : names ≡ all = cc in
        subst Whole (append-nil names ∙ same) (h.going [] at),
  )

-- Where the bytes that pass a test end.
pub stops_there : (test : ℕ → Bool) (left rest : List ℕ) (n : ℕ) → n ≡ prefix_len test left
    → rest ≡ drop n left → StopsAt test rest
stops_there test left rest n e is =
    subst (λ x. StopsAt test x) (sym (is ∙ ap (λ k. drop k left) e)) (back_stops test left)

-- The text may be cut after a first byte that is ASCII.
pub after_mark : (text bytes : List ℕ) → IsUtf8 text → bytes ≡ text → 1 ≤ length bytes
    → get_or bytes 0 0 < 128 → IsCharBoundary text 1
after_mark text bytes is same some low =
    IsCharBoundary-after_ascii text 0 is (omega (arith, some, ap length same))
    (rw same at low)
