-- Payloads with heads and parts put in.
use Rattle.std.proofs.Common.{◌≡◌, ℕ, ◌-◌, ◌≤◌, sym, ap, subst, ◌∙◌, List, [], ◌∷◌}
use Rattle.std.proofs.Common.{◌++◌, length, arith, length-append, take, drop}
use Rattle.std.proofs.lemmas.List.{append_assoc, take-append-le, drop-append-le}
use Rattle.std.proofs.lemmas.List.{length-drop, drop-drop}
use Rattle.std.proofs.Math.Seq.{take-add, take-length}
use Rattle.jsonb_codec.specs.Tape.{cut, IsHeadFirst, Joined, no_place, head_place, part_place, Grows}
use Rattle.jsonb_codec.specs.declared.tape.place.Place.{Place}
use Rattle.jsonb_codec.specs.declared.tape.place.Place.TheVariants as place
use Rattle.jsonb_codec.specs.declared.tape.storage.Storage.{Storage}

-- ---- parts of lists

pub cut_grows : {A : Type 0} (a b : ℕ) (xs more : List A) → a ≤ b → b ≤ length xs
    → cut a b (xs ++ more) ≡ cut a b xs
cut_grows a b xs more low high =
    ap (take (b - a)) (drop-append-le a xs more (omega arith))
    ∙ take-append-le (b - a) (drop a xs) more (omega (arith, length-drop a xs))

pub cut_joins : {A : Type 0} (a b c : ℕ) (xs : List A) → a ≤ b → b ≤ c
    → cut a b xs ++ cut b c xs ≡ cut a c xs
cut_joins a b c xs low high =
    let from : drop (b - a) (drop a xs) ≡ drop b xs =
    drop-drop (b - a) a xs ∙ ap (λ n. drop n xs) (omega (arith, low)) in
    sym (ap (λ n. take n (drop a xs)) (omega (arith, low, high))
    ∙ take-add (b - a) (c - b) (drop a xs)
    ∙ ap (λ x. take (b - a) (drop a xs) ++ take (c - b) x) from)

pub cut_none : {A : Type 0} (a : ℕ) (xs : List A) → cut a a xs ≡ []
cut_none a xs = let none : a - a ≡ 0 = omega arith in ap (λ n. take n (drop a xs)) none

pub cut_rest : {A : Type 0} (a : ℕ) (xs : List A) → cut a (length xs) xs ≡ drop a xs
cut_rest a xs = ap (λ n. take n (drop a xs)) (sym (length-drop a xs)) ∙ take-length (drop a xs)

-- ---- growth

pub joined_grows : (old new : Storage) (a : ℕ) (ps : List Place) (b : ℕ) (r : List ℕ)
    → Grows old new → Joined old a ps b r → Joined new a ps b r
joined_grows old new a [] b r g (no_place _ _ _ low high same) =
    no_place a b r low
    (omega (arith, high, ap length g.payload, length-append old.payload.items g.more_payload))
    (same ∙ sym (ap (λ xs. cut a b xs) g.payload
    ∙ cut_grows a b old.payload.items g.more_payload low high))
joined_grows old new a (place.Head h ∷ ps) b all g (head_place _ _ _ _ r _ from at long heads rest
    same) =
    let before : cut a h.at old.payload.items ≡ cut a h.at new.payload.items =
    sym (ap (λ xs. cut a h.at xs) g.payload
    ∙ cut_grows a h.at old.payload.items g.more_payload from at) in
    let head : cut h.start h.end old.heads.items ≡ cut h.start h.end new.heads.items =
    sym (ap (λ xs. cut h.start h.end xs) g.heads
    ∙ cut_grows h.start h.end old.heads.items g.more_heads (omega arith) heads) in
    head_place a b h ps r all from
    (omega (arith, at, ap length g.payload, length-append old.payload.items g.more_payload)) long
    (omega (arith, heads, ap length g.heads, length-append old.heads.items g.more_heads))
    (joined_grows old new h.until ps b r g rest)
    (same ∙ ap (λ x. x ++ (cut h.start h.end old.heads.items ++ r)) before
    ∙ ap (λ x. cut a h.at new.payload.items ++ (x ++ r)) head)
joined_grows old new a (place.Part p ∷ ps) b all g
    (part_place _ _ _ _ q r _ low high front some size own rest same) =
    let places : cut p.first p.last old.moved.items ≡ cut p.first p.last new.moved.items =
    sym (ap (λ xs. cut p.first p.last xs) g.moved
    ∙ cut_grows p.first p.last old.moved.items g.more_moved low high) in
    part_place a b p ps q r all low
    (omega (arith, high, ap length g.moved, length-append old.moved.items g.more_moved))
    (subst IsHeadFirst places front) some size
    (subst (λ xs. Joined new p.start xs p.end q) places
    (joined_grows old new p.start (cut p.first p.last old.moved.items) p.end q g own))
    (joined_grows old new a ps b r g rest) same
joined_grows old new a (place.Open f ∷ ps) b r g h = elim h [ ]

-- ---- one after another

from_before : (s : Storage) (a b : ℕ) (qs : List Place) (c : ℕ) (p q : List ℕ) → a ≤ b
    → b ≤ length s.payload.items → p ≡ cut a b s.payload.items → IsHeadFirst qs
    → Joined s b qs c q → Joined s a qs c (p ++ q)
from_before s a b [] c p q low high is front (no_place _ _ _ low2 high2 same) =
    no_place a c (p ++ q) (omega arith) high2
    (ap (λ x. x ++ q) is ∙ ap (λ x. cut a b s.payload.items ++ x) same
    ∙ cut_joins a b c s.payload.items low low2)
from_before s a b (place.Head h ∷ qs) c p q low high is front
    (head_place _ _ _ _ r _ from at long heads rest same) =
    head_place a c h qs r (p ++ q) (omega arith) at long heads rest
    (ap (λ x. x ++ q) is ∙ ap (λ x. cut a b s.payload.items ++ x) same
    ∙ sym (append_assoc (cut a b s.payload.items) (cut b h.at s.payload.items)
    (cut h.start h.end s.heads.items ++ r))
    ∙ ap (λ x. x ++ (cut h.start h.end s.heads.items ++ r))
    (cut_joins a b h.at s.payload.items low from))
from_before s a b (place.Part x ∷ qs) c p q low high is front h = absurd front
from_before s a b (place.Open f ∷ qs) c p q low high is front h = absurd front

pub joined_append : (s : Storage) (a b c : ℕ) (ps qs : List Place) (p q : List ℕ)
    → Joined s a ps b p → IsHeadFirst qs → Joined s b qs c q → Joined s a (ps ++ qs) c (p ++ q)
joined_append s a b c [] qs p q (no_place _ _ _ low high same) front h =
    from_before s a b qs c p q low high same front h
joined_append s a b c (place.Head x ∷ ps) qs p q
    (head_place _ _ _ _ r _ from at long heads rest same) front h =
    let before = cut a x.at s.payload.items in
    let head = cut x.start x.end s.heads.items in
    head_place a c x (ps ++ qs) (r ++ q) (p ++ q) from at long heads
    (joined_append s x.until b c ps qs r q rest front h)
    (ap (λ y. y ++ q) same ∙ append_assoc before (head ++ r) q
    ∙ ap (λ y. before ++ y) (append_assoc head r q))
joined_append s a b c (place.Part x ∷ ps) qs p q
    (part_place _ _ _ _ o r _ low high first some size own rest same) front h =
    part_place a c x (ps ++ qs) o (r ++ q) (p ++ q) low high first some size own
    (joined_append s a b c ps qs r q rest front h)
    (ap (λ y. y ++ q) same ∙ append_assoc o r q)
joined_append s a b c (place.Open f ∷ ps) qs p q h front j = elim h [ ]

-- payloads without places
pub joined_plain : (s : Storage) (a : ℕ) (more : List ℕ) → a ≤ length s.payload.items
    → drop a s.payload.items ≡ more → Joined s a [] (length s.payload.items) more
joined_plain s a more low same =
    no_place a (length s.payload.items) more low (omega arith)
    (sym same ∙ sym (cut_rest a s.payload.items))
