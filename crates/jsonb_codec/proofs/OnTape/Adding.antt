-- A value that is added to the tape.
use Rattle.std.proofs.Common.{◌≡◌, ℕ, ◌+◌, ◌<◌, ◌≤◌, ◌^◌, refl, sym, ap, subst, ◌∙◌, List, [], ◌∷◌}
use Rattle.std.proofs.Common.{◌++◌, ◌-◌, length, arith, drop, Bool, false, Option, Some, None}
use Rattle.std.proofs.Common.{get_or, set, length-append}
use Rattle.std.proofs.lemmas.List.{set_at}
use Rattle.std.specs.Ordering.{nat_cmp}
use Rattle.std.specs.Cmp.Lexicographic.{slice_cmp}
use Rattle.std.specs.BTreeMap.{insert_entry}
use Rattle.jsonb_value.specs.Json.Syntax.{Entries}
use Rattle.std.specs.Prelude.{IfSome, IfNone, ⊤}
use Rattle.jsonb_value.specs.Tree.{Tree}
use Rattle.jsonb_value.specs.Reader.Resume.{Content, items, members, at_key, put}
use Rattle.jsonb_codec.specs.WordBytes.{word}
use Rattle.jsonb_codec.specs.Shape.{FitsEntry}
use Rattle.jsonb_codec.specs.Canon.{shape_of}
use Rattle.jsonb_codec.specs.Tape.{IsMade, AreOpen, HasValuesIfFit, IsPartIfFit, tape_is}
use Rattle.jsonb_codec.specs.declared.tape.Tape.{Tape}
use Rattle.jsonb_codec.specs.declared.tape.entry.Entry.{Entry}
use Rattle.jsonb_codec.specs.declared.tape.member.Member.{Member}
use Rattle.jsonb_codec.specs.declared.tape.place.Frame.{Frame}
use Rattle.jsonb_codec.specs.declared.tape.place.Kind.{Kind}
use Rattle.jsonb_codec.specs.declared.tape.place.Kind.TheVariants as kind
use Rattle.jsonb_codec.specs.declared.tape.place.Place.{Place}
use Rattle.jsonb_codec.specs.declared.tape.storage.Storage.{Storage}
use Rattle.jsonb_codec.proofs.OnTape.Open.{IsSet, item_added, item_unfit, member_added, never_fits}
use Rattle.jsonb_codec.proofs.OnTape.Open.{part_set, values_more}

abbrev IsArray : Kind → Type 0
IsArray kind.Array = ⊤
IsArray _ = ⊥

abbrev IsObject : Kind → Type 0
IsObject kind.Object = ⊤
IsObject _ = ⊥

-- a value without an entry word does not fit
pub never_of : (s : Storage) (entry : Option Entry) (a b : ℕ) (qs : List Place) (t : Tree)
    → IsMade s entry a qs b t → IfSome entry (λ e. 2 ^ 28 ≤ e.size) → FitsEntry (shape_of t) → ⊥
never_of s None a b qs t made long fits = made fits.inside
never_of s (Some e) a b qs t made long fits = omega (arith, made.0.size, long, fits.short)

pub unfit_item : (old : Tape) (ps qs : List Place) (a : ℕ) (cs : List Content) (t : Tree)
    → old.inner.kind ≡ kind.Array → old.places.items ≡ ps ++ qs
    → AreOpen old.storage old.inner ps old.words.items old.members.items a cs
    → a ≤ length old.storage.payload.items → (FitsEntry (shape_of t) → ⊥)
    → tape_is (record old { inner = record old.inner { fits = false } }) (put t cs)
unfit_item old ps qs a [] t is places h low never =
    absurd (subst IsArray (sym is ∙ h.0) tt)
unfit_item old ps qs a (items front ∷ cs) t is places h low never =
    subst (λ xs. AreOpen old.storage (record old.inner { fits = false }) xs old.words.items
    old.members.items (length old.storage.payload.items) (items (front ++ t ∷ [])
    ∷ cs)) (sym places)
    (item_unfit old.storage old.inner ps qs old.words.items old.members.items a
    (length old.storage.payload.items) front cs t h never low)
unfit_item old ps qs a (members front ∷ cs) t is places h low never = tt
unfit_item old ps qs a (at_key front key ∷ cs) t is places h low never =
    absurd (subst IsArray (sym is ∙ h.0.kind_is) tt)

pub fit_item : (old new : Tape) (ps qs : List Place) (a : ℕ) (cs : List Content) (t : Tree)
    (entry : Option Entry) (w : ℕ) → old.inner.kind ≡ kind.Array → old.places.items ≡ ps ++ qs
    → AreOpen old.storage old.inner ps old.words.items old.members.items a cs
    → a ≤ length old.storage.payload.items
    → IsMade old.storage entry a qs (length old.storage.payload.items) t
    → IfSome entry (λ e. (w ≡ e.type_code + e.size) × (e.size < 2 ^ 28)) → (entry ≡ None → ⊥)
    → new.words.items ≡ old.words.items ++ word w → new.storage ≡ old.storage
    → new.inner ≡ old.inner → new.places ≡ old.places → new.members ≡ old.members
    → tape_is new (put t cs)
fit_item old new ps qs a cs t None w is places h low made fits some words s f p m =
    absurd (some refl)
fit_item old new ps qs a [] t (Some e) w is places h low made fits some words s f p m =
    absurd (subst IsArray (sym is ∙ h.0) tt)
fit_item old new ps qs a (items front ∷ cs) t (Some e) w is places h low made fits some words s f p
    m =
    let b = length old.storage.payload.items in
    let cs2 = items (front ++ t ∷ []) ∷ cs in
    let all = item_added old.storage old.inner ps qs old.words.items old.members.items a b w front
    cs t e h made.0 fits.1 fits.0 made.1.0 made.1.1 low in
    subst (λ x. AreOpen x new.inner new.places.items new.words.items new.members.items
    (length x.payload.items) cs2) (sym s)
    (subst (λ x. AreOpen old.storage x new.places.items new.words.items new.members.items b cs2)
    (sym f)
    (subst (λ x. AreOpen old.storage old.inner x new.words.items new.members.items b cs2)
    (sym (ap (λ v. v.items) p ∙ places))
    (subst (λ x. AreOpen old.storage old.inner (ps ++ qs) x new.members.items b cs2) (sym words)
    (subst (λ x. AreOpen old.storage old.inner (ps ++ qs) (old.words.items ++ word w) x.items b cs2)
    (sym m) all))))
fit_item old new ps qs a (members front ∷ cs) t (Some e) w is places h low made fits some words s f
    p m = tt
fit_item old new ps qs a (at_key front key ∷ cs) t (Some e) w is places h low made fits some words s
    f p m = absurd (subst IsArray (sym is ∙ h.0.kind_is) tt)

abbrev HasSome : {A : Type 0} → Option A → Type 0
HasSome None = ⊥
HasSome (Some x) = ⊤

pub some_made : (entry : Option Entry) (r : Option ℕ) (w : ℕ) → IfNone entry (r ≡ None)
    → r ≡ Some w → entry ≡ None → ⊥
some_made None r w none some is = subst HasSome (sym some ∙ none) tt
some_made (Some e) r w none some is = subst HasSome is tt

-- what is known of an entry word
pub record WordIs (entry : Option Entry) (word : Option ℕ) : Type 0 where
  pub some : IfSome word (λ w. IfSome entry (λ e. (w ≡ e.type_code + e.size) × (e.size < 2 ^ 28)))
  pub none : IfNone word (IfSome entry (λ e. 2 ^ 28 ≤ e.size))
  pub made : IfNone entry (word ≡ None)

-- the value of the last member was set
pub value_set : (s : Storage) (f : Frame) (ps qs : List Place) (ws : List ℕ) (ms new : List Member)
    (m n : Member) (a b size : ℕ) (cs : List Content) (t : Tree) (entry : Option Entry)
    (word : Option ℕ) (on : Bool) (front : Entries) (key : List ℕ)
    → AreOpen s f ps ws ms a (at_key front key ∷ cs) → a ≤ b → IsMade s entry a qs b t
    → WordIs entry word → IfSome entry (λ e. size ≡ e.size)
    → m ≡ get_or ms (length ms - 1) m → new ≡ set ms (length ms - 1) n
    → IsSet m n word b (length (ps ++ qs)) size → IfSome word (λ w. on ≡ f.fits)
    → IfNone word (on ≡ false)
    → AreOpen s (record f { fits = on }) (ps ++ qs) ws new b
    (members (insert_entry (slice_cmp nat_cmp) front key t) ∷ cs)
value_set s f ps qs ws ms new m n a b size cs t entry word on front key h low made is sized at
    setted
    put_in fits unfit =
    let before = h.0.before in
    let last = h.0.last in
    let count : length ms - 1 ≡ length before =
    omega (arith, ap length h.0.all, length-append before (last ∷ [])) in
    let same : m ≡ last =
    at ∙ ap (λ xs. get_or xs (length ms - 1) m) h.0.all
    ∙ ap (λ k. get_or (before ++ last ∷ []) k m) count
    ∙ get_last before last m in
    let written : new ≡ before ++ n ∷ [] =
    setted ∙ ap (λ xs. set xs (length ms - 1) n) h.0.all
    ∙ set_at before last [] n (length ms - 1) (sym count) in
    let placed = subst (λ x. IsSet x n word b (length (ps ++ qs)) size) same put_in in
    subst (λ xs. AreOpen s (record f { fits = on }) (ps ++ qs) ws xs b
    (members (insert_entry (slice_cmp nat_cmp) front key t) ∷ cs)) (sym written)
    (member_added s f on ps qs ws before last n a b front key cs t
    (subst (λ xs. AreOpen s f ps ws xs a (at_key front key ∷ cs)) h.0.all h) low placed.key
    placed.prefix (λ start first inside. part entry word made is sized placed start first inside)
    (λ ts values. more entry word made is fits unfit ts values))
  where
    get_last : (xs : List Member) (x d : Member) → get_or (xs ++ x ∷ []) (length xs) d ≡ x
    get_last [] x d = refl
    get_last (y ∷ xs) x d = get_last xs x d

    part : (entry : Option Entry) (word : Option ℕ) → IsMade s entry a qs b t → WordIs entry word
        → IfSome entry (λ e. size ≡ e.size)
        → IsSet h.0.last n word b (length (ps ++ qs)) size → h.0.last.part.start ≡ a
        → h.0.last.part.first ≡ length ps → f.place + 1 ≤ length ps
        → IsPartIfFit s (f.place + 1) (ps ++ qs) n.part n.word t
    part entry None made is sized placed start first inside =
        subst (λ x. IsPartIfFit s (f.place + 1) (ps ++ qs) n.part x t) (sym placed.word_is)
        (never_of s entry a b qs t made is.none)
    part None (Some w) made is sized placed start first inside =
        absurd (subst HasSome is.made tt)
    part (Some e) (Some w) made is sized placed start first inside =
        part_set s (f.place + 1) ps qs h.0.last n a b w t e
        (subst (IsSet h.0.last n (Some w) b (length (ps ++ qs))) sized placed) start first inside
        made.0 is.some.1 is.some.0 made.1.0 made.1.1

    more : (entry : Option Entry) (word : Option ℕ) → IsMade s entry a qs b t → WordIs entry word
        → IfSome word (λ w. on ≡ f.fits) → IfNone word (on ≡ false) → (ts : List Tree)
        → HasValuesIfFit f.fits s f.start (drop (f.place + 1) ps) a ts
        → HasValuesIfFit on s f.start (drop (f.place + 1) ps ++ qs) b (ts ++ t ∷ [])
    more entry None made is fits unfit ts values =
        subst (λ x. HasValuesIfFit x s f.start (drop (f.place + 1) ps ++ qs) b (ts ++ t ∷ []))
        (sym unfit) (never_fits s f.start b (drop (f.place + 1) ps ++ qs) ts t
        (never_of s entry a b qs t made is.none))
    more None (Some w) made is fits unfit ts values = absurd (subst HasSome is.made tt)
    more (Some e) (Some w) made is fits unfit ts values =
        subst (λ x. HasValuesIfFit x s f.start (drop (f.place + 1) ps ++ qs) b (ts ++ t ∷ []))
        (sym fits) (values_more f.fits s f.start a b (drop (f.place + 1) ps) qs ts t e values made.0
        is.some.1 made.1.0 made.1.1)

-- the tape after the value of the last member was set
pub tape_set : (old new : Tape) (ps qs : List Place) (a size : ℕ) (m n : Member)
    (cs : List Content) (t : Tree) (entry : Option Entry) (word : Option ℕ) (on : Bool)
    → old.inner.kind ≡ kind.Object → old.places.items ≡ ps ++ qs
    → AreOpen old.storage old.inner ps old.words.items old.members.items a cs
    → a ≤ length old.storage.payload.items
    → IsMade old.storage entry a qs (length old.storage.payload.items) t → WordIs entry word
    → IfSome entry (λ e. size ≡ e.size)
    → m ≡ get_or old.members.items (length old.members.items - 1) m
    → new.members.items ≡ set old.members.items (length old.members.items - 1) n
    → IsSet m n word (length old.storage.payload.items) (length old.places.items) size
    → IfSome word (λ w. on ≡ old.inner.fits) → IfNone word (on ≡ false)
    → new.storage ≡ old.storage → new.inner ≡ record old.inner { fits = on }
    → new.places ≡ old.places → new.words ≡ old.words → tape_is new (put t cs)
tape_set old new ps qs a size m n [] t entry word on is places h low made w sized at setted put_in
    fits unfit s f p ws = absurd (subst IsObject (sym is ∙ h.0) tt)
tape_set old new ps qs a size m n (items front ∷ cs) t entry word on is places h low made w sized at
    setted put_in fits unfit s f p ws = absurd (subst IsObject (sym is ∙ h.0.kind_is) tt)
tape_set old new ps qs a size m n (members front ∷ cs) t entry word on is places h low made w sized
    at setted put_in fits unfit s f p ws = tt
tape_set old new ps qs a size m n (at_key front key ∷ cs) t entry word on is places h low made w
    sized at setted put_in fits unfit s f p ws =
    let b = length old.storage.payload.items in
    let cs2 = members (insert_entry (slice_cmp nat_cmp) front key t) ∷ cs in
    let all = value_set old.storage old.inner ps qs old.words.items old.members.items
    new.members.items m n a b size cs t entry word on front key h low made w sized at setted
    (subst (λ xs. IsSet m n word b (length xs) size) places put_in) fits unfit in
    subst (λ x. AreOpen x new.inner new.places.items new.words.items new.members.items
    (length x.payload.items) cs2) (sym s)
    (subst (λ x. AreOpen old.storage x new.places.items new.words.items new.members.items b cs2)
    (sym f)
    (subst (λ x. AreOpen old.storage (record old.inner { fits = on }) x new.words.items
    new.members.items b cs2) (sym (ap (λ v. v.items) p ∙ places))
    (subst (λ x. AreOpen old.storage (record old.inner { fits = on }) (ps ++ qs) x.items
    new.members.items b cs2) (sym ws) all)))
