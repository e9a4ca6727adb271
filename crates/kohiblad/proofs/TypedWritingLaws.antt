-- What C receives where a file of typed columns is written.
use Rattle.std.proofs.Common.{◌≡◌, ◌⊎◌, inl, inr, ℕ, ◌<◌, ◌≤◌, ◌-◌, ◌^◌, List, [], ◌∷◌, ◌++◌}
use Rattle.std.proofs.Common.{map, length, take, drop, slice_index_or, refl, sym, ap, subst}
use Rattle.std.proofs.Common.{arith, ◌∙◌, ◌↔◌, append_assoc, Bor, None, Result, Err}
use Rattle.std.specs.List.{flat_map}
use Rattle.std.proofs.lemmas.Grind.{flat_map-append}
use Rattle.std.proofs.lemmas.List.{append-nil, map-append, take_all}
use Rattle.jsonb_value.specs.declared.error.Error.{Error}
use Rattle.jsonb_value.specs.declared.error.Error.TheVariants.{InvalidJsonb, OutOfMemory}
use Rattle.jsonb_codec.specs.Depth.{IsDocumentWithin}
use Rattle.jsonb.specs.declared.document.Document.{Document}
use Rattle.jsonb.specs.Document.{document_bytes}
use Rattle.jsonb_typed_file.specs.declared.error.WriteError.{WriteError}
use Rattle.jsonb_typed_file.specs.declared.error.WriteError.TheVariants as errors
use Rattle.jsonb_typed.specs.declared.scalar.ScalarType.{ScalarType}
use Rattle.jsonb_typed_file.specs.declared.write.ColumnPlan.{ColumnPlan}
use Rattle.jsonb_typed.specs.Scalars.{type_bytes}
use Rattle.jsonb_typed_file.specs.Written.{AllFit, AscendPlans}
use Rattle.jsonb_typed_file.proofs.LayoutLaws.{same_head}
use Rattle.kohiblad.specs.Results.{AreWithin}
use Rattle.kohiblad.specs.Status.{code}
use Rattle.kohiblad.specs.TypedWriting.{ArePlans, AreRowsOf, BuildsDocuments}
use Rattle.kohiblad.specs.TypedWriting.{BuildsRows, write_code}

-- The documents so far are those of the rows before the rows that are left.
pub record ReadSoFar (depth : ℕ) (rows left : List (List ℕ)) (documents : List Document)
    : Type 0 where
  pub parts : map document_bytes documents ++ left ≡ rows
  pub within : AreWithin depth left → AreWithin depth rows
  pub all : AreWithin depth rows → AreWithin depth left

pub none_read : (depth : ℕ) (rows : List (List ℕ)) (documents : List Document) → documents ≡ []
    → ReadSoFar depth rows rows documents
none_read depth rows documents none = record {
  parts = ap (λ ds. map document_bytes ds ++ rows) none;
  within = λ are. are;
  all = λ are. are;
}

pub one_more_read : (depth : ℕ) (rows left later : List (List ℕ)) (row : List ℕ)
    (documents more : List Document) (d : Document) → ReadSoFar depth rows left documents
    → left ≡ row ∷ later → IsDocumentWithin depth row → more ≡ documents ++ d ∷ []
    → document_bytes d ≡ row → ReadSoFar depth rows later more
one_more_read depth rows left later row documents more d so_far split within pushed is = record {
  parts = ap (λ ds. map document_bytes ds ++ later) pushed
      ∙ ap (λ bs. bs ++ later) (map-append document_bytes documents (d ∷ []))
      ∙ append_assoc (map document_bytes documents) (document_bytes d ∷ []) later
      ∙ ap (λ b. map document_bytes documents ++ b ∷ later) is
      ∙ ap (λ bs. map document_bytes documents ++ bs) (sym split)
      ∙ so_far.parts;
  within = λ are. so_far.within (subst (AreWithin depth) (sym split) (within, are));
  all = λ are. (subst (AreWithin depth) split (so_far.all are)).1;
}

pub all_read : (depth : ℕ) (rows left : List (List ℕ)) (documents : List Document) → left ≡ []
    → ReadSoFar depth rows left documents → AreWithin depth rows × AreRowsOf rows documents
all_read depth rows left documents none so_far = (
  so_far.within (subst (AreWithin depth) (sym none) tt),
  sym (append-nil (map document_bytes documents))
      ∙ ap (λ bs. map document_bytes documents ++ bs) (sym none) ∙ so_far.parts,
)

-- The names and the bytes of the types of plans.
abbrev pub plan_names : List ColumnPlan → List (List ℕ)
plan_names plans = map (λ q. q.name.now) plans

abbrev pub plan_types : List ColumnPlan → List ℕ
plan_types plans = flat_map (λ q. type_bytes q.column_type) plans

-- The plans so far are those of the names and types before those that are left.
pub record PlannedSoFar (names : List (List ℕ)) (types : List ℕ) (names_left : List (List ℕ))
    (types_left : List ℕ) (plans : List ColumnPlan) : Type 0 where
  pub names_are : plan_names plans ++ names_left ≡ names
  pub types_are : plan_types plans ++ types_left ≡ types

-- The names after the first.
pub names_later : (left : List (Bor (List ℕ))) (d : Bor (List ℕ)) → 1 ≤ length left
    → map (λ name. name.now) left
    ≡ (slice_index_or left 0 d).now
    ∷ map (λ name. name.now) (take (length left - 1) (drop 1 left))
names_later [] d some = absurd (omega (arith, some))
names_later (b ∷ bs) d some =
    ap (λ xs. b.now ∷ map (λ name. name.now) xs)
    (sym (take_all (length (b ∷ bs) - 1) bs (omega arith)))

pub one_more_planned : (names : List (List ℕ)) (types : List ℕ) (left later : List (List ℕ))
    (name : List ℕ) (types_left others : List ℕ) (plans more : List ColumnPlan) (q : ColumnPlan)
    → PlannedSoFar names types left types_left plans → more ≡ plans ++ q ∷ []
    → left ≡ name ∷ later → types_left ≡ type_bytes q.column_type ++ others → q.name.now ≡ name
    → PlannedSoFar names types later others more
one_more_planned names types left later name types_left others plans more q so_far pushed split cut
    is =
    record {
      names_are = ap (λ ps. plan_names ps ++ later) pushed
          ∙ ap (λ ns. ns ++ later) (map-append (λ (q : ColumnPlan). q.name.now) plans (q ∷ []))
          ∙ append_assoc (plan_names plans) (q.name.now ∷ []) later
          ∙ ap (λ n. plan_names plans ++ n ∷ later) is
          ∙ ap (λ ns. plan_names plans ++ ns) (sym split)
          ∙ so_far.names_are;
      types_are = ap (λ ps. plan_types ps ++ others) pushed
          ∙ ap (λ bs. bs ++ others)
          (flat_map-append (λ (q : ColumnPlan). type_bytes q.column_type) plans (q ∷ []))
          ∙ append_assoc (plan_types plans) (type_bytes q.column_type ++ []) others
          ∙ ap (λ bs. plan_types plans ++ (bs ++ others)) (append-nil (type_bytes q.column_type))
          ∙ ap (λ bs. plan_types plans ++ bs) (sym cut)
          ∙ so_far.types_are;
    }

-- What is left of the names and types is that of other plans.
abbrev LeftPlans : List (List ℕ) → List ℕ → Type 0
LeftPlans left types_left =
    (rest : List ColumnPlan) × ((left ≡ plan_names rest) × (types_left ≡ plan_types rest))

rest_planned : (plans others : List ColumnPlan) (left : List (List ℕ)) (types_left : List ℕ)
    → plan_names plans ++ left ≡ plan_names others
    → plan_types plans ++ types_left ≡ plan_types others → LeftPlans left types_left
rest_planned [] others left types_left names types = (others, (names, types))
rest_planned (q ∷ qs) [] left types_left names types = absurd cc
rest_planned (q ∷ qs) (r ∷ rs) left types_left names types =
    let later : plan_names qs ++ left ≡ plan_names rs = cc in
    let (_, others) = same_head q.column_type r.column_type (plan_types qs ++ types_left)
    (plan_types rs)
    (sym (append_assoc (type_bytes q.column_type) (plan_types qs) types_left) ∙ types) in
    rest_planned qs rs left types_left later others

left_plans : (names : List (List ℕ)) (types : List ℕ) (left : List (List ℕ))
    (types_left : List ℕ) (plans others : List ColumnPlan)
    → PlannedSoFar names types left types_left plans → ArePlans names types others
    → LeftPlans left types_left
left_plans names types left types_left plans others so_far are =
    rest_planned plans others left types_left (so_far.names_are ∙ sym are.0)
    (so_far.types_are ∙ sym are.1)

-- There are fewer types than names.
pub no_type : (names : List (List ℕ)) (types : List ℕ) (left later : List (List ℕ))
    (name types_left : List ℕ) (plans : List ColumnPlan)
    → PlannedSoFar names types left types_left plans → left ≡ name ∷ later
    → ((type : ScalarType) (others : List ℕ) → types_left ≡ type_bytes type ++ others → ⊥)
    → (others : List ColumnPlan) → ArePlans names types others → ⊥
no_type names types left later name types_left plans so_far split none others are =
    let (rest, (names_are, types_are)) = left_plans names types left types_left plans others
    so_far are in
    refused rest (sym split ∙ names_are) types_are
  where
    refused : (rest : List ColumnPlan) → name ∷ later ≡ plan_names rest
        → types_left ≡ plan_types rest → ⊥
    refused [] named typed = absurd cc
    refused (q ∷ qs) named typed = none q.column_type (plan_types qs) typed

-- There are more.
pub more_types : (names : List (List ℕ)) (types : List ℕ) (left : List (List ℕ))
    (types_left : List ℕ) (plans : List ColumnPlan)
    → PlannedSoFar names types left types_left plans → left ≡ [] → 0 < length types_left
    → (others : List ColumnPlan) → ArePlans names types others → ⊥
more_types names types left types_left plans so_far none some others are =
    let (rest, (names_are, types_are)) = left_plans names types left types_left plans others
    so_far are in
    refused rest (sym none ∙ names_are) types_are
  where
    refused : (rest : List ColumnPlan) → [] ≡ plan_names rest → types_left ≡ plan_types rest → ⊥
    refused [] named typed = omega (arith, some, ap length typed)
    refused (q ∷ qs) named typed = absurd cc

abbrev pub refusal : ℕ → Result (List ℕ) ℕ
refusal status = Err status

-- Why no file is written.
pub write_refused : (documents : List Document) (plans : List ColumnPlan) (A : Type 0)
    (e : WriteError)
    → (◌≡◌ {A = Result A WriteError} (Err e) (Err errors.NamesNotAscending)
    ↔ (AscendPlans None plans → ⊥))
    → (◌≡◌ {A = Result A WriteError} (Err e) (Err errors.TooManyColumns)
    → 2 ^ 32 ≤ length plans)
    → (◌≡◌ {A = Result A WriteError} (Err e) (Err errors.RowTooLarge) → AllFit documents → ⊥)
    → BuildsDocuments documents plans (Err (write_code e))
write_refused documents plans A errors.NamesNotAscending names many large =
    (λ other. refl, inl (refl, names.0 refl))
write_refused documents plans A errors.TooManyColumns names many large =
    (λ other. cc (names.1 other), inr (inl (refl, inr (many refl))))
write_refused documents plans A errors.RowTooLarge names many large =
    (λ other. cc (names.1 other), inr (inl (refl, inl (large refl))))
write_refused documents plans A errors.NotReadBack names many large =
    (λ other. cc (names.1 other), inr (inr (inl refl)))
write_refused documents plans A errors.OutOfMemory names many large =
    (λ other. cc (names.1 other), inr (inr (inr refl)))

pub rows_refused : (depth : ℕ) (rows : List (List ℕ)) (plans : List ColumnPlan) (e : Error)
    → ((e ≡ InvalidJsonb) × (AreWithin depth rows → ⊥)) ⊎ (e ≡ OutOfMemory)
    → BuildsRows depth rows plans (Err (code e))
rows_refused depth rows plans e (inl (is, other)) =
    inl (other, ap (λ (x : Error). refusal (code x)) is)
rows_refused depth rows plans e (inr is) =
    inr (inr (ap (λ (x : Error). refusal (code x)) is))

-- The same of names that are borrowed.
pub no_type_left : (names : List (List ℕ)) (types : List ℕ) (left : List (Bor (List ℕ)))
    (types_left : List ℕ) (plans : List ColumnPlan) → 1 ≤ length left
    → PlannedSoFar names types (map (λ name. name.now) left) types_left plans
    → ((type : ScalarType) (others : List ℕ) → types_left ≡ type_bytes type ++ others → ⊥)
    → (others : List ColumnPlan) → ArePlans names types others → ⊥
no_type_left names types [] types_left plans some so_far none others are =
    absurd (omega (arith, some))
no_type_left names types (b ∷ bs) types_left plans some so_far none others are =
    no_type names types (map (λ name. name.now) (b ∷ bs)) (map (λ name. name.now) bs) b.now
    types_left plans so_far refl none others are

pub more_types_left : (names : List (List ℕ)) (types : List ℕ) (left : List (Bor (List ℕ)))
    (types_left : List ℕ) (plans : List ColumnPlan) → length left < 1
    → PlannedSoFar names types (map (λ name. name.now) left) types_left plans
    → 0 < length types_left → (others : List ColumnPlan) → ArePlans names types others → ⊥
more_types_left names types [] types_left plans few so_far some others are =
    more_types names types [] types_left plans so_far refl some others are
more_types_left names types (b ∷ bs) types_left plans few so_far some others are =
    omega (arith, few)
