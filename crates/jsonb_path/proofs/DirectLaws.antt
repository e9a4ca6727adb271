-- Values that are at hand, followed along members without a list.
use Rattle.std.proofs.Common.{◌≡◌, ℕ, Bool, true, false, List, [], ◌∷◌, ◌∙◌, ap, sym, refl}
use Rattle.std.proofs.Common.{◌≤◌, get_or, length, subst, String, Global}
use Rattle.std.specs.Prelude.{IfSome, Option, None, Some, is_some, if◌then◌else◌, option_map}
use Rattle.std.specs.Prelude.{Result, string_bytes}
use Rattle.jsonb_value.specs.Tree.{Tree, Pairs, object, array}
use Rattle.jsonb.specs.declared.node.Node.{Node}
use Rattle.jsonb.specs.Node as nodes
use Rattle.jsonb.specs.Node.{node_tree, value_of_key}
use Rattle.jsonb_path.specs.declared.compare.Comparison.{Comparison}
use Rattle.jsonb_path.specs.declared.compare.Truth.{Truth}
use Rattle.jsonb_path.specs.declared.compare.Truth.TheVariants.{True, False, Unknown}
use Rattle.jsonb_path.specs.declared.pairs.Check.TheVariants as checks
use Rattle.jsonb_path.specs.declared.outcome.WalkError.{WalkError}
use Rattle.jsonb_path.specs.declared.path.Accessor.{Accessor}
use Rattle.jsonb_path.specs.declared.path.Accessor.TheVariants as accessors
use Rattle.jsonb_path.specs.declared.path.Mode.{Mode}
use Rattle.jsonb_path.specs.declared.path.Mode.TheVariants.{Lax, Strict}
use Rattle.jsonb_path.specs.declared.path.PathError.TheVariants as errors
use Rattle.jsonb_path.specs.Comparison.{comparand_of, compares}
use Rattle.jsonb_path.specs.Found.{Finds, checked, filtered_by}
use Rattle.jsonb_path.specs.Meaning.{Outcome, Place, access, along, before_end, each, fails, gives}
use Rattle.jsonb_path.specs.Meaning.{in_lax_unwrapped, member_of, past, some_pair, some_passes}
use Rattle.jsonb_path.specs.Meaning.{unless_forgiven, unwrapped}
use Rattle.jsonb_path.specs.PathTree.{PathNode, accessor_of, accessors_of}
use Rattle.jsonb_path.specs.Syntax.{Accessors, Predicate, no_accessors, accessor, filter, member}
use Rattle.jsonb_path.proofs.FollowLaws.{along_on}
use Rattle.jsonb_path.proofs.FoundLaws.{joined_nothing, member_missing, member_there}
use Rattle.jsonb_path.proofs.PathTextLaws.{later}

-- ---- members that are there

-- an object is asked itself
object_itself : (mode : Mode) (ps : Pairs) → unwrapped mode (object ps) ≡ object ps ∷ []
object_itself Lax ps = refl
object_itself Strict ps = refl

-- what is asked of one value
asked_itself : (place : Place) (name : List ℕ) (t : Tree) (o : Outcome)
    → unwrapped place.mode t ≡ t ∷ [] → o ≡ member_of place name t
    → access place (member name) t ≡ before_end o.values o.error (gives [])
asked_itself place name t o one is =
    ap (λ us. each (member_of place name) us None) one
    ∙ ap (λ (p : Outcome). before_end p.values p.error (gives [])) (sym is)

pub member_gives : (place : Place) (name : List ℕ) (t v : Tree) → Some v ≡ value_of_key name t
    → access place (member name) t ≡ gives (v ∷ [])
member_gives place name (object ps) v is =
    asked_itself place name (object ps) (gives (v ∷ [])) (object_itself place.mode ps)
    (member_there place name (object ps) v is)
member_gives place name t v is = absurd (cc)

-- the accessor is a member that is there
pub member_led : (a : Accessor) (s : String Global) (found : Option Node) (t : Tree)
    → a ≡ accessors.Member s → option_map node_tree found ≡ value_of_key (string_bytes s) t
    → (place : Place) (nodes : List PathNode) → IfSome found (λ v.
    (past place (accessor_of nodes a) ≡ place)
    × (access place (accessor_of nodes a) t ≡ gives (node_tree v ∷ [])))
member_led a s None t is named place nodes = tt
member_led a s (Some v) t is named place nodes =
    subst (λ b. (past place (accessor_of nodes b) ≡ place)
    × (access place (accessor_of nodes b) t ≡ gives (node_tree v ∷ []))) (sym is)
    (refl, member_gives place (string_bytes s) t (node_tree v) named)

-- one member, and then the other accessors
pub along_member : (place : Place) (nodes : List PathNode) (xs : List Accessor) (x : Accessor)
    → 1 ≤ length xs → x ≡ get_or xs 0 x → (t v : Tree) → past place (accessor_of nodes x) ≡ place
    → access place (accessor_of nodes x) t ≡ gives (v ∷ [])
    → along place (accessors_of nodes (later xs)) (gives (v ∷ []))
    ≡ along place (accessors_of nodes xs) (gives (t ∷ []))
along_member place nodes xs x any is t v stays one =
    along_on nodes xs x any is place place (gives (t ∷ [])) (gives (v ∷ []))
    (along place (accessors_of nodes xs) (gives (t ∷ []))) (sym stays)
    (ap (λ (o : Outcome). before_end o.values o.error (gives [])) (sym one)) refl

-- ---- members that are not there

-- nothing is passed over
pub nothing_there : (place : Place) (name : List ℕ) (t : Tree) → unwrapped place.mode t ≡ t ∷ []
    → None ≡ value_of_key name t → place.forgives ≡ true
    → access place (member name) t ≡ gives []
nothing_there place name t one none forgives =
    asked_itself place name t (unless_forgiven place errors.MemberNotFound) one
    (member_missing place name t none)
    ∙ ap (λ (b : Bool). let o = if b then gives [] else fails errors.MemberNotFound in
    before_end o.values o.error (gives [])) forgives

-- the accessor is a member that is not there
pub missing_led : (place : Place) (a : Accessor) (s : String Global) (t : Tree)
    → a ≡ accessors.Member s → None ≡ value_of_key (string_bytes s) t
    → unwrapped place.mode t ≡ t ∷ [] → place.forgives ≡ true → (nodes : List PathNode)
    → access place (accessor_of nodes a) t ≡ gives []
missing_led place a s t is none one forgives nodes =
    ap (λ b. access place (accessor_of nodes b) t) is
    ∙ nothing_there place (string_bytes s) t one none forgives

-- nothing gives nothing
pub nothing_along : (place : Place) (steps : Accessors) → along place steps (gives []) ≡ gives []
nothing_along place no_accessors = refl
nothing_along place (accessor a steps) = nothing_along (past place a) steps

-- in lax a value that has no items is asked itself
pub itself_asked : (t : Tree) → is_some (nodes.items_of t) ≡ false
    → (mode : Mode) → unwrapped mode t ≡ t ∷ []
itself_asked (array ts) none mode = absurd (cc)
itself_asked t none Lax = refl
itself_asked t none Strict = refl

-- a filter of a value that is asked itself
pub filter_itself : (place : Place) (p : Predicate) (t : Tree) → unwrapped place.mode t ≡ t ∷ []
    → filtered_by place p t ≡ access place (filter p) t
filter_itself place p t one =
    sym (ap (λ us. each (filtered_by place p) us None) one
    ∙ joined_nothing (filtered_by place p t))

pub filter_finds : (place : Place) (p : Predicate) (t : Tree) (old new : List Node)
    (r : Result (Unit {0}) WalkError) → unwrapped place.mode t ≡ t ∷ []
    → Finds old new r (filtered_by place p t) → Finds old new r (access place (filter p) t)
filter_finds place p t old new r one is = subst (Finds old new r) (filter_itself place p t one) is

-- ---- the end of a walk

pub end_missing : (place : Place) (mode : Mode) (nodes : List PathNode) (xs : List Accessor)
    (x : Accessor) → 1 ≤ length xs → x ≡ get_or xs 0 x → (t : Tree)
    → access place (accessor_of nodes x) t ≡ gives []
    → in_lax_unwrapped mode (along place (accessors_of nodes xs) (gives (t ∷ []))) ≡ gives []
end_missing place mode nodes xs x any is t none =
    ap (in_lax_unwrapped mode)
    (sym (along_on nodes xs x any is place (past place (accessor_of nodes x)) (gives (t ∷ []))
    (gives []) (along place (accessors_of nodes xs) (gives (t ∷ []))) refl
    (ap (λ (o : Outcome). before_end o.values o.error (gives [])) (sym none)) refl)
    ∙ nothing_along (past place (accessor_of nodes x)) (accessors_of nodes (later xs)))

-- ---- one pair

pub one_passes : (mode : Mode) (t : Truth) → t ≡ some_passes mode (t ∷ [])
one_passes Lax True = refl
one_passes Lax False = refl
one_passes Lax Unknown = refl
one_passes Strict True = refl
one_passes Strict False = refl
one_passes Strict Unknown = refl

pub one_pair : (mode : Mode) (c : Comparison) (t u : Tree)
    → compares c (comparand_of t) (comparand_of u)
    ≡ some_pair mode (checked (checks.Compare c)) (gives (t ∷ [])) (gives (u ∷ []))
one_pair mode c t u = one_passes mode (compares c (comparand_of t) (comparand_of u))

pub no_left : (mode : Mode) (c : Comparison) (us : List Tree)
    → False ≡ some_pair mode (checked (checks.Compare c)) (gives []) (gives us)
no_left Lax c us = refl
no_left Strict c us = refl

pub no_right : (mode : Mode) (c : Comparison) (t : Tree)
    → False ≡ some_pair mode (checked (checks.Compare c)) (gives (t ∷ [])) (gives [])
no_right Lax c t = refl
no_right Strict c t = refl

-- the pair of what two expressions give
pub pair_from : (mode : Mode) (c : Comparison) (t : Truth) (o p q r : Outcome)
    → t ≡ some_pair mode (checked (checks.Compare c)) q r → o ≡ q → p ≡ r
    → t ≡ some_pair mode (checked (checks.Compare c)) o p
pair_from mode c t o p q r is e f =
    is
    ∙ ap (λ x. some_pair mode (checked (checks.Compare c)) x r) (sym e)
    ∙ ap (λ y. some_pair mode (checked (checks.Compare c)) o y) (sym f)

pub ruleset lone_pairs = (one_pair, no_left, no_right)
