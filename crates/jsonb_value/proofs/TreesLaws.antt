-- The values of a text while it is read.
use Rattle.std.proofs.Common.{◌≡◌, List, [], ◌∷◌, refl, ap, ◌∙◌, map, arith, rules}
use Rattle.std.specs.Prelude.{String, string_bytes, string_cmp}
use Rattle.std.specs.declared.alloc.Global.{Global}
use Rattle.std.specs.declared.cmp.Ordering.{Ordering}
use Rattle.std.specs.BTreeMap.{BTreeMap, insert_entry}
use Rattle.std.specs.Ordering.{nat_cmp, match_ordering}
use Rattle.std.specs.Cmp.Lexicographic.{slice_cmp}
use Rattle.jsonb_value.specs.Json.Syntax.{Entries, pairs}
use Rattle.jsonb_value.specs.Tree.{object}
use Rattle.jsonb_value.specs.Value.{pairs_view, tree_of}
use Rattle.jsonb_value.specs.Reader.Content.{members_held}
use Rattle.jsonb_value.specs.Reader.Resume.{Content, items, members, at_key, put}
use Rattle.jsonb_value.specs.Reader.TreesHeld.{AreHeldOpen, AreHeldIn, entry_of}
use Rattle.jsonb_value.specs.declared.value.Value.{Value, Object, the_lemmas}
use Rattle.jsonb_value.specs.declared.parser.members.Members.{Members}
use Rattle.jsonb_value.specs.declared.parser.trees.Container.{Container}
use Rattle.jsonb_value.specs.declared.parser.trees.Container.TheVariants as containers

pairs_seen : (es : List (String Global × Value)) → pairs_view es ≡ pairs (map entry_of es)
pairs_seen [] = refl
pairs_seen (e ∷ es) = grind (arith, pairs_seen es)

map-match_ordering : {A B : Type 0} (f : A → B) (o : Ordering) (a b c : List A)
    → map f (match_ordering o a b c) ≡ match_ordering o (map f a) (map f b) (map f c)
map-match_ordering f o a b c = grind arith

map-insert_entry : (es : List (String Global × Value)) (k : String Global) (v : Value)
    → map entry_of (insert_entry string_cmp es k v)
    ≡ insert_entry (slice_cmp nat_cmp) (map entry_of es) (string_bytes k) (tree_of v)
map-insert_entry [] k v = refl
map-insert_entry (e ∷ es) k v = grind (arith, map-match_ordering, map-insert_entry es k v)

pub members_grown : (es new : List (String Global × Value)) (k : String Global) (v : Value)
    → new ≡ insert_entry string_cmp es k v
    → map entry_of new
    ≡ insert_entry (slice_cmp nat_cmp) (map entry_of es) (string_bytes k) (tree_of v)
members_grown es new k v e = ap (map entry_of) e ∙ map-insert_entry es k v

-- a value is inserted under the key that was read last
pub member_added : (outer : List Container) (old new : Members) (v : Value) (cs : List Content)
    → members_held new ≡ insert_entry string_cmp (members_held old) old.key v
    → AreHeldOpen (containers.Object old ∷ outer) cs
    → AreHeldIn (containers.Object new ∷ outer) (put (tree_of v) cs)
member_added [] old new v [] grown h = absurd h
member_added (d ∷ ds) old new v [] grown h = absurd h
member_added outer old new v (items front ∷ cs) grown h = absurd h.0
member_added outer old new v (members front ∷ cs) grown h = tt
member_added outer old new v (at_key front key ∷ cs) grown h = (
  members_grown (members_held old) (members_held new) old.key v grown
      ∙ ap (λ es. insert_entry (slice_cmp nat_cmp) es (string_bytes old.key) (tree_of v)) h.0.0
      ∙ ap (λ k. insert_entry (slice_cmp nat_cmp) front k (tree_of v)) h.0.1,
  h.1,
)

pub view-Object : (m : BTreeMap (String Global) Value)
    → tree_of (Object m) ≡ object (pairs_view m.entries)
view-Object m = search (rules, the_lemmas)

-- the object of the members
pub object_is : (es held : List (String Global × Value)) (front : Entries)
    → pairs_view es ≡ pairs_view held → map entry_of held ≡ front
    → object (pairs_view es) ≡ object (pairs front)
object_is es held front same is = ap object (same ∙ pairs_seen held ∙ ap pairs is)
