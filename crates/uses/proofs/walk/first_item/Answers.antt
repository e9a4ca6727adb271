use Rattle.std.proofs.Common.{◌≡◌, List, [], ◌∷◌, Option, Some, None, Result, Ok, Err, MatchOption}
use Rattle.std.proofs.Common.{IsOkAnd, IsSomeAnd, subst, sym}
use Rattle.std.specs.Option.{option_transpose}
use Rattle.jsonb_value.specs.declared.error.Error.{Error}
use Rattle.jsonb_value.specs.Tree.{Tree, Trees, array, tree}
use Rattle.jsonb.specs.declared.item.JsonbItem.{JsonbItem}
use Rattle.jsonb.specs.ItemView.{ItemView, item_view, result_view}
use Rattle.jsonb.specs.DocumentWalk.{ShowsTrees, IsItemOf}
use Rattle.uses.proofs.walk.first_item.Goals as goal

first : (t : Tree) (ts : Trees) (rest later : List (Result ItemView Error))
    (given : Option (Result JsonbItem Error)) → ShowsTrees (tree t ts) rest
    → MatchOption given ((rest ≡ []) × (later ≡ [])) (λ x. rest ≡ result_view x ∷ later)
    → IsOkAnd (option_transpose given) (λ o. IsSomeAnd o (λ item. IsItemOf t (item_view item)))
first t ts rest later None shows gives = subst (λ xs. ShowsTrees (tree t ts) xs) gives.0 shows
first t ts rest later (Some (Ok item)) shows gives =
    (subst (λ xs. ShowsTrees (tree t ts) xs) gives shows).0
first t ts rest later (Some (Err e)) shows gives =
    absurd (subst (λ xs. ShowsTrees (tree t ts) xs) gives shows)

pub returns-in_err-items : goal.returns-in_err-items
returns-in_err-items c = λ t ts h. absurd (c.in_err-items.ensures.document (array (tree t ts)) h)

pub returns-in-None : goal.returns-in-None
returns-in-None c =
    λ t ts h. absurd (rw c.in-None.is at c.in_ok-items.ensures.document (array (tree t ts)) h)

pub returns-in-Some : goal.returns-in-Some
returns-in-Some c = λ t ts h.
    let walks = rw c.in-Some.is at c.in_ok-items.ensures.document (array (tree t ts)) h in
    subst (λ r. IsOkAnd r (λ o. IsSomeAnd o (λ item. IsItemOf t (item_view item))))
    (sym c.transpose.ensures) (first t ts _ _ _ walks.1 c.next.ensures.steps)
