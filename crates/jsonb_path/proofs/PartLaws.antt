-- What holds of all parts, one after the other.
use Rattle.std.proofs.Common.{◌≡◌, ℕ, suc, ◌+◌, ◌<◌, ◌≤◌, true, List, [], ◌∷◌, ◌++◌, ◌∙◌, ap}
use Rattle.std.proofs.Common.{drop, get_or, length, sym, take, add-one, drop-cons}
use Rattle.std.proofs.lemmas.List.{drop_all, take_more}
use Rattle.std.specs.Prelude.{◌&&◌}
use Rattle.jsonb_path.specs.declared.path.Part.{Part}
use Rattle.jsonb_path.specs.PathParts.{are_parts_after, is_part}

pub front : {X : Type 0} (xs : List X) (i : ℕ) (x : X) → i < length xs → x ≡ get_or xs i x
    → drop i xs ≡ x ∷ drop (i + 1) xs
front xs i x h e =
    drop-cons xs i x h
    ∙ ap (λ y. y ∷ drop (suc i) xs) (sym e)
    ∙ ap (λ n. x ∷ drop n xs) (sym (add-one i))

pub parts_step : (ps : List Part) (i : ℕ) (x : Part) → i < length ps → x ≡ get_or ps i x
    → are_parts_after (take i ps) (drop i ps)
    ≡ (is_part (take i ps) x && are_parts_after (take (i + 1) ps) (drop (i + 1) ps))
parts_step ps i x h e =
    ap (are_parts_after (take i ps)) (front ps i x h e)
    ∙ ap (λ before. is_part (take i ps) x && are_parts_after before (drop (i + 1) ps))
    (ap (λ y. take i ps ++ (y ∷ [])) e ∙ sym (take_more ps i x h))

pub parts_end : (ps : List Part) (i : ℕ) → length ps ≤ i
    → are_parts_after (take i ps) (drop i ps) ≡ true
parts_end ps i h = ap (are_parts_after (take i ps)) (drop_all i ps h)
