-- Writing a value for each key over the beginning of a list.
use Rattle.std.proofs.Common.{◌≡◌, ℕ, ◌+◌, ◌≤◌, ◌<◌, List, [], ◌∷◌, ◌++◌, length, map, take, drop}
use Rattle.std.proofs.Common.{slice_index_or, slice_set, sym, ap, ap₂, ◌∙◌, arith, append_assoc}
use Rattle.std.proofs.Common.{add-one}
use Rattle.std.proofs.lemmas.List.{drop_more, map-append, length-map, length-take-le}
use Rattle.std.proofs.Math.Seq.{set-append_seam, take-suc}

-- one more value is written at its position
pub one_more_put : {K V : Type 0} (f : K → V) (keys : List K) (old values : List V) (n : ℕ) (d : K)
    → n < length keys → length keys ≤ length old → values ≡ map f (take n keys) ++ drop n old
    → slice_set values n (f (slice_index_or keys n d))
    ≡ map f (take (n + 1) keys) ++ drop (n + 1) old
one_more_put {K} {V} f keys old values n d inside fits so_far =
    let front = map f (take n keys) in
    let value : V = f (slice_index_or keys n d) in
    let long : length (map f (take n keys)) ≡ n = length-map (take n keys) f
    ∙ length-take-le n keys (omega arith) in
    let cut = drop_more old n value (omega arith) in
    let parts = so_far ∙ ap (λ (xs : List V). front ++ xs) cut in
    let more = ap (λ (k : ℕ). map f (take k keys)) (add-one n)
    ∙ ap (map f) (take-suc keys n d inside)
    ∙ map-append f (take n keys) (slice_index_or keys n d ∷ []) in
    ap₂ (λ (xs : List V) (k : ℕ). slice_set xs k value) parts (sym long)
    ∙ set-append_seam front (slice_index_or old n value) (drop (n + 1) old) value
    ∙ sym (append_assoc front (value ∷ []) (drop (n + 1) old))
    ∙ ap (λ (xs : List V). xs ++ drop (n + 1) old) (sym more)
