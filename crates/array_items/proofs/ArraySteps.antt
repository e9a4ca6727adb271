-- The items of an array, part by part.
use Rattle.std.proofs.Common.{◌≡◌, ℕ, ◌==◌, false, List, [], ◌∷◌, refl, ap, sym, ◌∙◌}
use Rattle.std.specs.Prelude.{Some, None, Result, Ok, Err, IfOk}
use Rattle.array_items.specs.Arrays.{ReadsItem, first_read, item_at_first, item_at_next, next_read}
use Rattle.array_items.specs.Blanks.{PassesBlanks, first_byte, left_after, trimmed}
use Rattle.array_items.specs.declared.array.FoundItem.{FoundItem}
use Rattle.array_items.specs.declared.held.ReadFault.{ReadFault}
use Rattle.array_items.proofs.BlankSteps.{Known, trimmed_twice}

first_is_next : (bytes begun : List ℕ) (b : ℕ) → trimmed bytes ≡ begun
    → Some b ≡ first_byte begun → (b == 93) ≡ false
    → item_at_first bytes ≡ item_at_next (trimmed bytes)
first_is_next bytes [] b is first other = cc
first_is_next bytes (c ∷ begun) b is first other =
    let same : b ≡ c = cc in
    let not_end : (c == 93) ≡ false = rw same at other in
    let twice : next_read (trimmed (trimmed bytes)) ≡ next_read (c ∷ begun) =
    ap next_read (trimmed_twice bytes ∙ is) in
    ap first_read is ∙ rw not_end refl ∙ sym twice

left_all : (bytes : List ℕ) → left_after false bytes ≡ bytes
left_all [] = refl
left_all (b ∷ bytes) = refl

pub first_later : (old mid new : Known) (b : ℕ) (item : List ℕ) (r : Result FoundItem ReadFault)
    → PassesBlanks false old mid (Some b) → (b == 93) ≡ false
    → IfOk r (λ found. ReadsItem item_at_next mid new item found)
    → IfOk r (λ found. ReadsItem item_at_first old new item found)
first_later old mid new b item (Err fault) passed other read = tt
first_later None mid new b item (Ok found) passed other read = tt
first_later (Some bytes) None new b item (Ok found) passed other read = absurd passed
first_later (Some bytes) (Some rest) None b item (Ok found) passed other read = absurd read
first_later (Some bytes) (Some rest) (Some left) b item (Ok found) passed other read =
    first_is_next bytes (trimmed bytes) b refl passed.0 other
    ∙ ap item_at_next (sym (passed.1 ∙ left_all (trimmed bytes))) ∙ read
