-- When shapes can be written into reserved capacity.
use Rattle.std.specs.Prelude.{◌≡◌, ◌<◌, ◌+◌, ◌^◌, ℕ, List, length}
use Rattle.std.specs.Global.{Vec}
use Rattle.jsonb_codec.specs.Shape.{Shape, Shapes, shape_count, body, payload, FitsInside}
use Rattle.jsonb_codec.specs.Shape.{FitsEntry}
use Rattle.jsonb_codec.specs.Shape.{AllFit}
use Rattle.jsonb_codec.specs.Room.{HasRoom}

-- The shape fits, its payload has this length, and the buffer has the capacity for it.
pub record CanWrite (out : Vec ℕ) (s : Shape) (size : ℕ) : Type 0 where
  pub fits : FitsInside s
  pub len : size ≡ length (payload s)
  pub room : HasRoom out (payload s)

-- The children fit, and there are fewer than 2 ^ 29.
pub record AreFew (ss : Shapes) : Type 0 where
  pub fit : AllFit ss
  pub few : shape_count ss < 2 ^ 29

-- The child's length is `left` minus the lengths of its later siblings, and all of them fit.
pub record TakesLeft {W : Type 0} (Are : W → Shapes → Type 0) (later : W) (s : Shape) (left : ℕ)
    : Type 0 where
  pub fits : FitsEntry s
  pub others : Shapes
  pub are : Are later others
  pub few : AreFew others
  pub both : left ≡ length (payload s) + body others

-- The children fit, there are fewer than 2 ^ 29, and the buffer has the capacity for these bytes.
pub record CanGoOn (out : Vec ℕ) (ss : Shapes) (bytes : List ℕ) : Type 0 where
  pub few : AreFew ss
  pub room : HasRoom out bytes
