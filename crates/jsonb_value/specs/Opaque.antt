-- The tags of extension values that are carried unchanged.
use Rattle.std.specs.Prelude.{◌≡◌, ◌≤◌, ◌%◌, ℕ}

-- The tag is a multiple of 0x10 and at least 0x50; eleven bytes are such tags, the greatest 0xF0.
pub record IsOpaqueTag (tag : ℕ) : Type 0 where
  pub least : 80 ≤ tag
  pub step : tag % 16 ≡ 0
