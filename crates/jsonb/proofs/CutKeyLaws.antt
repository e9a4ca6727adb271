-- The keys of an object whose entry words are not all there: none of the name's length can be read.
use Rattle.std.proofs.Common.{◌≡◌, ℕ, ◌+◌, ◌*◌, ◌<◌, List, Bool, length, Ok, Err, refl}
use Rattle.std.proofs.lemmas.Bool.{lt-leb}
use Rattle.jsonb_value.specs.declared.error.Error.{Error}
use Rattle.jsonb_value.specs.declared.error.Error.TheVariants.{InvalidJsonb}
use Rattle.jsonb_codec.specs.JEntry.{jentry_at}
use Rattle.jsonb_codec.specs.declared.jentry.JEntry.{JEntry}
use Rattle.jsonb.specs.Entry.{part_at}
use Rattle.jsonb.specs.Parts.{part_start, key_of_size, PassedBefore, IsKeyUnread}
use Rattle.jsonb.specs.CutKeys.{NoneOfSize, IsFirstUnread}
use Rattle.jsonb.proofs.PartLaws.{key_known}

-- a key of the size that runs past the end
pub key_past : (size : ℕ) (bytes : List ℕ) (n pair : ℕ) (jentry : JEntry)
    → Ok jentry ≡ jentry_at bytes (4 + 4 * pair) → jentry.length ≡ size
    → length bytes < part_start bytes n pair + size
    → key_of_size size bytes n pair ≡ Err InvalidJsonb
unfolding part_at
key_past size bytes n pair jentry read fits past =
    let start = part_start bytes n pair in
    let more : length bytes < start + jentry.length = rw fits past in
    key_known size bytes n pair jentry start read fits refl (Err InvalidJsonb)
    (rw (lt-leb (start + jentry.length) (length bytes) more))

-- keys of other lengths are passed over
pub others_passed : (answers : List ℕ → Bool → Type 0) (size : ℕ) (bytes : List ℕ) (n pair : ℕ)
    → NoneOfSize size bytes n pair → PassedBefore answers size bytes n pair
others_passed answers size bytes n pair others = λ k less. rw (others k less) tt

-- the first key of the size, or whose entry word is cut off, cannot be read
pub first_unread : (answers : List ℕ → Bool → Type 0) (size : ℕ) (bytes : List ℕ) (n : ℕ)
    (e : Error) → IsFirstUnread size bytes n e → IsKeyUnread answers size bytes n e
first_unread answers size bytes n e first = record {
  pair = first.pair;
  among = first.among;
  earlier = others_passed answers size bytes n first.pair first.others;
  unread = first.unread;
}
