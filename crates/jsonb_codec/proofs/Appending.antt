-- Parts appended one after the other.
use Rattle.std.proofs.Common.{◌≡◌, ◌≤◌, ℕ, ◌+◌, List, [], ◌++◌, Vec, Global, length, vec_capacity}
use Rattle.std.proofs.Common.{refl, sym, ap, ◌∙◌, arith, le_trans, length-append, append-nil}
use Rattle.std.proofs.lemmas.List.{append_assoc}
use Rattle.jsonb_codec.specs.Room.{HasRoom, AppendsBytes}

pub length-Appended : {old new : Vec ℕ Global} {bytes : List ℕ} → AppendsBytes old new bytes
    → length new.items ≡ length old.items + length bytes
length-Appended {old} {new} {bytes} h = ap length h.items ∙ length-append old.items bytes

-- What was appended is no longer among what is to be appended.
pub append-Appended : {old new : Vec ℕ Global} {bytes : List ℕ} (more : List ℕ)
    → AppendsBytes old new bytes → new.items ++ more ≡ old.items ++ (bytes ++ more)
append-Appended {old} {new} {bytes} more h =
    rw h.items (append_assoc old.items bytes more)

-- Of all the bytes to be appended these are left, and the buffer has the capacity for them.
pub record Underway (old now : Vec ℕ Global) (all left : List ℕ) : Type 0 where
  pub room : HasRoom now left
  pub written : now.items ++ left ≡ old.items ++ all
  pub capacity : vec_capacity old ≤ vec_capacity now

pub underway_start : {v : Vec ℕ Global} {all : List ℕ} → HasRoom v all → Underway v v all all
underway_start room = record { room = room; written = refl; capacity = omega arith }

pub underway_next : {old now : Vec ℕ Global} {all : List ℕ} (first left : List ℕ)
    → Underway old now all (first ++ left) → HasRoom now first
underway_next first left u = omega (arith, u.room, length-append first left)

pub underway_on : {old now new : Vec ℕ Global} {all : List ℕ} (first left : List ℕ)
    → Underway old now all (first ++ left) → AppendsBytes now new first → Underway old new all left
underway_on first left u h =
    record {
      room = omega (arith, u.room, length-append first left, length-Appended h, h.capacity);
      written = append-Appended left h ∙ u.written;
      capacity = le_trans u.capacity h.capacity;
    }

pub underway_end : {old now : Vec ℕ Global} {all : List ℕ} → Underway old now all []
    → AppendsBytes old now all
underway_end {old} {now} u =
    record { items = sym (append-nil now.items) ∙ u.written; capacity = u.capacity }
