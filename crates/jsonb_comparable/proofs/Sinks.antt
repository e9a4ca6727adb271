-- Bytes that go to a sink one part after the other.
use Rattle.std.proofs.Common.{◌≡◌, ℕ, List, ◌++◌}
use Rattle.jsonb_comparable.specs.Sink.{SinkLaws}

-- Of all the bytes these are left, there is room for them, and with them all are appended.
pub record Going {S : Type 0} (room : S → List ℕ → Type 0) (appends : S → S → List ℕ → Type 0)
    (start now : S) (all left : List ℕ) : Type 0 where
  pub has_room : room now left
  pub ends : (last : S) → appends now last left → appends start last all

pub going_start : {S : Type 0} {room : S → List ℕ → Type 0} {appends : S → S → List ℕ → Type 0}
    (start : S) (all : List ℕ) → room start all → Going room appends start start all all
going_start start all h = record { has_room = h; ends = λ last done. done }

pub going_room : {S : Type 0} {room : S → List ℕ → Type 0} {appends : S → S → List ℕ → Type 0}
    → SinkLaws room appends → {start now : S} {all left : List ℕ}
    → Going room appends start now all left → (part rest : List ℕ) → left ≡ part ++ rest
    → room now part
going_room {room = room} laws {now = now} going part rest e =
    laws.room_first now part rest (rw e at going.has_room)

pub going_on : {S : Type 0} {room : S → List ℕ → Type 0} {appends : S → S → List ℕ → Type 0}
    → SinkLaws room appends → {start now : S} {all left : List ℕ}
    → Going room appends start now all left → (part rest : List ℕ) → left ≡ part ++ rest
    → (next : S) → appends now next part → Going room appends start next all rest
going_on laws {now = now} going part rest e next done =
    record {
      has_room = laws.room_rest now next part rest (rw e at going.has_room) done;
      ends = λ last after.
          going.ends last (rw e (laws.joins now next last part rest done after));
    }

-- Two parts: room for the first, and for the second after it.
pub first_room : {S : Type 0} {room : S → List ℕ → Type 0} {appends : S → S → List ℕ → Type 0}
    → SinkLaws room appends → (start : S) (a b : List ℕ) → room start (a ++ b) → room start a
first_room laws start a b h = laws.room_first start a b h

pub second_room : {S : Type 0} {room : S → List ℕ → Type 0} {appends : S → S → List ℕ → Type 0}
    → SinkLaws room appends → (start mid : S) (a b : List ℕ) → room start (a ++ b)
    → appends start mid a → room mid b
second_room laws start mid a b h done = laws.room_rest start mid a b h done

pub both_parts : {S : Type 0} {room : S → List ℕ → Type 0} {appends : S → S → List ℕ → Type 0}
    → SinkLaws room appends → (start mid last : S) (a b : List ℕ) → appends start mid a
    → appends mid last b → appends start last (a ++ b)
both_parts laws start mid last a b first second = laws.joins start mid last a b first second

-- What is left may be written otherwise.
pub going_same : {S : Type 0} {room : S → List ℕ → Type 0} {appends : S → S → List ℕ → Type 0}
    {start now : S} {all left : List ℕ} → Going room appends start now all left
    → (other : List ℕ) → left ≡ other → Going room appends start now all other
going_same going other e = rw e at going
