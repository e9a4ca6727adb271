use Rattle.std.proofs.lemmas.Grind.{common_steps}
use Rattle.std.proofs.Common.{arith}
use Rattle.std.proofs.Common.{◌∷◌, ◌++◌, [], List, ℕ, take}
use Rattle.std.proofs.Common.{rules}
use borrow.Rule.Slice.PartMut.{post_of}
use Rattle.jsonb_value.proofs.Codes.{written_bytes}
use Rattle.jsonb_value.proofs.extension.append_interval.Goals as goal

-- the bytes after the tag once the months and the days are written
abbrev with_days : List ℕ → List ℕ → List ℕ
with_days months days =
    take 4 (months ++ []) ++ (days ++ post_of {X = ℕ} 5 12 (64 ∷ (months ++ [])))

-- the whole payload
abbrev with_micros : List ℕ → List ℕ → List ℕ
with_micros front micros = 64 ∷ (take 8 front ++ (micros ++ post_of {X = ℕ} 9 8 (64 ∷ front)))

pub returns : goal.returns
returns c =
    record {
      len = search rules;
      appended = grind (arith, common_steps, rules, written_bytes);
      err = search rules;
      memory = search rules;
      capacity = search rules;
      room = search rules;
    }
