-- Why tokens are refused where something else is expected.
use Rattle.std.specs.Prelude.{◌==◌, List, ◌∷◌, codes, if◌then◌else◌}
use Rattle.jsonb_path.specs.declared.read.scan.Expected.{Expected}
use Rattle.jsonb_path.specs.declared.read.scan.LeftOut.TheVariants as left_out
use Rattle.jsonb_path.specs.declared.read.scan.Refusal.{Refusal}
use Rattle.jsonb_path.specs.declared.read.scan.Refusal.TheVariants as refusals
use Rattle.jsonb_path.specs.Dotted.{is_word}
use Rattle.jsonb_path.specs.Token.{Lexeme, mark, word}

-- The first token is `/` or `like_regex`, which are left out, or another one.
abbrev pub refusal_at : Expected → List Lexeme → Refusal
refusal_at what (mark c ∷ ts) =
    if c == 47 then refusals.LeftOut left_out.Division else refusals.Expected what
refusal_at what (word s ∷ ts) =
    if is_word (codes "like_regex") s then refusals.LeftOut left_out.LikeRegex
    else refusals.Expected what
refusal_at what _ = refusals.Expected what
