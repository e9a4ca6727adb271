use Rattle.std.proofs.Common.{rules}
use Rattle.std.proofs.lemmas.Str.{IsUtf8-from_ascii}
use Rattle.jsonb_codec.proofs.document.fault.check_text.Goals as goal

pub returns-then-is_all_ascii : goal.returns-then-is_all_ascii
returns-then-is_all_ascii c = IsUtf8-from_ascii _ (search rules)
