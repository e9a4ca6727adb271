use Rattle.clap.specs.Matches.{found_of, one_text}
use Rattle.kohiblad_shell.proofs.ArgumentLaws.{flag_is}
use Rattle.kohiblad_shell.proofs.arguments.has_flag.Goals as goal

pub returns : goal.returns
returns c =
    flag_is (one_text (found_of c.args.arguments.now) c.args.id.now) c.get_flag.result
    c.get_flag.ensures.none c.get_flag.ensures.value c.get_flag.ensures.other
