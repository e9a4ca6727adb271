use Rattle.std.proofs.lemmas.Result.{IfOk-weaker}
use Rattle.jsonb_functions.specs.Names.{names_of}
use Rattle.kohiblad.proofs.NamedPathLaws.{listed_names, pointer_names}
use Rattle.kohiblad.proofs.named_paths.names_of_text.Goals as goal

pub returns-in-Some-clause-ok : goal.returns-in-Some-clause-ok
returns-in-Some-clause-ok c =
    let reads = rw c.in-Some.is at c.in_ok-names.ensures.ok in
    pointer_names c.args.text.now (names_of c.in-Some.names) reads

pub returns-in-None-clause-ok : goal.returns-in-None-clause-ok
returns-in-None-clause-ok c =
    let other = rw c.in-None.is at c.in_ok-names.ensures.ok in
    IfOk-weaker c.read_name_list.result _ _
    (λ read reads. listed_names c.args.text.now read other reads) c.read_name_list.ensures.ok
