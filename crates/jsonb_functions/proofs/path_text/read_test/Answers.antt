use Rattle.jsonb_functions.proofs.FilterTextLaws.{comparison_lacks, literal_lacks, no_path}
use Rattle.jsonb_functions.proofs.FilterTextLaws.{no_space_there, test_read}
use Rattle.jsonb_functions.proofs.path_text.read_test.Goals as goal

pub returns-in_default : goal.returns-in_default
returns-in_default c =
    no_path c.args.text.now (rw c.in_default.is at c.in_ok-path.ensures)

pub returns-in_default-after_char : goal.returns-in_default-after_char
returns-in_default-after_char c =
    no_space_there c.args.text.now c.in-Some.path c.in-Some.end
    (rw c.in-Some.is at c.in_ok-path.ensures) c.in_default-after_char.ensures

pub returns-in_default-read_comparison :
    goal.returns-in_default-read_comparison
returns-in_default-read_comparison c =
    comparison_lacks c.args.text.now c.in-Some.path c.in-Some.end
    (rw c.in-Some.is at c.in_ok-path.ensures) c.in-Some-after_char.rest
    c.in-Some-after_char.ensures
    c.in_default-read_comparison.ensures

pub returns-in_default-2 : goal.returns-in_default-2
returns-in_default-2 c =
    literal_lacks c.args.text.now c.in-Some.path c.in-Some.end
    (rw c.in-Some.is at c.in_ok-path.ensures) c.in-Some-after_char.rest
    c.in-Some-after_char.ensures
    c.in-Some-read_comparison.comparison c.in-Some-read_comparison.rest
    c.in-Some-read_comparison.ensures (rw c.in_default-2.is at c.in_ok-value.ensures)

pub returns : goal.returns
returns c =
    test_read c.args.text.now c.in-Some.path c.in-Some.end
    (rw c.in-Some.is at c.in_ok-path.ensures) c.in-Some-after_char.rest
    c.in-Some-after_char.ensures
    c.in-Some-read_comparison.comparison c.in-Some-read_comparison.rest
    c.in-Some-read_comparison.ensures c.in-Some-2.value c.in-Some-2.rest
    (rw c.in-Some-2.is at c.in_ok-value.ensures)
