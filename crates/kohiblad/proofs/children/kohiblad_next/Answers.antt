use Rattle.std.proofs.Common.{◌≡◌}
use Rattle.kohiblad.specs.Children.{child_at_cursor, cursor_after, value_answer}
use Rattle.kohiblad.proofs.Walks.{same_child, walked}
use Rattle.kohiblad.proofs.children.kohiblad_next.Goals as goal

pub returns-clause-child : goal.returns-clause-child
returns-clause-child c = λ index is. same_child c.args.bytes.now index _ is

pub returns-clause-walk : goal.returns-clause-walk
returns-clause-walk c = λ index is well.
    let found = c.child_at_cursor-found.ensures.value in
    let answer = c.value_answer.ensures in
    let moved = c.cursor_after.ensures in
    let bytes = c.args.bytes.now in
    let before = c.args.cursor.now in
    let status : (value_answer (child_at_cursor c.args.bytes.now c.args.cursor.now)).status ≡ 0 =
    cc in
    let later : c.cursor_after.result
    ≡ cursor_after (child_at_cursor c.args.bytes.now c.args.cursor.now) c.args.cursor.now = cc in
    walked bytes index before c.cursor_after.result is status later
