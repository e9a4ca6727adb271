-- Each level of arrays and objects has one level less inside it.
use Rattle.std.proofs.Common.{◌+◌, ◌*◌}
use Rattle.kohiblad_shell.proofs.show.+show.Given as goal

abbrev pub decreases-push_value : goal.decreases-push_value
decreases-push_value l = 6 * l.levels

abbrev pub decreases-push_child : goal.decreases-push_child
decreases-push_child l = 6 * l.levels + 1

abbrev pub decreases-push_items : goal.decreases-push_items
decreases-push_items l = 6 * l.levels + 2

abbrev pub decreases-push_members : goal.decreases-push_members
decreases-push_members l = 6 * l.levels + 2

abbrev pub decreases-push_inside : goal.decreases-push_inside
decreases-push_inside l = 6 * l.levels + 3

abbrev pub decreases-push_nested : goal.decreases-push_nested
decreases-push_nested l = 6 * l.levels + 4
