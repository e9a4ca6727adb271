-- Each level of arrays and objects has one level less inside it.
use Rattle.std.proofs.Common.{◌+◌, ◌*◌}
use Rattle.kohiblad_shell.proofs.template_text.TemplateReader.+template_text.Given as goal

abbrev pub decreases-template : goal.decreases-template
decreases-template l = 3 * l.levels + 1

abbrev pub decreases-array : goal.decreases-array
decreases-array l = 3 * l.levels

abbrev pub decreases-object : goal.decreases-object
decreases-object l = 3 * l.levels

abbrev pub decreases-member : goal.decreases-member
decreases-member l = 3 * l.levels + 2
