use Rattle.std.proofs.Common.{ap, ◌∙◌, reverse, [], ◌∷◌}
use Rattle.std.proofs.lemmas.List.{reverse-append}
use Rattle.json_fault.proofs.OpenBrackets.{closed, none_open}
use Rattle.json_fault.proofs.fault.change.Goals as goal

pub returns-in_ok-push-in-Open : goal.returns-in_ok-push-in-Open
returns-in_ok-push-in-Open c =
    rw c.in-Open.is
    (ap reverse c.in_ok-push-in-Open.ensures.items
    ∙ reverse-append c.args.brackets.now.items (c.in-Open.bracket ∷ []))

pub returns-in-Close : goal.returns-in-Close
returns-in-Close c =
    rw c.in-Close.is
    (closed c.args.brackets.now.items c.pop.new.self.items c.pop.result c.pop.ensures.items
    (none_open c.args.brackets.now.items c.pop.result c.args.brackets.now.len
    c.args.brackets.now.ok.0 c.pop.ensures.variant))
