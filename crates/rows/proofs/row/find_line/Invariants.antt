use Rattle.std.proofs.Common.{◌≡◌, drop}
use Rattle.rules.specs.Steps.{line_in}
use Rattle.rows.proofs.row.find_line.Given as goal

abbrev pub invariant-loop-item : goal.invariant-loop-item
invariant-loop-item g l =
    let f = g.T.MatchNestedRoutes.routes in
    line_in f l.items l.line ≡ line_in f (drop l.item-index l.items) l.left
