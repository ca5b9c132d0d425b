use Rattle.std.proofs.Common.{◌≡◌, ◌+◌, ◌<◌, length, drop}
use Rattle.rules.specs.Forests.{forest_of}
use Rattle.rules.specs.Lines.{lines}
use Rattle.rules.specs.Numbers.{capped}
use Rattle.rows.proofs.row.RowMatchNestedRoutes.line_count.Given as goal

abbrev pub invariant-loop-item : goal.invariant-loop-item
invariant-loop-item g l =
    let f = g.T.MatchNestedRoutes.routes in
    (l.count < 18446744073709551616) × (capped (length (lines (forest_of f l.self.items.now))) ≡ capped (l.count + length (lines (forest_of f (drop l.item-index l.self.items.now)))))
