use Rattle.std.proofs.Common.{◌≡◌, drop}
use Rattle.rules.specs.Forests.{forest_of}
use Rattle.rules.specs.KeptLists.{kept}
use Rattle.rules.specs.Steps.{first_read}
use Rattle.rows.proofs.row.RowMatchNestedRoutes.match_at.Given as goal

abbrev pub invariant-loop-item : goal.invariant-loop-item
invariant-loop-item g l =
    let f = g.T.MatchNestedRoutes.routes in
    (first_read (kept (forest_of f l.self.items.now)) l.level l.rest.start l.rest.bytes.now ≡ first_read (kept (forest_of f (drop l.item-index l.self.items.now))) l.level l.rest.start l.rest.bytes.now) × (l.levels ≡ l.initial.levels) × (l.params ≡ l.initial.params)
