use Rattle.std.proofs.Common.{arith}
use Rattle.rules.proofs.RowLines.{row_count_more, row_count_all}
use Rattle.rows.proofs.row.RowMatchNestedRoutes.line_count.Goals as goal

pub loop-item-preserved : goal.loop-item-preserved
loop-item-preserved g c =
    (omega (arith, c.saturating_add-count.ensures), row_count_more g.T.MatchNestedRoutes.routes c.args.self.now.items.now c.loop-item.item-index c.item-item.result c.loop-item-test.true c.item-item.is c.loop-item.count _ _ c.loop-item.invariant.1 c.line_count.ensures c.saturating_add-count.ensures)

pub returns : goal.returns
returns g c = row_count_all g.T.MatchNestedRoutes.routes c.args.self.now.items.now c.loop-item.item-index c.loop-item-test.false c.loop-item.count c.loop-item.invariant.0 c.loop-item.invariant.1
