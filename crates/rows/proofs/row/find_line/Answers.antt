use Rattle.std.proofs.Common.{sym, ◌∙◌}
use Rattle.rules.proofs.RowLines.{line_here, line_later, line_past}
use Rattle.rows.proofs.row.find_line.Goals as goal

pub returns-in_default : goal.returns-in_default
returns-in_default g c = sym (c.loop-item.invariant ∙ line_here g.T.MatchNestedRoutes.routes c.args.items.now c.loop-item.item-index c.item-item.result c.loop-item.left c.loop-item-test.true c.item-item.is c.in_default.ensures)

pub loop-item-preserved : goal.loop-item-preserved
loop-item-preserved g c = c.loop-item.invariant ∙ line_later g.T.MatchNestedRoutes.routes c.args.items.now c.loop-item.item-index c.item-item.result c.loop-item.left _ c.loop-item-test.true c.item-item.is c.in-Some.ensures

pub returns : goal.returns
returns g c = sym (c.loop-item.invariant ∙ line_past g.T.MatchNestedRoutes.routes c.args.items.now c.loop-item.item-index c.loop-item.left c.loop-item-test.false)
