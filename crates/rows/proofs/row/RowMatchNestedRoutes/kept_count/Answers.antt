use Rattle.std.proofs.Common.{sym, ap, ◌∙◌}
use Rattle.rules.specs.Numbers.{capped}
use Rattle.rules.proofs.RowLines.{line_found, line_missing}
use Rattle.rows.proofs.row.RowMatchNestedRoutes.kept_count.Goals as goal

pub returns-in-Some : goal.returns-in-Some
returns-in-Some g c =
    let h = line_found g.T.MatchNestedRoutes.routes c.args.self.now.items.now c.args.line _ _ c.in-Some.ensures in
    c.kept_count.ensures ∙ ap capped (sym h.kept_length)

pub returns-in-None : goal.returns-in-None
returns-in-None g c = ap capped (sym (line_missing g.T.MatchNestedRoutes.routes c.args.self.now.items.now c.args.line c.in-None.ensures).1)
