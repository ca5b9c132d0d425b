use Rattle.std.proofs.Common.{arith}
use Rattle.rules.proofs.NestLines.{kept_as}
use Rattle.rules.proofs.RowLines.{line_found, line_missing, line_within}
use Rattle.rows.proofs.row.RowMatchNestedRoutes.kept_at.Goals as goal

pub kept_at-requires : goal.kept_at-requires
kept_at-requires g c =
    let f = g.T.MatchNestedRoutes.routes in
    let xs = c.args.self.now.items.now in
    let h = line_found f xs c.args.line _ _ c.in-Some.ensures in
    let w = line_within f g.T.MatchNestedRoutes.bounds xs c.args.line _ _ c.in-Some.ensures in
    record { there = omega (arith, c.requires.there, h.kept_length); wide = omega (arith, w.1, c.requires.wide) }

pub unreachable-requires : goal.unreachable-requires
unreachable-requires g c = omega (arith, c.requires.there, (line_missing g.T.MatchNestedRoutes.routes c.args.self.now.items.now c.args.line c.in-None.ensures).1)

pub returns : goal.returns
returns g c = kept_as ((line_found g.T.MatchNestedRoutes.routes c.args.self.now.items.now c.args.line _ _ c.in-Some.ensures).kept_list c.args.n) c.kept_at.ensures
