use Rattle.std.proofs.Common.{arith}
use Rattle.rules.proofs.LinesMore.{given_as}
use Rattle.rules.proofs.RowLines.{line_found, line_missing, line_within}
use Rattle.rows.proofs.row.RowMatchNestedRoutes.line_at.Goals as goal

pub line_at-requires : goal.line_at-requires
line_at-requires g c =
    let f = g.T.MatchNestedRoutes.routes in
    let xs = c.args.self.now.items.now in
    let h = line_found f xs c.args.n _ _ c.in-Some.ensures in
    let w = line_within f g.T.MatchNestedRoutes.bounds xs c.args.n _ _ c.in-Some.ensures in
    record { there = h.there; deep = omega (arith, w.0, c.requires.deep); wide = omega (arith, w.1, c.requires.wide); hooked = omega (arith, w.0, c.requires.hooked) }

pub unreachable-requires : goal.unreachable-requires
unreachable-requires g c = omega (arith, c.requires.there, (line_missing g.T.MatchNestedRoutes.routes c.args.self.now.items.now c.args.n c.in-None.ensures).0)

pub returns : goal.returns
returns g c = given_as (line_found g.T.MatchNestedRoutes.routes c.args.self.now.items.now c.args.n _ _ c.in-Some.ensures).line c.line_at.ensures
