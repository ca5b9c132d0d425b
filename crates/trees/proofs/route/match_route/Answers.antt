use Rattle.std.proofs.Common.{◌≡◌, length, replicate, rules}
use Rattle.rules.specs.Records.{zero_level, zero_param}
use Rattle.trees.proofs.Outcomes.{too_short, route_told}
use Rattle.trees.proofs.route.match_route.Goals as goal

pub returns-then-not-fits : goal.returns-then-not-fits
returns-then-not-fits g c =
    let f = g.T.MatchNestedRoutes.routes c.args.tree.now in
    let b = g.T.MatchNestedRoutes.bounds c.args.tree.now in
    too_short f b c.args.path.now c.args.levels.now c.args.params.now c.in_ok-rest.ensures.fault c.if-not-fits.ensures

pub returns : goal.returns
returns g c =
    let f = g.T.MatchNestedRoutes.routes c.args.tree.now in
    let b = g.T.MatchNestedRoutes.bounds c.args.tree.now in
    let zl : c.fill.new.self ≡ replicate (length c.args.levels.now) zero_level = search rules in
    let zp : c.fill-2.new.self ≡ replicate (length c.args.params.now) zero_param = search rules in
    let w = c.in_ok-rest.ensures.whole in
    route_told f b c.args.path.now c.args.levels.now c.args.params.now c.in_ok-rest.ensures.fault c.if-not-fits.ensures _ _ zl zp _ _ _ c.ok_or.result c.ok_or.ensures.value (rw (w.0, w.1) at c.match_at.ensures)
