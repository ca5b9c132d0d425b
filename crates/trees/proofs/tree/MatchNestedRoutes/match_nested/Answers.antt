use Rattle.std.proofs.Common.{sym}
use Rattle.trees.proofs.Giving.{rest_whole, nested_found}
use Rattle.trees.proofs.tree.MatchNestedRoutes.match_nested.Goals as goal

pub returns-then-fits : goal.returns-then-fits
returns-then-fits g c =
    let f = g.Self.MatchNestedRoutes.routes c.args.self.now in
    let b = g.Self.MatchNestedRoutes.bounds c.args.self.now in
    let w = rest_whole c.args.path.now _ _ c.in_ok-rest.ensures in
    nested_found f b c.args.path.now c.args.levels.now _ c.args.params.now _ _ w.0 (sym c.if-fits.ensures) (rw (w.1, w.2) at c.match_at.ensures)
