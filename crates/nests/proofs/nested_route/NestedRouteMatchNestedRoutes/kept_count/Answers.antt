use Rattle.nests.specs.Own.{own_route}
use Rattle.rules.proofs.NestLines.{nest_kept_count}
use Rattle.nests.proofs.nested_route.NestedRouteMatchNestedRoutes.kept_count.Goals as goal

pub returns : goal.returns
returns g c =
    let self = c.args.self.now in
    let r = own_route g.L.KindList.entries self in
    nest_kept_count r (g.C.Below.lists self.children) c.args.line _ (g.C.Below.listing self.children r) _ _ _ _ c.optional_count.ensures c.saturating_add-kept.ensures c.kept_lists_below.ensures c.saturating_mul.ensures
