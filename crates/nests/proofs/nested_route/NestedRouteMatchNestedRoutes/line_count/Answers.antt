use Rattle.std.proofs.Common.{length, sym, ap, ◌∙◌}
use Rattle.nests.specs.Own.{own_route}
use Rattle.rules.specs.Numbers.{capped}
use Rattle.rules.proofs.LinesMore.{under_length}
use Rattle.nests.proofs.nested_route.NestedRouteMatchNestedRoutes.line_count.Goals as goal

pub returns : goal.returns
returns g c =
    let self = c.args.self.now in
    let r = own_route g.L.KindList.entries self in
    c.lines_below.ensures ∙ ap capped (sym (under_length r (g.C.Below.rests self.children)) ∙ ap length (sym (g.C.Below.lining self.children r)))
