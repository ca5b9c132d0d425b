use Rattle.std.proofs.Common.{◌≡◌}
use Rattle.nests.specs.Own.{own_route}
use Rattle.rules.specs.KeptLists.{kept_over, each_keeping}
use Rattle.rules.specs.Steps.{first_read}
use Rattle.nests.proofs.nested_route.NestedRouteMatchNestedRoutes.match_at.Given as goal

abbrev pub invariant-loop-keep : goal.invariant-loop-keep
invariant-loop-keep g l =
    let r = own_route g.L.KindList.entries l.self in
    let below = g.C.Below.lists l.self.children in
    (first_read (kept_over r below) l.level l.rest.start l.rest.bytes.now ≡ first_read (each_keeping r l.keep below) l.level l.rest.start l.rest.bytes.now) × (l.levels ≡ l.initial.levels) × (l.params ≡ l.initial.params)
