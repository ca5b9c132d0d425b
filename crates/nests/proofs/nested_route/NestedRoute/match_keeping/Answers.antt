use Rattle.std.proofs.Common.{◌≤◌, length, arith, rules}
use Rattle.nests.specs.Own.{own_route}
use Rattle.rules.proofs.Takes.{list_took}
use Rattle.rules.proofs.Overlaid.{behind_length}
use Rattle.rules.proofs.MatchMore.{keeping_none, keeping_child_none, child_few, keeping_some}
use Rattle.nests.proofs.nested_route.NestedRoute.match_keeping.Goals as goal

pub returns-in_err-taken : goal.returns-in_err-taken
returns-in_err-taken g c =
    let r = own_route g.L.KindList.entries c.args.self.now in
    let below = g.C.Below.lists c.args.self.now.children in
    rw c.from_residual.ensures (keeping_none r c.args.keep below c.args.level c.args.rest.start c.args.rest.bytes.now _ _ c.in_err-taken.ensures)

pub behind-requires : goal.behind-requires
behind-requires g c =
    let s = list_took c.args.keep (g.L.KindList.entries c.args.self.now.list) c.args.rest.bytes.now _ _ c.args.rest.lawful c.in_ok-taken.ensures in
    record { within = s.within; rooted = s.rooted_rest }

pub offset_bounds-params-values : goal.offset_bounds-params-values
offset_bounds-params-values g c =
    let s = list_took c.args.keep (g.L.KindList.entries c.args.self.now.list) c.args.rest.bytes.now _ _ c.args.rest.lawful c.in_ok-taken.ensures in
    let h : c.in_ok-taken.values ≤ length c.args.params.now = omega (arith, s.few, c.requires.wide) in
    search rules

pub slice_bounds-match_below-count-2 : goal.slice_bounds-match_below-count-2
slice_bounds-match_below-count-2 g c =
    let s = list_took c.args.keep (g.L.KindList.entries c.args.self.now.list) c.args.rest.bytes.now _ _ c.args.rest.lawful c.in_ok-taken.ensures in
    omega (arith, s.few, c.requires.wide)

pub slice_bounds-match_below-start-2 : goal.slice_bounds-match_below-start-2
slice_bounds-match_below-start-2 g c =
    let s = list_took c.args.keep (g.L.KindList.entries c.args.self.now.list) c.args.rest.bytes.now _ _ c.args.rest.lawful c.in_ok-taken.ensures in
    let h : c.in_ok-taken.values ≤ length c.args.params.now = omega (arith, s.few, c.requires.wide) in
    search rules

pub match_below-requires : goal.match_below-requires
match_below-requires g c =
    let s = list_took c.args.keep (g.L.KindList.entries c.args.self.now.list) c.args.rest.bytes.now _ _ c.args.rest.lawful c.in_ok-taken.ensures in
    record {
      numbered = omega (arith, c.requires.numbered);
      deep = omega (arith, c.requires.deep, behind_length 1 c.args.levels.now);
      wide = omega (arith, s.few, c.requires.wide, behind_length c.in_ok-taken.values c.args.params.now);
    }

pub returns-in_err-routes : goal.returns-in_err-routes
returns-in_err-routes g c =
    let r = own_route g.L.KindList.entries c.args.self.now in
    let below = g.C.Below.lists c.args.self.now.children in
    let s = list_took c.args.keep r.entries c.args.rest.bytes.now _ _ c.args.rest.lawful c.in_ok-taken.ensures in
    let wide : c.in_ok-taken.values ≤ length c.args.params.now = omega (arith, s.few, c.requires.wide) in
    let child = rw (c.behind.ensures.start, c.behind.ensures.bytes) at c.match_below.ensures in
    rw c.from_residual-in_err-routes.ensures (keeping_child_none r c.args.keep below c.args.level c.args.rest.start c.args.rest.bytes.now c.args.levels.now c.args.params.now c.in_ok-taken.taken c.in_ok-taken.values c.in_ok-taken.ensures (omega (arith, c.requires.deep)) wide _ _ _ child c.in_err-routes.was)

pub overflow_add-result : goal.overflow_add-result
overflow_add-result g c =
    let r = own_route g.L.KindList.entries c.args.self.now in
    let below = g.C.Below.lists c.args.self.now.children in
    let s = list_took c.args.keep r.entries c.args.rest.bytes.now _ _ c.args.rest.lawful c.in_ok-taken.ensures in
    let wide : c.in_ok-taken.values ≤ length c.args.params.now = omega (arith, s.few, c.requires.wide) in
    let child = rw (c.behind.ensures.start, c.behind.ensures.bytes) at c.match_below.ensures in
    let few = child_few r c.args.keep below c.args.level c.args.rest.start c.args.rest.bytes.now c.args.levels.now c.args.params.now c.in_ok-taken.taken c.in_ok-taken.values c.in_ok-taken.ensures (omega (arith, c.requires.deep)) wide _ _ _ child (c.in_ok-routes.routes, c.in_ok-routes.more) c.in_ok-routes.was c.match_below.auto.levels c.match_below.auto.params in
    record { fits = omega (arith, few.0, c.requires.numbered, c.requires.deep) }

pub overflow_add-result-2 : goal.overflow_add-result-2
overflow_add-result-2 g c =
    let r = own_route g.L.KindList.entries c.args.self.now in
    let below = g.C.Below.lists c.args.self.now.children in
    let s = list_took c.args.keep r.entries c.args.rest.bytes.now _ _ c.args.rest.lawful c.in_ok-taken.ensures in
    let wide : c.in_ok-taken.values ≤ length c.args.params.now = omega (arith, s.few, c.requires.wide) in
    let child = rw (c.behind.ensures.start, c.behind.ensures.bytes) at c.match_below.ensures in
    let few = child_few r c.args.keep below c.args.level c.args.rest.start c.args.rest.bytes.now c.args.levels.now c.args.params.now c.in_ok-taken.taken c.in_ok-taken.values c.in_ok-taken.ensures (omega (arith, c.requires.deep)) wide _ _ _ child (c.in_ok-routes.routes, c.in_ok-routes.more) c.in_ok-routes.was c.match_below.auto.levels c.match_below.auto.params in
    record { fits = omega (arith, few.1) }

pub returns : goal.returns
returns g c =
    let r = own_route g.L.KindList.entries c.args.self.now in
    let below = g.C.Below.lists c.args.self.now.children in
    let s = list_took c.args.keep r.entries c.args.rest.bytes.now _ _ c.args.rest.lawful c.in_ok-taken.ensures in
    let wide : c.in_ok-taken.values ≤ length c.args.params.now = omega (arith, s.few, c.requires.wide) in
    let child = rw (c.behind.ensures.start, c.behind.ensures.bytes) at c.match_below.ensures in
    rw c.start.ensures (keeping_some r c.args.keep below c.args.level c.args.rest.start c.args.rest.bytes.now c.args.levels.now c.args.params.now c.in_ok-taken.taken c.in_ok-taken.values c.in_ok-taken.ensures (omega (arith, c.requires.deep)) wide _ _ _ child (c.in_ok-routes.routes, c.in_ok-routes.more) _ _ c.part_len.ensures c.in_ok-routes.was c.read.ensures.written)
