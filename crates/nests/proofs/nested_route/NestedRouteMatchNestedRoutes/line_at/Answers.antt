use Rattle.std.proofs.Common.{◌+◌, ◌<◌, ◌≤◌, length, get_or, set, refl, ap, ◌∙◌, arith, length-set}
use Rattle.nests.specs.Own.{own_route}
use Rattle.rules.specs.Lines.{no_line}
use Rattle.rules.proofs.Overlaid.{behind_length}
use Rattle.rules.proofs.LinesMore.{given_as, given_few, given_under, under_length, under_at, hooks_few}
use Rattle.nests.proofs.nested_route.NestedRouteMatchNestedRoutes.line_at.Goals as goal

pub line_below-below-requires : goal.line_below-below-requires
line_below-below-requires g c =
    let self = c.args.self.now in
    let r = own_route g.L.KindList.entries self in
    record {
      there = omega (arith, c.requires.there, ap length (g.C.Below.lining self.children r), under_length r (g.C.Below.rests self.children));
      deep = omega (arith, c.requires.deep, behind_length 1 (set c.args.ids.now 0 self.id), length-set c.args.ids.now 0 self.id);
      wide = omega (arith, c.requires.wide, behind_length c.generate-own_entries.result c.generate-own_entries.new.out, c.generate-own_entries.ensures.count, c.generate-own_entries.auto.out);
      hooked = omega (arith, c.requires.hooked, behind_length c.put_hook-own_hooks.result c.put_hook-own_hooks.new.hooks, c.put_hook-own_hooks.ensures.count, hooks_few r, c.put_hook-own_hooks.auto.hooks);
    }

pub overflow_add-result-2 : goal.overflow_add-result-2
overflow_add-result-2 g c =
    let self = c.args.self.now in
    let r = own_route g.L.KindList.entries self in
    let own = c.generate-own_entries in
    let hook = c.put_hook-own_hooks in
    let below = c.line_below-below in
    let some : 0 < length c.args.ids.now = omega (arith, c.requires.deep) in
    let within : own.result ≤ length own.new.out = omega (arith, c.requires.wide, own.ensures.count, own.auto.out) in
    let within' : hook.result ≤ length hook.new.hooks = omega (arith, c.requires.hooked, hook.ensures.count, hooks_few r, hook.auto.hooks) in
    let rests = g.C.Below.rests self.children in
    let few = given_few r (get_or rests c.args.n no_line) c.args.ids.now _ _ c.args.entries.now _ _ c.args.hooks.now _ _ below.result own.result hook.result refl some own.ensures.written own.ensures.count within hook.ensures.written hook.ensures.count within' below.ensures below.auto.ids below.auto.entries below.auto.hooks in
    record { fits = omega (arith, few.1) }

pub returns : goal.returns
returns g c =
    let self = c.args.self.now in
    let r = own_route g.L.KindList.entries self in
    let own = c.generate-own_entries in
    let hook = c.put_hook-own_hooks in
    let below = c.line_below-below in
    let some : 0 < length c.args.ids.now = omega (arith, c.requires.deep) in
    let within : own.result ≤ length own.new.out = omega (arith, c.requires.wide, own.ensures.count, own.auto.out) in
    let within' : hook.result ≤ length hook.new.hooks = omega (arith, c.requires.hooked, hook.ensures.count, hooks_few r, hook.auto.hooks) in
    let rests = g.C.Below.rests self.children in
    let lining = g.C.Below.lining self.children r in
    let there : c.args.n < length rests = omega (arith, c.requires.there, ap length lining, under_length r rests) in
    given_as (ap (λ ls. get_or ls c.args.n no_line) lining ∙ under_at r rests c.args.n there)
    (given_under r (get_or rests c.args.n no_line) c.args.ids.now _ _ c.args.entries.now _ _ c.args.hooks.now _ _ below.result own.result hook.result refl some own.ensures.written own.ensures.count within hook.ensures.written hook.ensures.count within' below.ensures _
    (ap (λ m. record { ids = below.result.ids + 1; entries = below.result.entries + own.result; hooks = below.result.hooks + hook.result; mode = m }) c.higher.ensures))
