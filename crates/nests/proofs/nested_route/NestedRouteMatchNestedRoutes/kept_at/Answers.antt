use Rattle.std.proofs.Common.{◌≡◌, ◌-◌, ◌/◌, ◌%◌, ◌<◌, ◌≤◌, ◌∷◌, length, get_or, sym, ap, ◌∙◌, arith, rules}
use Rattle.nests.specs.Own.{own_route}
use Rattle.rules.specs.Keeping.{optionals}
use Rattle.rules.specs.KeptLists.{keeping, of_line, no_list}
use Rattle.rules.proofs.Capped.{capped_is}
use Rattle.rules.proofs.Takes.{optionals_le, kept_few}
use Rattle.rules.proofs.Overlaid.{behind_length}
use Rattle.rules.proofs.NestLines.{parts, kept_within, kept_out, kept_as}
use Rattle.nests.proofs.nested_route.NestedRouteMatchNestedRoutes.kept_at.Goals as goal

pub nonzero_div-dropped : goal.nonzero_div-dropped
nonzero_div-dropped g c =
    let self = c.args.self.now in
    let r = own_route g.L.KindList.entries self in
    let p = parts r (g.C.Below.lists self.children) c.args.line _ (g.C.Below.listing self.children r) c.args.n _ (omega (arith, c.ranges.n.fits)) c.kept_lists_below-below.ensures c.requires.there in
    p.some

pub nonzero_rem-rest : goal.nonzero_rem-rest
nonzero_rem-rest g c =
    let self = c.args.self.now in
    let r = own_route g.L.KindList.entries self in
    let p = parts r (g.C.Below.lists self.children) c.args.line _ (g.C.Below.listing self.children r) c.args.n _ (omega (arith, c.ranges.n.fits)) c.kept_lists_below-below.ensures c.requires.there in
    p.some

pub overflow_sub-keep : goal.overflow_sub-keep
overflow_sub-keep g c =
    let self = c.args.self.now in
    let r = own_route g.L.KindList.entries self in
    let p = parts r (g.C.Below.lists self.children) c.args.line _ (g.C.Below.listing self.children r) c.args.n _ (omega (arith, c.ranges.n.fits)) c.kept_lists_below-below.ensures c.requires.there in
    let few : optionals r.entries < 18446744073709551616 = omega (arith, optionals_le r.entries, c.requires.wide) in
    omega (arith, p.few, c.optional_count.ensures, capped_is (optionals r.entries) few)

pub offset_bounds-entries-own : goal.offset_bounds-entries-own
offset_bounds-entries-own g c =
    let self = c.args.self.now in
    let r = own_route g.L.KindList.entries self in
    let keep = c.optional_count.result - c.args.n / c.kept_lists_below-below.result in
    let own = c.generate_kept-own in
    let within : own.result ≤ length own.new.out = omega (arith, c.requires.wide, own.ensures.count, kept_few keep r.entries, own.auto.out) in
    search rules

pub slice_bounds-kept_below-count : goal.slice_bounds-kept_below-count
slice_bounds-kept_below-count g c =
    let self = c.args.self.now in
    let r = own_route g.L.KindList.entries self in
    let keep = c.optional_count.result - c.args.n / c.kept_lists_below-below.result in
    let own = c.generate_kept-own in
    let within : own.result ≤ length own.new.out = omega (arith, c.requires.wide, own.ensures.count, kept_few keep r.entries, own.auto.out) in
    within

pub slice_bounds-kept_below-start : goal.slice_bounds-kept_below-start
slice_bounds-kept_below-start g c =
    let self = c.args.self.now in
    let r = own_route g.L.KindList.entries self in
    let keep = c.optional_count.result - c.args.n / c.kept_lists_below-below.result in
    let own = c.generate_kept-own in
    let within : own.result ≤ length own.new.out = omega (arith, c.requires.wide, own.ensures.count, kept_few keep r.entries, own.auto.out) in
    search rules

pub kept_below-requires : goal.kept_below-requires
kept_below-requires g c =
    let self = c.args.self.now in
    let r = own_route g.L.KindList.entries self in
    let p = parts r (g.C.Below.lists self.children) c.args.line _ (g.C.Below.listing self.children r) c.args.n _ (omega (arith, c.ranges.n.fits)) c.kept_lists_below-below.ensures c.requires.there in
    let keep = c.optional_count.result - c.args.n / c.kept_lists_below-below.result in
    let own = c.generate_kept-own in
    record {
      there = p.below;
      wide = omega (arith, c.requires.wide, own.ensures.count, kept_few keep r.entries, own.auto.out, behind_length own.result own.new.out);
    }

pub overflow_add-result : goal.overflow_add-result
overflow_add-result g c =
    let self = c.args.self.now in
    let r = own_route g.L.KindList.entries self in
    let keep = c.optional_count.result - c.args.n / c.kept_lists_below-below.result in
    let own = c.generate_kept-own in
    let within : own.result ≤ length own.new.out = omega (arith, c.requires.wide, own.ensures.count, kept_few keep r.entries, own.auto.out) in
    let few = kept_within r keep _ own.result c.kept_below.result c.args.entries.now _ _ own.ensures.count own.ensures.written within c.kept_below.ensures c.kept_below.auto.entries in
    record { fits = omega (arith, few) }

pub returns : goal.returns
returns g c =
    let self = c.args.self.now in
    let r = own_route g.L.KindList.entries self in
    let p = parts r (g.C.Below.lists self.children) c.args.line _ (g.C.Below.listing self.children r) c.args.n _ (omega (arith, c.ranges.n.fits)) c.kept_lists_below-below.ensures c.requires.there in
    let keep = c.optional_count.result - c.args.n / c.kept_lists_below-below.result in
    let own = c.generate_kept-own in
    let within : own.result ≤ length own.new.out = omega (arith, c.requires.wide, own.ensures.count, kept_few keep r.entries, own.auto.out) in
    let few : optionals r.entries < 18446744073709551616 = omega (arith, optionals_le r.entries, c.requires.wide) in
    let all : c.optional_count.result ≡ optionals r.entries = c.optional_count.ensures ∙ capped_is (optionals r.entries) few in
    kept_as (p.routes_are ∙ ap (λ m. keeping r (m - c.args.n / c.kept_lists_below-below.result) ∷ (get_or (of_line c.args.line (g.C.Below.lists self.children)) (c.args.n % c.kept_lists_below-below.result) no_list).routes) (sym all))
    (kept_out r keep _ own.result c.kept_below.result c.args.entries.now _ _ own.ensures.count own.ensures.written within c.kept_below.ensures)
