use Rattle.std.proofs.Common.{◌<◌, sym, refl, ap, ◌∙◌, arith}
use Rattle.nests.specs.Own.{own_route}
use Rattle.rules.specs.KeptLists.{keeping, under, each_keeping}
use Rattle.rules.specs.Keeping.{optionals}
use Rattle.rules.proofs.Takes.{optionals_le}
use Rattle.rules.proofs.Capped.{capped_is}
use Rattle.rules.specs.Steps.{first_read, Matched}
use Rattle.rules.proofs.Keepings.{keeping_found, keeping_last, keeping_next}
use Rattle.nests.proofs.nested_route.NestedRouteMatchNestedRoutes.match_at.Goals as goal

pub loop-keep-init : goal.loop-keep-init
loop-keep-init g c =
    let self = c.args.self.now in
    let r = own_route g.L.KindList.entries self in
    let below = g.C.Below.lists self.children in
    let few : optionals r.entries < 18446744073709551616 = omega (arith, optionals_le r.entries, c.requires.wide) in
    (ap (λ n. first_read (each_keeping r n below) c.args.level c.args.rest.start c.args.rest.bytes.now) (sym (c.optional_count-count.ensures ∙ capped_is (optionals r.entries) few)), refl, refl)

pub returns-in-Some : goal.returns-in-Some
returns-in-Some g c =
    let self = c.args.self.now in
    let r = own_route g.L.KindList.entries self in
    let below = g.C.Below.lists self.children in
    let is = ap (λ ls. first_read ls c.args.level c.args.rest.start c.args.rest.bytes.now) (g.C.Below.listing self.children r) ∙ c.loop-keep.invariant.0 in
    let m : Matched (first_read (under (keeping r c.loop-keep.keep) below) c.args.level c.args.rest.start c.args.rest.bytes.now) _ c.args.levels.now _ c.args.params.now _ = rw (c.loop-keep.invariant.1, c.loop-keep.invariant.2) at c.in-Some.ensures in
    keeping_found r below c.args.level c.args.rest.start c.args.rest.bytes.now _ c.loop-keep.keep is m

pub loop-keep-preserved : goal.loop-keep-preserved
loop-keep-preserved g c =
    let self = c.args.self.now in
    let r = own_route g.L.KindList.entries self in
    let below = g.C.Below.lists self.children in
    let n = keeping_next r below c.args.level c.args.rest.start c.args.rest.bytes.now _ c.loop-keep.keep c.loop-keep.invariant.0 (λ z. omega (arith, z, c.if-keep-gt0.true)) c.in_default.ensures in
    (n.0, n.1 ∙ c.loop-keep.invariant.1, n.2 ∙ c.loop-keep.invariant.2)

pub returns-in_default : goal.returns-in_default
returns-in_default g c =
    let self = c.args.self.now in
    let r = own_route g.L.KindList.entries self in
    let below = g.C.Below.lists self.children in
    let is = ap (λ ls. first_read ls c.args.level c.args.rest.start c.args.rest.bytes.now) (g.C.Below.listing self.children r) ∙ c.loop-keep.invariant.0 in
    let m : Matched (first_read (under (keeping r c.loop-keep.keep) below) c.args.level c.args.rest.start c.args.rest.bytes.now) _ c.args.levels.now _ c.args.params.now _ = rw (c.loop-keep.invariant.1, c.loop-keep.invariant.2) at c.in_default.ensures in
    keeping_last r below c.args.level c.args.rest.start c.args.rest.bytes.now _ c.loop-keep.keep is (omega (arith, c.if-keep-gt0.false)) m
