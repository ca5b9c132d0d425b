use Rattle.std.proofs.Common.{length, ap, ◌∙◌, arith}
use Rattle.rules.proofs.Bounded.{item_within}
use Rattle.rules.proofs.RowRead.{row_more, row_all}
use Rattle.rules.proofs.MatchMore.{either_first, neither_yet, matched_none}
use Rattle.rows.proofs.row.RowMatchNestedRoutes.match_at.Goals as goal

pub match_at-requires : goal.match_at-requires
match_at-requires g c =
    let w = item_within g.T.MatchNestedRoutes.bounds c.args.self.now.items.now c.loop-item.item-index c.item-item.result c.loop-item-test.true c.item-item.is in
    record {
      numbered = omega (arith, w.0, c.requires.numbered);
      deep = omega (arith, w.0, c.requires.deep, ap length c.loop-item.invariant.1);
      wide = omega (arith, w.1, c.requires.wide, ap length c.loop-item.invariant.2);
    }

pub returns-in-Some : goal.returns-in-Some
returns-in-Some g c =
    let f = g.T.MatchNestedRoutes.routes in
    let m = rw (c.loop-item.invariant.1, c.loop-item.invariant.2) at c.in-Some.ensures in
    either_first _ _ _ (c.loop-item.invariant.0 ∙ row_more f c.args.level c.args.rest.start c.args.rest.bytes.now c.args.self.now.items.now c.loop-item.item-index c.item-item.result c.loop-item-test.true c.item-item.is) m

pub loop-item-preserved : goal.loop-item-preserved
loop-item-preserved g c =
    let f = g.T.MatchNestedRoutes.routes in
    let n = neither_yet _ _ _ (c.loop-item.invariant.0 ∙ row_more f c.args.level c.args.rest.start c.args.rest.bytes.now c.args.self.now.items.now c.loop-item.item-index c.item-item.result c.loop-item-test.true c.item-item.is) c.in_default.ensures in
    (n.0, n.1 ∙ c.loop-item.invariant.1, n.2 ∙ c.loop-item.invariant.2)

pub returns : goal.returns
returns g c =
    let none = c.loop-item.invariant.0 ∙ row_all g.T.MatchNestedRoutes.routes c.args.level c.args.rest.start c.args.rest.bytes.now c.args.self.now.items.now c.loop-item.item-index c.loop-item-test.false in
    rw (c.loop-item.invariant.1, c.loop-item.invariant.2) (matched_none _ c.args.levels.now c.args.params.now none)
