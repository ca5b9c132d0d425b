use Rattle.rules.proofs.FirstRead.{first_beside}
use Rattle.rules.proofs.MatchMore.{either_first, either_second}
use Rattle.rows.proofs.pair.PairMatchNestedRoutes.match_at.Goals as goal

pub returns-in-Some : goal.returns-in-Some
returns-in-Some g c =
    let f = g.A.MatchNestedRoutes.routes c.args.self.now.first in
    let h = g.B.MatchNestedRoutes.routes c.args.self.now.second in
    either_first _ _ _ (first_beside f h c.args.level c.args.rest.start c.args.rest.bytes.now) c.in-Some.ensures

pub returns-in-None : goal.returns-in-None
returns-in-None g c =
    let f = g.A.MatchNestedRoutes.routes c.args.self.now.first in
    let h = g.B.MatchNestedRoutes.routes c.args.self.now.second in
    either_second _ _ _ (first_beside f h c.args.level c.args.rest.start c.args.rest.bytes.now) c.in-None.ensures c.match_at-in-None.ensures
