use Rattle.rules.proofs.LinesMore.{given_as}
use Rattle.rules.proofs.PairLines.{first_line, second_there, second_line}
use Rattle.rows.proofs.pair.PairMatchNestedRoutes.line_at.Goals as goal

pub line_at-requires-in-Some-clause-there : goal.line_at-requires-in-Some-clause-there
line_at-requires-in-Some-clause-there g c =
    let f = g.A.MatchNestedRoutes.routes c.args.self.now.first in
    let h = g.B.MatchNestedRoutes.routes c.args.self.now.second in
    second_there f h c.args.n c.in-Some.left c.in-Some.ensures c.requires.there

pub returns-in-None : goal.returns-in-None
returns-in-None g c =
    let f = g.A.MatchNestedRoutes.routes c.args.self.now.first in
    let h = g.B.MatchNestedRoutes.routes c.args.self.now.second in
    given_as (first_line f h c.args.n c.in-None.ensures) c.line_at.ensures

pub returns-in-Some : goal.returns-in-Some
returns-in-Some g c =
    let f = g.A.MatchNestedRoutes.routes c.args.self.now.first in
    let h = g.B.MatchNestedRoutes.routes c.args.self.now.second in
    given_as (second_line f h c.args.n c.in-Some.left c.in-Some.ensures) c.line_at-in-Some.ensures
