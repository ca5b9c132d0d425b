use Rattle.std.proofs.Common.{arith}
use Rattle.rules.proofs.NestLines.{kept_as}
use Rattle.rules.proofs.PairLines.{first_kept_length, first_kept, second_kept_length, second_kept}
use Rattle.rows.proofs.pair.PairMatchNestedRoutes.kept_at.Goals as goal

pub kept_at-requires-clause-there : goal.kept_at-requires-clause-there
kept_at-requires-clause-there g c =
    let f = g.A.MatchNestedRoutes.routes c.args.self.now.first in
    let h = g.B.MatchNestedRoutes.routes c.args.self.now.second in
    omega (arith, c.requires.there, first_kept_length f h c.args.line c.in-None.ensures)

pub kept_at-requires-in-Some-clause-there : goal.kept_at-requires-in-Some-clause-there
kept_at-requires-in-Some-clause-there g c =
    let f = g.A.MatchNestedRoutes.routes c.args.self.now.first in
    let h = g.B.MatchNestedRoutes.routes c.args.self.now.second in
    omega (arith, c.requires.there, second_kept_length f h c.args.line c.in-Some.left c.in-Some.ensures)

pub returns-in-None : goal.returns-in-None
returns-in-None g c =
    let f = g.A.MatchNestedRoutes.routes c.args.self.now.first in
    let h = g.B.MatchNestedRoutes.routes c.args.self.now.second in
    kept_as (first_kept f h c.args.line c.in-None.ensures c.args.n) c.kept_at.ensures

pub returns-in-Some : goal.returns-in-Some
returns-in-Some g c =
    let f = g.A.MatchNestedRoutes.routes c.args.self.now.first in
    let h = g.B.MatchNestedRoutes.routes c.args.self.now.second in
    kept_as (second_kept f h c.args.line c.in-Some.left c.in-Some.ensures c.args.n) c.kept_at-in-Some.ensures
