use Rattle.std.proofs.Common.{sym, ap, ◌∙◌}
use Rattle.rules.specs.Numbers.{capped}
use Rattle.rules.proofs.PairLines.{first_kept_length, second_kept_length}
use Rattle.rows.proofs.pair.PairMatchNestedRoutes.kept_count.Goals as goal

pub returns-in-None : goal.returns-in-None
returns-in-None g c =
    let f = g.A.MatchNestedRoutes.routes c.args.self.now.first in
    let h = g.B.MatchNestedRoutes.routes c.args.self.now.second in
    c.kept_count.ensures ∙ ap capped (sym (first_kept_length f h c.args.line c.in-None.ensures))

pub returns-in-Some : goal.returns-in-Some
returns-in-Some g c =
    let f = g.A.MatchNestedRoutes.routes c.args.self.now.first in
    let h = g.B.MatchNestedRoutes.routes c.args.self.now.second in
    c.kept_count-in-Some.ensures ∙ ap capped (sym (second_kept_length f h c.args.line c.in-Some.left c.in-Some.ensures))
