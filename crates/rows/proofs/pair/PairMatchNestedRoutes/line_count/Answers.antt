use Rattle.std.proofs.Common.{sym, ap, ◌∙◌, ◌+◌, ◌-◌, ◌^◌, min, length, length-append}
use Rattle.rules.specs.Lines.{lines}
use Rattle.rules.specs.Numbers.{capped}
use Rattle.rules.proofs.Capped.{capped_add}
use Rattle.rules.proofs.LinesMore.{lines_beside}
use Rattle.rows.proofs.pair.PairMatchNestedRoutes.line_count.Goals as goal

pub returns : goal.returns
returns g c =
    let f = g.A.MatchNestedRoutes.routes c.args.self.now.first in
    let h = g.B.MatchNestedRoutes.routes c.args.self.now.second in
    c.saturating_add.ensures
    ∙ ap (λ x. min (x + c.line_count-2.result) (2 ^ 64 - 1)) c.line_count.ensures
    ∙ ap (λ x. min (capped (length (lines f)) + x) (2 ^ 64 - 1)) c.line_count-2.ensures
    ∙ capped_add (length (lines f)) (length (lines h))
    ∙ ap capped (sym (length-append (lines f) (lines h)) ∙ ap length (sym (lines_beside f h)))
