use Rattle.std.proofs.Common.{leb, refl, ◌∙◌, rules}
use borrow.Author.Tests.{tests}
use Rattle.std.proofs.lemmas.Iterator.{YieldsList-from_slice}
use Rattle.std.proofs.lemmas.Iterator.Search.{all_from_yields_List}
use Rattle.rules.specs.Bounds.{Bounds}
use Rattle.rules.proofs.Bounded.{row_fits}
use Rattle.rows.proofs.row.RowMatchNestedRoutes.fits_levels.Goals as goal

pub returns : goal.returns
returns g c =
    let b = g.T.MatchNestedRoutes.bounds in
    all_from_yields_List (λ x. leb (b x).levels c.args.levels) _ _ c.all.result c.all.ensures.ran (YieldsList-from_slice c.args.self.now.items.now cc) (λ x v q k. search (rules, tests))
    ∙ row_fits b (λ (x : Bounds). x.levels) (λ x y. refl) refl c.args.levels c.args.self.now.items.now
