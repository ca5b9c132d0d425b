use Rattle.std.proofs.Common.{◌≡◌, length, replicate, sym, arith, rules}
use Rattle.rules.specs.Lines.{lines}
use Rattle.rules.specs.KeptLists.{kept, of_line}
use Rattle.rules.specs.Records.{zero_segment}
use Rattle.rules.proofs.Capped.{below_capped}
use Rattle.trees.proofs.Giving.{kept_found}
use Rattle.trees.proofs.tree.MatchNestedRoutes.generate_kept.Goals as goal

pub returns : goal.returns
returns g c =
    let f = g.Self.MatchNestedRoutes.routes c.args.self.now in
    let b = g.Self.MatchNestedRoutes.bounds c.args.self.now in
    let zeros : c.fill.new.self ≡ replicate (length c.args.entries.now) zero_segment = search rules in
    let there = below_capped c.args.line (length (lines f)) (omega (arith, c.line_count.ensures, c.if-line-line_count.false)) in
    let kept_there = below_capped c.args.n (length (of_line c.args.line (kept f))) (omega (arith, c.kept_count.ensures, c.if-n-kept_count.false)) in
    kept_found f b c.args.line c.args.n c.args.entries.now _ _ _ (sym c.if-not-fits_entries.ensures) there kept_there zeros c.kept_at.ensures
