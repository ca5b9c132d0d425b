use Rattle.std.proofs.Common.{◌≡◌, ◌&&◌, leb, length, replicate, sym, arith, rules}
use Rattle.std.proofs.lemmas.Bool.{and_from}
use Rattle.rules.specs.Lines.{lines}
use Rattle.rules.specs.Records.{zero_segment}
use Rattle.rules.proofs.Capped.{below_capped}
use Rattle.trees.proofs.Giving.{line_found}
use Rattle.trees.proofs.tree.MatchNestedRoutes.generate_routes.Goals as goal

pub returns : goal.returns
returns g c =
    let f = g.Self.MatchNestedRoutes.routes c.args.self.now in
    let b = g.Self.MatchNestedRoutes.bounds c.args.self.now in
    let is = c.args.ids.now in
    let es = c.args.entries.now in
    let hs = c.args.hooks.now in
    let zi : c.fill.new.self ≡ replicate (length is) 0 = search rules in
    let ze : c.fill-2.new.self ≡ replicate (length es) zero_segment = search rules in
    let zh : c.fill-3.new.self ≡ replicate (length hs) 0 = search rules in
    let there = below_capped c.args.n (length (lines f)) (omega (arith, c.line_count.ensures, c.if-n-line_count.false)) in
    let deep = and_from (leb b.levels (length is)) (leb b.levels (length hs)) (sym c.if-not-fits_levels.ensures) (sym c.if-not-fits_levels-2.ensures) in
    line_found f b c.args.n is _ _ es _ _ hs _ _ _ (and_from (leb b.levels (length is) && leb b.levels (length hs)) (leb b.entries (length es)) deep (sym c.if-not-fits_entries.ensures)) there zi ze zh c.line_at.ensures
