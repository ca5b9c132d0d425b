use Rattle.std.proofs.Common.{rules}
use Rattle.std.proofs.lemmas.Grind.{common_steps}
use Rattle.std.proofs.lemmas.List.{take_all}
use Rattle.rules.proofs.RecordOf.{text_short}
use Rattle.segments.proofs.static_segment.StaticSegmentPossibleRouteMatch.generate_path.Goals as goal

pub returns-clause-entries : goal.returns-clause-entries
returns-clause-entries g c =
    let s = c.args.self.now.text in
    let whole = take_all 24 (g.T.AsPath.text s) (text_short (g.T.AsPath.text s) (g.T.AsPath.abides s)) in
    search (rules, common_steps)
