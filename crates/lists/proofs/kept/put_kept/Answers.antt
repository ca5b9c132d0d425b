use Rattle.std.proofs.Common.{arith}
use Rattle.rules.proofs.Generated.{put_kept}
use Rattle.lists.proofs.kept.put_kept.Goals as goal

pub returns-then-own-gt0-clause-entries : goal.returns-then-own-gt0-clause-entries
returns-then-own-gt0-clause-entries g c = put_kept (g.K.PossibleRouteMatch.meaning c.args.kind.now) _ _ _ c.args.out.now _ c.generate_path-own.ensures.count c.generate_path-own.ensures.entries (λ z. omega (arith, z, c.if-own-gt0.true)) (omega (arith, c.requires, c.generate_path-own.ensures.count)) c.kept_record.ensures
