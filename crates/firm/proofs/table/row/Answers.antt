use Rattle.std.proofs.Common.{arith}
use Rattle.std.proofs.lemmas.Grind.{common_steps}
use Rattle.firm.proofs.Listed.{stands_listed}
use Rattle.firm.proofs.table.row.Goals as goal

pub returns-clause-stands : goal.returns-clause-stands
returns-clause-stands c = stands_listed _ c.args.n (grind (arith, common_steps))
