use Rattle.rules.proofs.OnLines.{kept_on_lines}
use Rattle.rules.proofs.laws.keeping_stands.Goals as goal

pub returns : goal.returns
returns c = kept_on_lines
