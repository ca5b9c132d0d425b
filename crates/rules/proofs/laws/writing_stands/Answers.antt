use Rattle.rules.proofs.Written.{written_spells, written_read_back}
use Rattle.rules.proofs.Named.{paths_apart}
use Rattle.rules.proofs.Expanded.{bits_make}
use Rattle.rules.proofs.laws.writing_stands.Goals as goal

pub returns : goal.returns
returns c = record { spells = written_spells; read = written_read_back; apart = paths_apart; numbered = bits_make }
