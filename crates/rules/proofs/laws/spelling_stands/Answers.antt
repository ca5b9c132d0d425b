use Rattle.rules.proofs.Spelled.{spelled_in_pieces}
use Rattle.rules.proofs.Admitted.{one_spelling, reader_admits}
use Rattle.rules.proofs.laws.spelling_stands.Goals as goal

pub returns : goal.returns
returns c = record { pieces = spelled_in_pieces; once = one_spelling; reader = reader_admits }
