-- What is told of a link, computed.
use Rattle.std.proofs.Common.{◌≡◌, ℕ, true, List, Some, None}
use Rattle.rules.specs.Paths.{lawful}
use Rattle.rules.specs.KeptLists.{kept}
use Rattle.rules.specs.Answers.{Answer}
use Rattle.rules.specs.Admission.{FirstAnswer, NoneSpelled}
use Rattle.rules.specs.Steps.{first_read}
use Rattle.rules.proofs.Admitted.{reader_admits}
use Rattle.firm.specs.Firm.{firm}

pub opens : (p : List ℕ) (a : Answer) → lawful p ≡ true → first_read (kept firm) 0 0 p ≡ Some a → FirstAnswer (kept firm) p a
opens p a l h = ((reader_admits firm p l).some a).0 h

pub opens_none : (p : List ℕ) → lawful p ≡ true → first_read (kept firm) 0 0 p ≡ None → NoneSpelled p (kept firm)
opens_none p l h = (reader_admits firm p l).none.0 h
