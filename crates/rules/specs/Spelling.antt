-- SPELLING: a path spells a list of entries if it is the joining of one piece for each entry, and an ending.
use Rattle.std.specs.Prelude.{◌≡◌, ℕ, List, [], ◌∷◌, ◌++◌, Option}
use Rattle.rules.specs.Paths.{Ending}
use Rattle.rules.specs.Entries.{Entry}
use Rattle.rules.specs.Pieces.{Span, Piece}

-- one piece, as it stands in a spelling
pub record Cut : Type 0 where
  pub piece : List ℕ
  pub value : Option Span

-- Spells es p cs: the path p spells the list es, and cs are its pieces in order.
pub data Spells : List Entry → List ℕ → List Cut → Type 0 where
  ends : {p : List ℕ} → Ending p → Spells [] p []
  goes : {e : Entry} {es : List Entry} {b q p : List ℕ} {v : Option Span} {cs : List Cut} → Piece e b v q → p ≡ b ++ q → Spells es q cs → Spells (e ∷ es) p (record { piece = b; value = v } ∷ cs)

-- the joining of some pieces
abbrev pub joined : List Cut → List ℕ
joined [] = []
joined (c ∷ cs) = c.piece ++ joined cs
