-- PIECES: what may stand in a path for one entry.
use Rattle.std.specs.Prelude.{◌≡◌, ℕ, true, List, [], ◌∷◌, length, Some, None, Option, ◌≢◌}
use Rattle.rules.specs.Paths.{slash, slash_free}
use Rattle.rules.specs.Entries.{Entry, unit, static, param, splat}
use Rattle.rules.specs.Taking.{value_length}

-- the value of a parameter: not empty, and without a slash
pub record Value (v : List ℕ) : Type 0 where
  pub long : value_length (length v) ≡ true
  pub free : slash_free v ≡ true

-- A static text that is neither empty nor the bare slash, and the same without its own leading slash.
pub data Word : List ℕ → List ℕ → Type 0 where
  slashed : {c : ℕ} {w : List ℕ} → Word (slash ∷ (c ∷ w)) (c ∷ w)
  unslashed : {c : ℕ} {w : List ℕ} → (c ≢ slash) → Word (c ∷ w) (c ∷ w)

-- where a value stands in its piece
pub record Span : Type 0 where
  pub start : ℕ
  pub len : ℕ

-- a value right behind the slash of its piece
abbrev pub behind_slash : List ℕ → Option Span
behind_slash v = Some (record { start = 1; len = length v })

-- Piece e b v q: the bytes b may stand for the entry e, with its value at v, where q is all of the path behind them. An
-- OptionalParam has no piece: it is kept as a Param, or dropped.
pub data Piece : Entry → List ℕ → Option Span → List ℕ → Type 0 where
  of_unit : {q : List ℕ} → Piece unit [] None q
  of_empty : {q : List ℕ} → Piece (static []) [] None q
  -- at a bare slash a byte is still to come
  of_bare : {b : ℕ} {q : List ℕ} → Piece (static (slash ∷ [])) [] None (b ∷ q)
  of_word : {t w q : List ℕ} → Word t w → Piece (static t) (slash ∷ w) None q
  of_param : {x v q : List ℕ} → Value v → Piece (param x) (slash ∷ v) (behind_slash v) q
  -- everything behind a splat is empty
  of_splat : {x v : List ℕ} → Piece (splat x) (slash ∷ v) (behind_slash v) []
  of_no_splat : {x : List ℕ} → Piece (splat x) [] (Some (record { start = 0; len = 0 })) []
