-- Paths. A path is the list of its bytes, a byte a number below 256.
use Rattle.std.specs.Prelude.{ℕ, Bool, true, not, ◌&&◌, List, [], ◌∷◌, length, ◌==◌, nat_le}

-- the byte "/"
abbrev pub slash : ℕ
slash = 47

abbrev pub is_slash : ℕ → Bool
is_slash b = b == slash

-- any other byte
abbrev pub plain : ℕ → Bool
plain b = not (is_slash b)

-- no slash among some bytes
abbrev pub slash_free : List ℕ → Bool
slash_free [] = true
slash_free (b ∷ bs) = plain b && slash_free bs

-- the most bytes of a lawful path
abbrev pub longest_path : ℕ
longest_path = 2048

-- Rooted: empty, or beginning with a slash.
abbrev pub rooted : List ℕ → Bool
rooted [] = true
rooted (b ∷ bs) = is_slash b

-- LAWFUL: at most 2,048 bytes, and rooted.
abbrev pub lawful : List ℕ → Bool
lawful p = nat_le (length p) longest_path && rooted p

-- What may stand behind the last piece of a path: nothing, or one slash.
pub data Ending : List ℕ → Type 0 where
  nothing : Ending []
  one_slash : Ending (slash ∷ [])
