-- VARIANTS of a list: each OptionalParam is kept as a Param, or left out.
use Rattle.std.specs.Prelude.{◌≡◌, ℕ, zero, suc, ◌+◌, ◌-◌, ◌^◌, ◌<◌, Bool, true, false, cond, List, [], ◌∷◌, length, nat_lt}
use Rattle.rules.specs.Entries.{Entry, is_optional}
use Rattle.rules.specs.Keeping.{optionals, as_kept}

-- the first bit is true: left out; false: kept
abbrev pub first_bit : List Bool → Bool
first_bit [] = false
first_bit (b ∷ bs) = b

abbrev pub other_bits : List Bool → List Bool
other_bits [] = []
other_bits (b ∷ bs) = bs

-- a list with one bit for each OptionalParam, in order
abbrev pub expanded : List Entry → List Bool → List Entry
expanded [] bs = []
expanded (e ∷ es) bs = cond (is_optional e) (cond (first_bit bs) (expanded es (other_bits bs)) (as_kept e ∷ expanded es (other_bits bs))) (e ∷ expanded es bs)

-- the k bits of a number, the highest first
abbrev pub bits_of : ℕ → ℕ → List Bool
bits_of zero v = []
bits_of (suc k) v = cond (nat_lt v (2 ^ k)) (false ∷ bits_of k v) (true ∷ bits_of k (v - 2 ^ k))

-- THE VARIANT of a number, below 2 ^ k for k OptionalParams
abbrev pub variant_of : List Entry → ℕ → List Entry
variant_of es v = expanded es (bits_of (optionals es) v)

-- the number that some bits make, the first being the highest
abbrev pub number_of : List Bool → ℕ
number_of [] = 0
number_of (b ∷ bs) = cond b (2 ^ length bs) 0 + number_of bs

-- The bits of a number are as many as asked for, and make that number.
pub record BitsMake (k v : ℕ) : Type 0 where
  pub count : length (bits_of k v) ≡ k
  pub number : number_of (bits_of k v) ≡ v

abbrev pub VariantsNumbered : Type 0
VariantsNumbered = (k v : ℕ) → v < 2 ^ k → BitsMake k v
