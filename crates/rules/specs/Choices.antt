-- CHOICES: one of each of some lists, the first changing slowest.
use Rattle.std.specs.Prelude.{◌≡◌, ℕ, ◌*◌, ◌<◌, List, [], ◌∷◌, ◌++◌, length, slice_index_or}

-- a first item in front of each of some lists
abbrev pub in_front_of : {A : Type 0} → A → List (List A) → List (List A)
in_front_of x [] = []
in_front_of x (ys ∷ yss) = (x ∷ ys) ∷ in_front_of x yss

-- each of some first items, in turn
abbrev pub each_in_front : {A : Type 0} → List A → List (List A) → List (List A)
each_in_front [] yss = []
each_in_front (x ∷ xs) yss = in_front_of x yss ++ each_in_front xs yss

abbrev pub choices : {A : Type 0} → List (List A) → List (List A)
choices [] = [] ∷ []
choices (xs ∷ xss) = each_in_front xs (choices xss)

-- how many there are
abbrev pub product : List ℕ → ℕ
product [] = 1
product (n ∷ ns) = n * product ns

-- no item stands twice in a list
abbrev pub Apart : {A : Type 0} → List A → A → Type 0
Apart xs d = (m n : ℕ) → m < length xs → n < length xs → slice_index_or xs m d ≡ slice_index_or xs n d → m ≡ n
