-- The laws of choices: how many there are, and the choice of a number.
use Rattle.std.proofs.Common.{◌≡◌, ℕ, zero, suc, ◌+◌, ◌-◌, ◌*◌, ◌/◌, ◌%◌, ◌<◌, ◌≤◌, List, [], ◌∷◌, length, get_or, sym, refl, ap, ◌∙◌, ⊎_elim, mod-lt, mod-eq_of_lt, div-lt_iff_lt-mul, add-mul, one-mul, mul-zero, zero-mul, arith, length-append}
use native.Mathlib.Nat.{div-eq_of_lt, div-eq-sub-div, mod-eq-sub-mod, div-add-mod}
use Rattle.std.proofs.lemmas.List.{get_or_append_left, get_or-append_right}
use Rattle.std.proofs.lemmas.Bool.{cases_lt}
use Rattle.rules.specs.Choices.{in_front_of, each_in_front, Apart}

pub front_length : {A : Type 0} (x : A) (yss : List (List A)) → length (in_front_of x yss) ≡ length yss
front_length x [] = refl
front_length x (ys ∷ yss) = ap suc (front_length x yss)

one_more : (a b : ℕ) → b + a * b ≡ suc a * b
one_more a b = ap (λ n. n + a * b) (sym (one-mul b)) ∙ sym (add-mul 1 a b) ∙ ap (λ n. n * b) (first a)
  where
    first : (a : ℕ) → 1 + a ≡ suc a
    first a = omega arith

pub each_length : {A : Type 0} (xs : List A) (yss : List (List A)) → length (each_in_front xs yss) ≡ length xs * length yss
each_length [] yss = sym (zero-mul (length yss))
each_length (x ∷ xs) yss =
    length-append (in_front_of x yss) (each_in_front xs yss)
    ∙ ap (λ n. n + length (each_in_front xs yss)) (front_length x yss)
    ∙ ap (λ n. length yss + n) (each_length xs yss)
    ∙ one_more (length xs) (length yss)

front_nth : {A : Type 0} (x : A) (yss : List (List A)) (n : ℕ) → n < length yss → get_or (in_front_of x yss) n [] ≡ x ∷ get_or yss n []
front_nth x [] n h = absurd (omega arith)
front_nth x (ys ∷ yss) zero h = refl
front_nth x (ys ∷ yss) (suc n) h = front_nth x yss n (omega arith)

-- the choice of a number: the quotient says which first item, the remainder which of the others
pub each_nth : {A : Type 0} (d : A) (xs : List A) (yss : List (List A)) (n : ℕ) → 0 < length yss → n < length (each_in_front xs yss) → get_or (each_in_front xs yss) n [] ≡ get_or xs (n / length yss) d ∷ get_or yss (n % length yss) []
each_nth d [] yss n pos h = absurd (omega arith)
each_nth {A} d (x ∷ xs) yss n pos h = ⊎_elim first (rest (λ k. each_nth d xs yss k pos)) (cases_lt n (length yss))
  where
    block : length (in_front_of x yss) ≡ length yss
    block = front_length x yss

    first : n < length yss → get_or (each_in_front (x ∷ xs) yss) n [] ≡ get_or (x ∷ xs) (n / length yss) d ∷ get_or yss (n % length yss) []
    first lt =
        get_or_append_left (in_front_of x yss) (each_in_front xs yss) [] n (omega (arith, block))
        ∙ front_nth x yss n lt
        ∙ ap (λ m. x ∷ get_or yss m []) (sym (mod-eq_of_lt lt))
        ∙ ap (λ q. get_or (x ∷ xs) q d ∷ get_or yss (n % length yss) []) (sym (div-eq_of_lt lt))

    rest : ((k : ℕ) → k < length (each_in_front xs yss) → get_or (each_in_front xs yss) k [] ≡ get_or xs (k / length yss) d ∷ get_or yss (k % length yss) []) → length yss ≤ n → get_or (each_in_front (x ∷ xs) yss) n [] ≡ get_or (x ∷ xs) (n / length yss) d ∷ get_or yss (n % length yss) []
    rest ih le =
        let long = length-append (in_front_of x yss) (each_in_front xs yss) in
        get_or-append_right (in_front_of x yss) (each_in_front xs yss) (length yss) n [] block le
        ∙ ih (n - length yss) (omega (arith, h, long, block))
        ∙ ap (λ m. get_or xs ((n - length yss) / length yss) d ∷ get_or yss m []) (sym (mod-eq-sub-mod le))
        ∙ ap (λ y. y ∷ get_or yss (n % length yss) []) (shifted ((n - length yss) / length yss) (n / length yss) (div-eq-sub-div pos le))
      where
        shifted : (p q : ℕ) → q ≡ p + 1 → get_or xs p d ≡ get_or (x ∷ xs) q d
        shifted p q e = ap (λ k. get_or (x ∷ xs) k d) (up p q e)
          where
            up : (p q : ℕ) → q ≡ p + 1 → suc p ≡ q
            up p q e = omega arith

-- where there is a choice, there is one of the others
pub others_there : (a b n : ℕ) → n < a * b → 0 < b
others_there a zero n h = absurd (omega (arith, h, mul-zero a))
others_there a (suc b) n h = omega arith

pub quotient_below : (a b n : ℕ) → 0 < b → n < a * b → n / b < a
quotient_below a b n pos h = (div-lt_iff_lt-mul pos).1 h

same_head : {A : Type 0} (x y : A) (xs ys : List A) → x ∷ xs ≡ y ∷ ys → x ≡ y
same_head x y xs ys h = cc

same_tail : {A : Type 0} (x y : A) (xs ys : List A) → x ∷ xs ≡ y ∷ ys → xs ≡ ys
same_tail x y xs ys h = cc

-- Two choices of different numbers differ, where no list has an item twice.
pub each_apart : {A : Type 0} (d : A) (xs : List A) (yss : List (List A)) → Apart xs d → Apart yss [] → Apart (each_in_front xs yss) []
each_apart d xs yss a b m n hm hn e =
    let L = length yss in
    let long = each_length xs yss in
    let lm : m < length xs * L = omega (arith, long) in
    let ln : n < length xs * L = omega (arith, long) in
    let pos = others_there (length xs) L m lm in
    let e2 : get_or xs (m / L) d ∷ get_or yss (m % L) [] ≡ get_or xs (n / L) d ∷ get_or yss (n % L) [] = sym (each_nth d xs yss m pos hm) ∙ e ∙ each_nth d xs yss n pos hn in
    let q : m / L ≡ n / L = a (m / L) (n / L) (quotient_below (length xs) L m pos lm) (quotient_below (length xs) L n pos ln) (same_head _ _ _ _ e2) in
    let r : m % L ≡ n % L = b (m % L) (n % L) (mod-lt m pos) (mod-lt n pos) (same_tail _ _ _ _ e2) in
    sym (div-add-mod m L) ∙ ap (λ k. L * k + m % L) q ∙ ap (λ k. L * (n / L) + k) r ∙ div-add-mod n L
