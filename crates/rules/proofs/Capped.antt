-- Counts that stop at the largest number of 64 bits.
use Rattle.std.proofs.Common.{◌≡◌, ℕ, zero, suc, ◌+◌, ◌-◌, ◌*◌, ◌^◌, ◌<◌, ◌≤◌, min, sym, ap, ◌∙◌, ⊎_elim, mul-le-mul, mul-zero, arith}
use Rattle.std.proofs.lemmas.Bool.{cases_lt}
use Rattle.rules.specs.Numbers.{capped}

pub capped_add : (a b : ℕ) → min (capped a + capped b) (2 ^ 64 - 1) ≡ capped (a + b)
capped_add a b = omega arith

pub capped_one : (a : ℕ) → min (capped a + 1) (2 ^ 64 - 1) ≡ capped (a + 1)
capped_one a = omega arith

-- a number of 32 bits is below a count just where it is below what is told of it
pub below_capped : (n c : ℕ) → n < capped c → n < c
below_capped n c h = omega arith

pub past_capped : (n c : ℕ) → n < 4294967296 → capped c ≤ n → capped c ≡ c
past_capped n c s h = omega arith

pub capped_is : (c : ℕ) → c < 18446744073709551616 → capped c ≡ c
capped_is c h = omega arith

-- a product of more than one and something is no less
pub capped_mul : (a b : ℕ) → min (capped (a + 1) * capped b) (2 ^ 64 - 1) ≡ capped ((a + 1) * b)
capped_mul a zero = ap (λ n. min n (2 ^ 64 - 1)) (mul-zero (capped (a + 1))) ∙ ap capped (sym (mul-zero (a + 1)))
capped_mul a (suc b) =
    ⊎_elim
    (λ s. ⊎_elim
    (λ t. ap (λ n. min (n * capped (suc b)) (2 ^ 64 - 1)) (capped_is (a + 1) s) ∙ ap (λ n. min ((a + 1) * n) (2 ^ 64 - 1)) (capped_is (suc b) t))
    (λ t. large (a + 1) (suc b) (omega arith) (omega arith) (λ x y p q. omega (arith, mul-le-mul {n₁ = 1} {m₁ = 18446744073709551615} {n₂ = x} {m₂ = y} p q)) t)
    (cases_lt (suc b) 18446744073709551616))
    (λ s. wide (a + 1) (suc b) (omega arith) s)
    (cases_lt (a + 1) 18446744073709551616)
  where
    large : (x y : ℕ) → 1 ≤ x → 1 ≤ y → ((u v : ℕ) → 1 ≤ u → 18446744073709551615 ≤ v → 18446744073709551615 ≤ u * v) → 18446744073709551616 ≤ y → min (capped x * capped y) (2 ^ 64 - 1) ≡ capped (x * y)
    large x y p q up t = omega (arith, up (capped x) (capped y) (omega arith) (omega arith), up x y p (omega arith))

    wide : (x y : ℕ) → 1 ≤ y → 18446744073709551616 ≤ x → min (capped x * capped y) (2 ^ 64 - 1) ≡ capped (x * y)
    wide x y q s = omega (arith, mul-le-mul {n₁ = 18446744073709551615} {m₁ = 1} {n₂ = capped x} {m₂ = capped y} (omega arith) (omega arith), mul-le-mul {n₁ = 18446744073709551615} {m₁ = 1} {n₂ = x} {m₂ = y} (omega arith) q)
