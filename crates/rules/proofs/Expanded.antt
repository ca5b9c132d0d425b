-- The bits of a number make it.
use Rattle.std.proofs.Common.{◌≡◌, ℕ, zero, suc, ◌+◌, ◌-◌, ◌*◌, ◌^◌, true, false, ltb, ◌∷◌, length, refl, ap, ◌∙◌, pow-suc, arith}
use native.Mathlib.Nat.{pow-zero}
use Rattle.std.proofs.lemmas.Bool.{cond_both, ltb-true, ltb-false}
use Rattle.rules.specs.Variants.{bits_of, number_of, VariantsNumbered}

pub twice : (k : ℕ) → 2 ^ suc k ≡ 2 ^ k + 2 ^ k
twice k = pow-suc 2 k ∙ double (2 ^ k)
  where
    double : (a : ℕ) → a * 2 ≡ a + a
    double a = omega arith

pub bits_make : VariantsNumbered
bits_make zero v h = record { count = refl; number = omega (arith, pow-zero 2) }
bits_make (suc k) v h =
    let two = twice k in
    let both : (length (bits_of (suc k) v) ≡ suc k) × (number_of (bits_of (suc k) v) ≡ v) =
    cond_both (ltb v (2 ^ k)) (false ∷ bits_of k v) (true ∷ bits_of k (v - 2 ^ k)) (λ bs. (length bs ≡ suc k) × (number_of bs ≡ v))
    (λ e. let ih = bits_make k v (ltb-true v (2 ^ k) e) in (ap suc ih.count, omega (arith, ih.number)))
    (λ e.
    let le = ltb-false v (2 ^ k) e in
    let ih = bits_make k (v - 2 ^ k) (omega (arith, h, le, two)) in
    (ap suc ih.count, ap (λ n. 2 ^ n + number_of (bits_of k (v - 2 ^ k))) ih.count ∙ omega (arith, ih.number, le)))
    in
    record { count = both.0; number = both.1 }
