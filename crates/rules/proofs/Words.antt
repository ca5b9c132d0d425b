-- The words that a path begins with.
use Rattle.std.proofs.Common.{◌≡◌, ℕ, true, false, eqb, List, [], ◌∷◌, ◌++◌, length, sym, refl, ap, ◌∙◌, ⊎_elim, arith}
use Rattle.std.specs.List.{prefix_len}
use Rattle.std.proofs.lemmas.Bool.{eq-eqb, eqb-true, both_ways, and_parts, cases_Bool}
use Rattle.rules.specs.Paths.{plain, slash_free, rooted}
use Rattle.rules.specs.Taking.{begins}

pub begins_front : (w rest : List ℕ) → begins w (w ++ rest) ≡ true
begins_front [] rest = refl
begins_front (b ∷ w) rest = rw (eq-eqb b b refl) (begins_front w rest)

pub front_begins : (w p : List ℕ) → begins w p ≡ true → (rest : List ℕ) × (p ≡ w ++ rest)
front_begins [] p e = (p, refl)
front_begins (b ∷ w) [] e = absurd (both_ways false refl e)
front_begins (b ∷ w) (c ∷ p) e =
    let h = and_parts (eqb b c) (begins w p) e in
    let t = front_begins w p h.1 in
    (t.0, ap (λ x. x ∷ p) (sym (eqb-true b c h.0)) ∙ ap (λ x. b ∷ x) t.1)

pub begins_not : (w p : List ℕ) → ((rest : List ℕ) → p ≡ w ++ rest → ⊥) → begins w p ≡ false
begins_not w p ne = ⊎_elim (λ e. let t = front_begins w p e in absurd (ne t.0 t.1)) (λ e. e) (cases_Bool (begins w p))

-- bytes without a slash are all in front of the next one
pub free_leading : (v p : List ℕ) → slash_free v ≡ true → rooted p ≡ true → prefix_len plain (v ++ p) ≡ length v
free_leading [] [] a r = refl
free_leading [] (b ∷ p) a r = rw r
free_leading (c ∷ v) p a r =
    let h = and_parts (plain c) (slash_free v) a in
    rw (h.0, free_leading v p h.1 r) (omega arith)
