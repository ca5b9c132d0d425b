-- No slash among some bytes: none of them is one.
use Rattle.std.proofs.Common.{◌≡◌, ℕ, eqb, Bool, true, false, not, ◌&&◌, ◌||◌, List, [], ◌∷◌, refl}
use Rattle.std.specs.List.{list_any}
use Rattle.rules.specs.Paths.{slash_free}

pub slash_free_is : (bs : List ℕ) → slash_free bs ≡ not (list_any (λ b. eqb b 47) bs)
slash_free_is [] = refl
slash_free_is (b ∷ bs) = step (eqb b 47) (slash_free_is bs)
  where
    step : (t : Bool) → slash_free bs ≡ not (list_any (λ c. eqb c 47) bs) → (not t && slash_free bs) ≡ not (t || list_any (λ c. eqb c 47) bs)
    step true e = refl
    step false e = e
