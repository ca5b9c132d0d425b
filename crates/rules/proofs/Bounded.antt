-- The bounds of a tree suffice for its answers, and buffers reach them by parts.
use Rattle.std.proofs.Common.{◌≡◌, ℕ, zero, suc, ◌<◌, ◌≤◌, max, Bool, true, ◌&&◌, leb, List, [], ◌∷◌, length, get_or, sym, ap, ◌∙◌, arith}
use Rattle.std.proofs.lemmas.Bool.Decides.{nat_tests}
use Rattle.std.specs.List.{list_all}
use Rattle.rules.specs.Forests.{Route, Forest, none, leaf, nest, beside, forest_of}
use Rattle.rules.specs.Bounds.{Bounds, no_bounds, level_over, larger, largest, bounds_of, Enough}

pub enough_leaf : (r : Route) → Enough (leaf r none) (level_over (length r.entries) no_bounds)
enough_leaf r = record { levels = omega arith; entries = omega arith }

pub enough_nest : (r : Route) (f : Forest) (b : Bounds) → Enough f b → Enough (nest r f none) (level_over (length r.entries) b)
enough_nest r f b h = record { levels = omega (arith, h.levels); entries = omega (arith, h.entries) }

levels_both : (f g : Forest) → (bounds_of (beside f g)).levels ≡ max (bounds_of f).levels (bounds_of g).levels
levels_both none g = omega arith
levels_both (leaf r f) g = omega (arith, levels_both f g)
levels_both (nest r k f) g = omega (arith, levels_both f g)

entries_both : (f g : Forest) → (bounds_of (beside f g)).entries ≡ max (bounds_of f).entries (bounds_of g).entries
entries_both none g = omega arith
entries_both (leaf r f) g = omega (arith, entries_both f g)
entries_both (nest r k f) g = omega (arith, entries_both f g)

pub enough_beside : (f g : Forest) (a b : Bounds) → Enough f a → Enough g b → Enough (beside f g) (larger a b)
enough_beside f g a b x y = record { levels = omega (arith, x.levels, y.levels, levels_both f g); entries = omega (arith, x.entries, y.entries, entries_both f g) }

pub enough_row : {X : Type 0} (f : X → Forest) (b : X → Bounds) → ((x : X) → Enough (f x) (b x)) → (xs : List X) → Enough (forest_of f xs) (largest b xs)
enough_row f b h [] = record { levels = omega arith; entries = omega arith }
enough_row f b h (x ∷ xs) = enough_beside (f x) (forest_of f xs) (b x) (largest b xs) (h x) (enough_row f b h xs)

-- the items of a row one after another
module _ {X : Type 0} (b : X → Bounds) where
  pub item_within : (xs : List X) (i : ℕ) (x : X) → i < length xs → x ≡ get_or xs i x → ((b x).levels ≤ (largest b xs).levels) × ((b x).entries ≤ (largest b xs).entries)
  item_within [] i x l e = absurd (omega arith)
  item_within (y ∷ ys) zero x l e = (omega (arith, ap (λ z. (b z).levels) e), omega (arith, ap (λ z. (b z).entries) e))
  item_within (y ∷ ys) (suc i) x l e = let h = item_within ys i x (omega arith) e in (omega (arith, h.0), omega (arith, h.1))

-- whether a row is within a limit, by one of its bounds
module _ {X : Type 0} (b : X → Bounds) (pick : Bounds → ℕ) (both : (x y : Bounds) → pick (larger x y) ≡ max (pick x) (pick y)) (none : pick no_bounds ≡ 0) (limit : ℕ) where
  abbrev pub row_within : List X → Bool
  row_within xs = leb (pick (largest b xs)) limit

  within_both : (m n : ℕ) → leb (max m n) limit ≡ (leb m limit && leb n limit)
  within_both m n = grind (arith, nat_tests)

  -- each item is
  pub row_fits : (xs : List X) → list_all (λ x. leb (pick (b x)) limit) xs ≡ row_within xs
  row_fits [] = sym (ap (λ n. leb n limit) none ∙ zero_within)
    where
      zero_within : leb 0 limit ≡ true
      zero_within = grind (arith, nat_tests)
  row_fits (x ∷ xs) = ap (λ v. leb (pick (b x)) limit && v) (row_fits xs) ∙ sym (within_both (pick (b x)) (pick (largest b xs))) ∙ ap (λ n. leb n limit) (sym (both (b x) (largest b xs)))
