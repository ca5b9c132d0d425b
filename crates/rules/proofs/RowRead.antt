-- The items of a row, one after another.
use Rattle.std.proofs.Common.{◌≡◌, ℕ, ◌+◌, ◌<◌, ◌≤◌, List, length, get_or, drop, None, sym, ap, ◌∙◌}
use Rattle.std.proofs.lemmas.List.{at_drop_more, at_drop_all}
use Rattle.rules.specs.Forests.{Forest, forest_of}
use Rattle.rules.specs.KeptLists.{kept}
use Rattle.rules.specs.Choice.{or_else}
use Rattle.rules.specs.Steps.{first_read}
use Rattle.rules.proofs.FirstRead.{first_beside}

module _ {X : Type 0} (f : X → Forest) (level at : ℕ) (p : List ℕ) where
  pub row_more : (xs : List X) (i : ℕ) (x : X) → i < length xs → x ≡ get_or xs i x → first_read (kept (forest_of f (drop i xs))) level at p ≡ or_else (first_read (kept (f x)) level at p) (first_read (kept (forest_of f (drop (i + 1) xs))) level at p)
  row_more xs i x l e =
      at_drop_more (λ ys. first_read (kept (forest_of f ys)) level at p) xs i x l
      ∙ first_beside (f (get_or xs i x)) (forest_of f (drop (i + 1) xs)) level at p
      ∙ ap (λ y. or_else (first_read (kept (f y)) level at p) (first_read (kept (forest_of f (drop (i + 1) xs))) level at p)) (sym e)

  pub row_all : (xs : List X) (i : ℕ) → length xs ≤ i → first_read (kept (forest_of f (drop i xs))) level at p ≡ None
  row_all xs i l = at_drop_all (λ ys. first_read (kept (forest_of f ys)) level at p) xs i l
