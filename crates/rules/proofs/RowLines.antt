-- The lines and kept lists of a row, one item after another.
use Rattle.std.proofs.Common.{◌≡◌, ℕ, ◌+◌, ◌-◌, ◌^◌, ◌<◌, ◌≤◌, min, List, [], ◌∷◌, length, get_or, drop, Some, None, Option, sym, refl, ap, ◌∙◌, arith, length-append}
use Rattle.std.proofs.lemmas.List.{at_drop_more, at_drop_all}
use Rattle.rules.specs.Forests.{Forest, beside, forest_of}
use Rattle.rules.specs.Lines.{no_line, lines}
use Rattle.rules.specs.Steps.{line_behind, or_later, line_in}
use Rattle.rules.specs.KeptLists.{kept, of_line, no_list}
use Rattle.rules.specs.Numbers.{capped}
use Rattle.rules.proofs.LinesMore.{lines_beside}
use Rattle.rules.specs.Bounds.{Bounds, largest}
use Rattle.rules.proofs.PairLines.{is_behind, first_line, first_there, second_line, first_kept, second_kept, first_kept_length, second_kept_length}

module _ {X : Type 0} (f : X → Forest) (xs : List X) (i : ℕ) where
  -- the last item is passed
  pub row_past : length xs ≤ i → forest_of f (drop i xs) ≡ forest_of f []
  row_past l = at_drop_all (forest_of f) xs i l

  pub row_count_all : length xs ≤ i → (n : ℕ) → n < 18446744073709551616 → capped (length (lines (forest_of f xs))) ≡ capped (n + length (lines (forest_of f (drop i xs)))) → n ≡ capped (length (lines (forest_of f xs)))
  row_count_all l n s inv = let z = ap (λ g. length (lines g)) (row_past l) in omega (arith, inv, z)

  module _ (x : X) (lt : i < length xs) (e : x ≡ get_or xs i x) where
    row_is : forest_of f (drop i xs) ≡ beside (f x) (forest_of f (drop (i + 1) xs))
    row_is = at_drop_more (forest_of f) xs i x lt ∙ ap (λ y. beside (f y) (forest_of f (drop (i + 1) xs))) (sym e)

    pub row_count_more : (n m c : ℕ) → capped (length (lines (forest_of f xs))) ≡ capped (n + length (lines (forest_of f (drop i xs)))) → m ≡ capped (length (lines (f x))) → c ≡ min (n + m) (2 ^ 64 - 1) → capped (length (lines (forest_of f xs))) ≡ capped (c + length (lines (forest_of f (drop (i + 1) xs))))
    row_count_more n m c inv told sum =
        let long : length (lines (forest_of f (drop i xs))) ≡ length (lines (f x)) + length (lines (forest_of f (drop (i + 1) xs))) = ap (λ g. length (lines g)) row_is ∙ ap length (lines_beside (f x) (forest_of f (drop (i + 1) xs))) ∙ length-append (lines (f x)) (lines (forest_of f (drop (i + 1) xs))) in
        omega (arith, inv, told, sum, long)

-- the item that has a line
module _ {X : Type 0} (f : X → Forest) where
  pub record Found (xs : List X) (j : ℕ) (x : X) (m : ℕ) : Type 0 where
    pub there : m < length (lines (f x))
    pub line : get_or (lines (forest_of f xs)) j no_line ≡ get_or (lines (f x)) m no_line
    pub kept_length : length (of_line j (kept (forest_of f xs))) ≡ length (of_line m (kept (f x)))
    pub kept_list : (n : ℕ) → (get_or (of_line j (kept (forest_of f xs))) n no_list).routes ≡ (get_or (of_line m (kept (f x))) n no_list).routes

  found_here : (y : X) (ys : List X) (j : ℕ) (x : X) (m : ℕ) → None ≡ line_behind (length (lines (f y))) j → x ≡ y → m ≡ j → Found (y ∷ ys) j x m
  found_here y ys j x m b ex em =
      let t = first_there (f y) (forest_of f ys) j b in
      let l = first_line (f y) (forest_of f ys) j b in
      let k = first_kept_length (f y) (forest_of f ys) j b in
      record {
        there = rw (ex, em) t;
        line = rw (ex, em) l;
        kept_length = rw (ex, em) k;
        kept_list = λ n. let r = first_kept (f y) (forest_of f ys) j b n in rw (ex, em) r;
      }

  found_later : (y : X) (ys : List X) (j i : ℕ) (x : X) (m : ℕ) → Some i ≡ line_behind (length (lines (f y))) j → Found ys i x m → Found (y ∷ ys) j x m
  found_later y ys j i x m b h =
      record {
        there = h.there;
        line = second_line (f y) (forest_of f ys) j i b ∙ h.line;
        kept_length = second_kept_length (f y) (forest_of f ys) j i b ∙ h.kept_length;
        kept_list = λ n. second_kept (f y) (forest_of f ys) j i b n ∙ h.kept_list n;
      }

  pub line_found : (xs : List X) (j : ℕ) (x : X) (m : ℕ) → Some (x, m) ≡ line_in f xs j → Found xs j x m
  line_found [] j x m h = let z : ◌≡◌ {A = ℕ} 0 1 = cc in absurd (omega arith)
  line_found (y ∷ ys) j x m h = go (line_behind (length (lines (f y))) j) refl h (λ i. line_found ys i x m)
    where
      go : (o : Option ℕ) → o ≡ line_behind (length (lines (f y))) j → Some (x, m) ≡ or_later y j o (line_in f ys) → ((i : ℕ) → Some (x, m) ≡ line_in f ys i → Found ys i x m) → Found (y ∷ ys) j x m
      go None e h ih = let k : ◌≡◌ {A = X × ℕ} (x, m) (y, j) = cc in found_here y ys j x m e (ap (λ u. u.0) k) (ap (λ u. u.1) k)
      go (Some i) e h ih = found_later y ys j i x m e (ih i h)

  -- no item has it
  pub line_missing : (xs : List X) (j : ℕ) → None ≡ line_in f xs j → (length (lines (forest_of f xs)) ≤ j) × (length (of_line j (kept (forest_of f xs))) ≡ 0)
  line_missing [] j h = (omega arith, refl)
  line_missing (y ∷ ys) j h = go (line_behind (length (lines (f y))) j) refl h (λ i. line_missing ys i)
    where
      go : (o : Option ℕ) → o ≡ line_behind (length (lines (f y))) j → None ≡ or_later y j o (line_in f ys) → ((i : ℕ) → None ≡ line_in f ys i → (length (lines (forest_of f ys)) ≤ i) × (length (of_line i (kept (forest_of f ys))) ≡ 0)) → (length (lines (forest_of f (y ∷ ys))) ≤ j) × (length (of_line j (kept (forest_of f (y ∷ ys)))) ≡ 0)
      go None e h ih = let z : ◌≡◌ {A = ℕ} 0 1 = cc in absurd (omega arith)
      go (Some i) e h ih =
          let b = is_behind (length (lines (f y))) j i e in
          (omega (arith, (ih i h).0, b.0, b.1, ap length (lines_beside (f y) (forest_of f ys)), length-append (lines (f y)) (lines (forest_of f ys))), second_kept_length (f y) (forest_of f ys) j i e ∙ (ih i h).1)

  -- one item more was passed
  pub line_later : (xs : List X) (i : ℕ) (x : X) (j m : ℕ) → i < length xs → x ≡ get_or xs i x → Some m ≡ line_behind (length (lines (f x))) j → line_in f (drop i xs) j ≡ line_in f (drop (i + 1) xs) m
  line_later xs i x j m lt e b = at_drop_more (λ ys. line_in f ys j) xs i x lt ∙ ap (λ y. or_later y j (line_behind (length (lines (f y))) j) (line_in f (drop (i + 1) xs))) (sym e) ∙ ap (λ o. or_later x j o (line_in f (drop (i + 1) xs))) (sym b)

  pub line_here : (xs : List X) (i : ℕ) (x : X) (j : ℕ) → i < length xs → x ≡ get_or xs i x → None ≡ line_behind (length (lines (f x))) j → line_in f (drop i xs) j ≡ Some (x, j)
  line_here xs i x j lt e b = at_drop_more (λ ys. line_in f ys j) xs i x lt ∙ ap (λ y. or_later y j (line_behind (length (lines (f y))) j) (line_in f (drop (i + 1) xs))) (sym e) ∙ ap (λ o. or_later x j o (line_in f (drop (i + 1) xs))) (sym b)

  pub line_past : (xs : List X) (i : ℕ) (j : ℕ) → length xs ≤ i → line_in f (drop i xs) j ≡ None
  line_past xs i j l = at_drop_all (λ ys. line_in f ys j) xs i l

  -- an item that has a line is within the row's bounds
  pub line_within : (b : X → Bounds) (xs : List X) (j : ℕ) (x : X) (m : ℕ) → Some (x, m) ≡ line_in f xs j → ((b x).levels ≤ (largest b xs).levels) × ((b x).entries ≤ (largest b xs).entries)
  line_within b [] j x m h = let z : ◌≡◌ {A = ℕ} 0 1 = cc in absurd (omega arith)
  line_within b (y ∷ ys) j x m h = go (line_behind (length (lines (f y))) j) h (λ i. line_within b ys i x m)
    where
      go : (o : Option ℕ) → Some (x, m) ≡ or_later y j o (line_in f ys) → ((i : ℕ) → Some (x, m) ≡ line_in f ys i → ((b x).levels ≤ (largest b ys).levels) × ((b x).entries ≤ (largest b ys).entries)) → ((b x).levels ≤ (largest b (y ∷ ys)).levels) × ((b x).entries ≤ (largest b (y ∷ ys)).entries)
      go None h ih = let k : ◌≡◌ {A = X × ℕ} (x, m) (y, j) = cc in let e = ap (λ (u : X × ℕ). b u.0) k in (omega (arith, ap (λ (v : Bounds). v.levels) e), omega (arith, ap (λ (v : Bounds). v.entries) e))
      go (Some i) h ih = let t = ih i h in (omega (arith, t.0), omega (arith, t.1))
