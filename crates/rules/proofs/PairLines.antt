-- The lines and kept lists of one tree beside another, by their numbers.
use Rattle.std.proofs.Common.{◌≡◌, ℕ, ◌-◌, ◌<◌, ◌≤◌, Bool, true, false, cond, length, get_or, Some, None, Option, sym, refl, ap, ◌∙◌, arith, length-append}
use Rattle.std.proofs.lemmas.List.{get_or_append_left, get_or-append_right}
use Rattle.std.proofs.lemmas.Bool.{ltb-true, ltb-false}
use Rattle.std.specs.Prelude.{nat_lt}
use Rattle.rules.specs.Forests.{Forest, beside}
use Rattle.rules.specs.Lines.{no_line, lines}
use Rattle.rules.specs.Steps.{line_behind}
use Rattle.rules.specs.KeptLists.{kept, of_line, no_list}
use Rattle.rules.proofs.LinesMore.{lines_beside}
use Rattle.rules.proofs.KeptOfLine.{of_first, of_second, after_length, after_routes}

-- where a line is, of n lines and those behind them
pub is_before : (n j : ℕ) → None ≡ line_behind n j → j < n
is_before n j h = go (nat_lt j n) refl h
  where
    go : (b : Bool) → nat_lt j n ≡ b → ◌≡◌ {A = Option ℕ} None (cond b None (Some (j - n))) → j < n
    go true e h = ltb-true j n e
    go false e h = let z : ◌≡◌ {A = ℕ} 0 1 = cc in absurd (omega arith)

pub is_behind : (n j m : ℕ) → Some m ≡ line_behind n j → (n ≤ j) × (m ≡ j - n)
is_behind n j m h = go (nat_lt j n) refl h
  where
    go : (b : Bool) → nat_lt j n ≡ b → ◌≡◌ {A = Option ℕ} (Some m) (cond b None (Some (j - n))) → (n ≤ j) × (m ≡ j - n)
    go true e h = let z : ◌≡◌ {A = ℕ} 0 1 = cc in absurd (omega arith)
    go false e h = (ltb-false j n e, cc)

module _ (f g : Forest) (j : ℕ) where
  -- a line of the first tree
  module _ (before : None ≡ line_behind (length (lines f)) j) where
    pub first_there : j < length (lines f)
    first_there = is_before (length (lines f)) j before

    pub first_line : get_or (lines (beside f g)) j no_line ≡ get_or (lines f) j no_line
    first_line = ap (λ ls. get_or ls j no_line) (lines_beside f g) ∙ get_or_append_left (lines f) (lines g) no_line j first_there

    pub first_kept_length : length (of_line j (kept (beside f g))) ≡ length (of_line j (kept f))
    first_kept_length = ap length (of_first f g j first_there)

    pub first_kept : (n : ℕ) → (get_or (of_line j (kept (beside f g))) n no_list).routes ≡ (get_or (of_line j (kept f)) n no_list).routes
    first_kept n = ap (λ ls. (get_or ls n no_list).routes) (of_first f g j first_there)

  -- a line of the second
  module _ (m : ℕ) (behind : Some m ≡ line_behind (length (lines f)) j) where
    past : length (lines f) ≤ j
    past = (is_behind (length (lines f)) j m behind).0

    is : m ≡ j - length (lines f)
    is = (is_behind (length (lines f)) j m behind).1

    pub second_there : j < length (lines (beside f g)) → m < length (lines g)
    second_there h = omega (arith, h, past, is, ap length (lines_beside f g), length-append (lines f) (lines g))

    pub second_line : get_or (lines (beside f g)) j no_line ≡ get_or (lines g) m no_line
    second_line = ap (λ ls. get_or ls j no_line) (lines_beside f g) ∙ get_or-append_right (lines f) (lines g) (length (lines f)) j no_line refl past ∙ ap (λ n. get_or (lines g) n no_line) (sym is)

    pub second_kept_length : length (of_line j (kept (beside f g))) ≡ length (of_line m (kept g))
    second_kept_length = ap length (of_second f g j past) ∙ after_length (length (lines f)) (of_line (j - length (lines f)) (kept g)) ∙ ap (λ n. length (of_line n (kept g))) (sym is)

    pub second_kept : (n : ℕ) → (get_or (of_line j (kept (beside f g))) n no_list).routes ≡ (get_or (of_line m (kept g)) n no_list).routes
    second_kept n = ap (λ ls. (get_or ls n no_list).routes) (of_second f g j past) ∙ after_routes (length (lines f)) (of_line (j - length (lines f)) (kept g)) n ∙ ap (λ i. (get_or (of_line i (kept g)) n no_list).routes) (sym is)
