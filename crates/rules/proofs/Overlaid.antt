-- Records written over the front of a buffer, and over the front of what is left of it.
use Rattle.std.proofs.Common.{◌≡◌, ℕ, ◌-◌, ◌<◌, ◌≤◌, List, [], ◌∷◌, ◌++◌, length, take, drop, set, replicate, sym, ap, ◌∙◌, arith, length-append, length-drop}
use Rattle.std.proofs.lemmas.List.{set_split, take_rest, drop_all, append-nil, drop-drop, drop_at, append_assoc, take-append-drop, drop-replicate, take_at, length-take-le}
use borrow.Rule.Slice.PartMut.{put_mid}
use Rattle.rules.specs.Records.{overlaid, padded}

-- a write that keeps the length was within the buffer
pub overlaid_room : {A : Type 0} (ys xs zs : List A) → zs ≡ overlaid ys xs → length zs ≡ length ys → length xs ≤ length ys
overlaid_room ys xs zs e l = omega (arith, ap length e, length-append xs (drop (length xs) ys), length-drop (length xs) ys)

-- one record
pub overlaid_one : {A : Type 0} (ys : List A) (x : A) → 0 < length ys → set ys 0 x ≡ overlaid ys (x ∷ [])
overlaid_one ys x l = set_split ys 0 x l

-- records over a buffer of zeros
pub overlaid_zeros : {A : Type 0} (n : ℕ) (z : A) (xs : List A) → overlaid (replicate n z) xs ≡ padded xs z n
overlaid_zeros n z xs = ap (λ r. xs ++ r) (drop-replicate (length xs) n z)

-- the part of a buffer behind n records, as it is lent, and the buffer once it is given back
abbrev pub behind : {A : Type 0} → ℕ → List A → List A
behind n ys = take (length ys - n) (drop n ys)

abbrev pub back : {A : Type 0} → ℕ → List A → List A → List A
back n ys zs = put_mid n (length ys - n) ys zs

pub behind_length : {A : Type 0} (n : ℕ) (ys : List A) → length (behind n ys) ≡ length ys - n
behind_length n ys = ap length (take_rest ys n) ∙ length-drop n ys

module _ {A : Type 0} (ys : List A) (n : ℕ) (l : n ≤ length ys) where
  back_is : (zs : List A) → back n ys zs ≡ take n ys ++ zs
  back_is zs =
      let none : drop (length ys - n) (drop n ys) ≡ [] = drop_all (length ys - n) (drop n ys) (omega (arith, length-drop n ys)) in
      ap (λ r. take n ys ++ (zs ++ r)) none ∙ ap (λ r. take n ys ++ r) (append-nil zs)

  -- nothing was changed
  pub back_same : back n ys (behind n ys) ≡ ys
  back_same = back_is (behind n ys) ∙ ap (λ r. take n ys ++ r) (take_rest ys n) ∙ take-append-drop n ys

  pub back_some : (zs : List A) → 0 < n → 0 < length (back n ys zs)
  back_some zs s = omega (arith, ap length (back_is zs), length-append (take n ys) zs, length-take-le n ys l)

  -- some records over that part, and then others in front of them
  pub laid_before : (xs zs : List A) → n ≡ length xs → overlaid (back n ys (overlaid (behind n ys) zs)) xs ≡ overlaid ys (xs ++ zs)
  laid_before xs zs e =
      let a : back n ys (overlaid (behind n ys) zs) ≡ take n ys ++ overlaid (drop n ys) zs = back_is (overlaid (behind n ys) zs) ∙ ap (λ r. take n ys ++ overlaid r zs) (take_rest ys n) in
      let b : drop (length xs) (take n ys ++ overlaid (drop n ys) zs) ≡ overlaid (drop n ys) zs = drop_at (take n ys) (overlaid (drop n ys) zs) (length xs) (length-take-le n ys l ∙ e) in
      let c : drop (length zs) (drop n ys) ≡ drop (length (xs ++ zs)) ys = drop-drop (length zs) n ys ∙ ap (λ k. drop k ys) (omega (arith, e, length-append xs zs)) in
      ap (λ r. overlaid r xs) a ∙ ap (λ r. xs ++ r) b ∙ ap (λ r. xs ++ (zs ++ r)) c ∙ sym (append_assoc xs zs (drop (length (xs ++ zs)) ys))

-- some records over a buffer, and then others behind them
pub laid_behind : {A : Type 0} (ys ys₁ xs zs : List A) (n : ℕ) → n ≡ length xs → n ≤ length ys₁ → ys₁ ≡ overlaid ys xs → back n ys₁ (overlaid (behind n ys₁) zs) ≡ overlaid ys (xs ++ zs)
laid_behind ys ys₁ xs zs n e l w =
    let a : take n ys₁ ≡ xs = ap (take n) w ∙ take_at xs (drop (length xs) ys) n (sym e) in
    let b : drop n ys₁ ≡ drop (length xs) ys = ap (drop n) w ∙ drop_at xs (drop (length xs) ys) n (sym e) in
    let c : drop (length zs) (drop (length xs) ys) ≡ drop (length (xs ++ zs)) ys = drop-drop (length zs) (length xs) ys ∙ ap (λ k. drop k ys) (omega (arith, length-append xs zs)) in
    back_is ys₁ n l (overlaid (behind n ys₁) zs)
    ∙ ap (λ r. take n ys₁ ++ overlaid r zs) (take_rest ys₁ n)
    ∙ ap (λ f. f ++ overlaid (drop n ys₁) zs) a
    ∙ ap (λ r. xs ++ overlaid r zs) b
    ∙ ap (λ r. xs ++ (zs ++ r)) c
    ∙ sym (append_assoc xs zs (drop (length (xs ++ zs)) ys))
