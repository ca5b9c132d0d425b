-- Bytes that are written over a buffer.
use Rattle.std.proofs.Common.{◌≡◌, ℕ, suc, ◌+◌, ◌-◌, ◌<◌, ◌≤◌, min, Bool, true, false, cond, eqb, leb, ltb, List, [], ◌∷◌, ◌++◌, length, get_or, take, drop, set, Some, None, Option, refl, sym, ap, ◌∙◌, arith, append_assoc, append-nil, length-append}
use borrow.Rule.Slice.PartMut.{put_mid}
use Rattle.std.proofs.Math.Seq.{drop-append-add}
use Rattle.std.proofs.lemmas.List.{drop_all, length-take-le, take-append-drop, drop-append-le}
use Rattle.std.proofs.lemmas.Bool.{le-leb, lt-leb, le-ltb, lt-ltb, leb-true, leb-false, cond-true, cond-false}
use Rattle.rules.specs.Paths.{slash, is_slash}
use Rattle.rules.specs.Records.{overlaid}
use Rattle.rules.specs.Refusals.{answered}
use Rattle.rules.specs.Writing.{ends_slash}
use Rattle.writing.specs.Told.{piece_bytes, left_by, unless, fit_told}
use Rattle.writing.specs.Puts.{Put}

-- a slash, and the rest of the buffer behind it
pub put_slash : (out body : List ℕ) → length out ≡ suc (length body) → put_mid 1 (length (set out 0 slash) - 1) (set out 0 slash) body ≡ slash ∷ body
put_slash [] body h = absurd (omega arith)
put_slash (x ∷ out) body h = ap (λ r. slash ∷ (body ++ r)) (drop_all (length (slash ∷ out) - 1) out (omega arith)) ∙ ap (λ r. slash ∷ r) (append-nil body)

-- whether a piece ends with a slash
ends_last : (ended : Bool) (b : ℕ) (t : List ℕ) → ends_slash ended (b ∷ t) ≡ is_slash (get_or (b ∷ t) (length (b ∷ t) - 1) 0)
ends_last ended b [] = refl
ends_last ended b (c ∷ t) = ends_last (is_slash b) c t ∙ ap is_slash (at_end (length t))
  where
    at_end : (n : ℕ) → get_or (c ∷ t) (suc n - 1) 0 ≡ get_or (b ∷ (c ∷ t)) (suc (suc n) - 1) 0
    at_end n = ap (λ k. get_or (c ∷ t) k 0) (one n) ∙ sym (ap (λ k. get_or (b ∷ (c ∷ t)) k 0) (two n))
      where
        one : (n : ℕ) → suc n - 1 ≡ n
        one n = omega arith

        two : (n : ℕ) → suc (suc n) - 1 ≡ suc n
        two n = omega arith

pub ends_body : (ended s : Bool) (body : List ℕ) → 1 ≤ length body → eqb (get_or body (length body - 1) 0) slash ≡ ends_slash ended (piece_bytes s body)
ends_body ended s [] h = absurd (omega arith)
ends_body ended true (b ∷ t) h = sym (ends_last (is_slash slash) b t)
ends_body ended false (b ∷ t) h = sym (ends_last ended b t)

-- The steps of a put: no bytes are written,
pub put_none : (out : List ℕ) → Put [] (Some 0) out out
put_none out =
    let f : leb 0 (length out) ≡ true = le-leb 0 (length out) (omega arith) in
    record { result = sym (cond-true _ (Some 0) None f); bytes = sym (cond-true _ (overlaid out []) out f) }

-- a first part does not fit,
pub put_unfit : (w b v out : List ℕ) → w ≡ b ++ v → length out < length b → Put w None out out
put_unfit w b v out e h =
    let f : leb (length w) (length out) ≡ false = lt-leb (length w) (length out) (omega (arith, ap length e, length-append b v)) in
    record { result = sym (cond-false _ (Some (length w)) None f); bytes = sym (cond-false _ (overlaid out w) out f) }

none_some : {X : Type 0} (n : ℕ) → None ≡ Some n → X
none_some n h = absurd (let z : ◌≡◌ {A = ℕ} 0 1 = cc in omega arith)

some_is : (m n : ℕ) → Some m ≡ Some n → m ≡ n
some_is m n h = cc

-- the others do not fit behind it,
pub put_break : (w b v front back back' out : List ℕ) (r : Option ℕ) → w ≡ b ++ v → out ≡ front ++ back → length front ≡ length b → Put v r back back' → r ≡ None → Put w None out (front ++ back')
put_break w b v front back back' out r e o l p n = go (leb (length v) (length back)) refl (sym n ∙ p.result) p.bytes
  where
    go : (t : Bool) → leb (length v) (length back) ≡ t → None ≡ cond t (Some (length v)) None → back' ≡ cond t (overlaid back v) back → Put w None out (front ++ back')
    go true h r y = none_some (length v) r
    go false h r y =
        let f : leb (length w) (length out) ≡ false = lt-leb (length w) (length out) (omega (arith, leb-false (length v) (length back) h, ap length e, length-append b v, ap length o, length-append front back, l)) in
        record {
          result = sym (cond-false _ (Some (length w)) None f);
          bytes = ap (λ z. front ++ z) y ∙ sym o ∙ sym (cond-false _ (overlaid out w) out f);
        }

-- and they are written behind it.
pub put_more : (w b v front back back' out : List ℕ) (r : Option ℕ) (more n : ℕ) → w ≡ b ++ v → out ≡ front ++ back → length front ≡ length b → Put v r back back' → r ≡ Some more → n ≡ length b → Put w (Some (n + more)) out (b ++ back')
put_more w b v front back back' out r more n e o l p m k = go (leb (length v) (length back)) refl (sym m ∙ p.result) p.bytes
  where
    go : (t : Bool) → leb (length v) (length back) ≡ t → Some more ≡ cond t (Some (length v)) None → back' ≡ cond t (overlaid back v) back → Put w (Some (n + more)) out (b ++ back')
    go true h r y =
        let long : length w ≡ length front + length v = omega (arith, ap length e, length-append b v, l) in
        let f : leb (length w) (length out) ≡ true = le-leb (length w) (length out) (omega (arith, leb-true (length v) (length back) h, long, ap length o, length-append front back)) in
        let behind : drop (length w) out ≡ drop (length v) back = ap (λ i. drop i out) long ∙ ap (drop (length front + length v)) o ∙ drop-append-add front back (length v) in
        record {
          result = ap Some (omega (arith, some_is more (length v) r, k, long, l)) ∙ sym (cond-true _ (Some (length w)) None f);
          bytes = ap (λ z. b ++ z) y ∙ sym (append_assoc b v (drop (length v) back)) ∙ ap (λ z. (b ++ v) ++ z) (sym behind) ∙ ap (λ z. z ++ drop (length w) out) (sym e) ∙ sym (cond-true _ (overlaid out w) out f);
        }
    go false h r y = none_some more (sym r)

-- what is put over the front of a buffer is what is left of it
pub put_left : (w out front' : List ℕ) (room : ℕ) (r : Option ℕ) → room ≡ min (length out) 2048 → Put w r (take room out) front' → front' ++ drop room out ≡ left_by (fit_told w (length out)) w out
put_left w out front' room r e p = go (leb (length w) (length (take room out))) refl p.bytes
  where
    long : length (take room out) ≡ room
    long = length-take-le room out (omega arith)

    all : take room out ++ drop room out ≡ out
    all = take-append-drop room out

    go : (t : Bool) → leb (length w) (length (take room out)) ≡ t → front' ≡ cond t (overlaid (take room out) w) (take room out) → front' ++ drop room out ≡ left_by (fit_told w (length out)) w out
    go true h y =
        let fit = leb-true (length w) (length (take room out)) h in
        let n : length w ≤ min 2048 (length out) = omega (arith, fit, long, e) in
        let f : ltb (min 2048 (length out)) (length w) ≡ false = le-ltb (min 2048 (length out)) (length w) n in
        ap (λ z. z ++ drop room out) y ∙ append_assoc w (drop (length w) (take room out)) (drop room out) ∙ ap (λ z. w ++ z) (sym (drop-append-le (length w) (take room out) (drop room out) (omega (arith, fit))) ∙ ap (drop (length w)) all) ∙ ap (λ t. left_by (unless t 19 (answered (length w))) w out) (sym f)
    go false h y =
        let n : min 2048 (length out) < length w = omega (arith, leb-false (length w) (length (take room out)) h, long, e) in
        let f : ltb (min 2048 (length out)) (length w) ≡ true = lt-ltb (min 2048 (length out)) (length w) n in
        ap (λ z. z ++ drop room out) y ∙ all ∙ ap (λ t. left_by (unless t 19 (answered (length w))) w out) (sym f)
