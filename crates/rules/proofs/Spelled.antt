-- A list reads a path to an ending just where the path spells it, and there is one way to spell it. By the laws of pieces alone.
use Rattle.std.proofs.Common.{◌≡◌, ℕ, suc, true, false, List, [], ◌∷◌, ◌++◌, length, take, drop, is_some, Some, None, Option, sym, refl, ap, ◌∙◌, subst}
use Rattle.std.specs.List.{AllByRecursion}
use Rattle.std.proofs.lemmas.List.{drop_at, take_at, append_assoc}
use Rattle.std.proofs.lemmas.Bool.{eqb-true, both_ways}
use Rattle.rules.specs.Paths.{rooted, Ending, nothing, one_slash}
use Rattle.rules.specs.Entries.{Entry, is_optional}
use Rattle.rules.specs.Taking.{Taken, taking}
use Rattle.rules.specs.Pieces.{Span, Piece}
use Rattle.rules.specs.Spelling.{Cut, Spells, ends, goes, joined}
use Rattle.rules.specs.Admission.{SpelledInPieces}
use Rattle.rules.specs.Steps.{is_ending}
use Rattle.rules.proofs.Pieces.{taken_of, piece_taken, taken_piece, piece_rooted, piece_valued}

-- one entry after another takes something, and an ending is left
abbrev pub ReadThrough : List Entry → List ℕ → Type 0
ReadThrough [] p = is_ending p ≡ true
ReadThrough (e ∷ es) p = (t : Taken) × (taking e p ≡ Some t) × ReadThrough es (drop t.0 p)

-- no entry is optional
abbrev pub Required : List Entry → Type 0
Required es = AllByRecursion (λ e. is_optional e ≡ false) es

ending_rooted : {p : List ℕ} → Ending p → rooted p ≡ true
ending_rooted nothing = refl
ending_rooted one_slash = refl

pub spells_rooted : {es : List Entry} {p : List ℕ} {cs : List Cut} → Spells es p cs → rooted p ≡ true
spells_rooted (ends h) = ending_rooted h
spells_rooted (goes k j h) = ap rooted j ∙ piece_rooted k (spells_rooted h)

pub taken_length : (b : List ℕ) (v : Option Span) → (taken_of b v).0 ≡ length b
taken_length b None = refl
taken_length b (Some v) = refl

-- a piece in front of a rooted rest is what its entry takes, and the rest is what it leaves
pub piece_front : {e : Entry} {b q p : List ℕ} {v : Option Span} → Piece e b v q → p ≡ b ++ q → rooted q ≡ true → (taking e p ≡ Some (taken_of b v)) × (drop (taken_of b v).0 p ≡ q)
piece_front {e} {b} {q} {p} {v} k j r = (ap (taking e) j ∙ piece_taken k r, ap (λ n. drop n p) (taken_length b v) ∙ ap (drop (length b)) j ∙ drop_at b q (length b) refl)

ending_is : {p : List ℕ} → Ending p → is_ending p ≡ true
ending_is nothing = refl
ending_is one_slash = refl

is_ending_lem : (p : List ℕ) → is_ending p ≡ true → Ending p
is_ending_lem [] h = nothing
is_ending_lem (b ∷ []) h = subst (λ c. Ending (c ∷ [])) (sym (eqb-true b 47 h)) one_slash
is_ending_lem (b ∷ (c ∷ p)) h = absurd (both_ways false refl h)

pub spelled_through : {es : List Entry} {p : List ℕ} {cs : List Cut} → Spells es p cs → ReadThrough es p
spelled_through (ends h) = ending_is h
spelled_through (goes {e} {es} {b} {q} {p} {v} {cs} k j h) =
    let f = piece_front k j (spells_rooted h) in
    (taken_of b v, f.0, subst (ReadThrough es) (sym f.1) (spelled_through h))

pub through_spelled : (es : List Entry) (p : List ℕ) → Required es → ReadThrough es p → rooted p ≡ true → (cs : List Cut) × Spells es p cs
through_spelled [] p q h r = ([], ends (is_ending_lem p h))
through_spelled (e ∷ es) p q h r =
    let c = taken_piece e p h.0 q.0 r h.1 in
    let d : drop h.0.0 p ≡ c.rest = ap (λ t. drop t.0 p) c.is ∙ (piece_front c.piece c.joins c.rooted_rest).1 in
    let s = through_spelled es c.rest q.1 (subst (ReadThrough es) d h.2) c.rooted_rest in
    (record { piece = c.bytes; value = c.value } ∷ s.0, goes c.piece c.joins s.1)

-- One way to spell a list.
same_span : (b d : List ℕ) (v w : Option Span) → is_some v ≡ is_some w → taken_of b v ≡ taken_of d w → v ≡ w
same_span b d None None s h = refl
same_span b d None (Some w) s h = absurd (both_ways false refl s)
same_span b d (Some v) None s h = absurd (both_ways true s refl)
same_span b d (Some v) (Some w) s h = ap (λ (t : Taken). Some (record { start = t.1; len = t.2 })) h

same_cut : {e : Entry} {p b q d s : List ℕ} {v w : Option Span} → Piece e b v q → Piece e d w s → p ≡ b ++ q → p ≡ d ++ s → rooted q ≡ true → rooted s ≡ true → record { bytes : b ≡ d; rest : q ≡ s; value : v ≡ w }
same_cut {e} {p} {b} {q} {d} {s} {v} {w} k l i j r t =
    let f = piece_front k i r in
    let g = piece_front l j t in
    let same : taken_of b v ≡ taken_of d w = let o : Some (taken_of b v) ≡ Some (taken_of d w) = sym f.0 ∙ g.0 in cc in
    let long : length b ≡ length d = sym (taken_length b v) ∙ ap (λ (x : Taken). x.0) same ∙ taken_length d w in
    record {
      bytes = sym (take_at b q (length b) refl) ∙ ap (take (length b)) (sym i ∙ j) ∙ ap (λ n. take n (d ++ s)) long ∙ take_at d s (length d) refl;
      rest = sym f.1 ∙ ap (λ (x : Taken). drop x.0 p) same ∙ g.1;
      value = same_span b d v w (piece_valued k ∙ sym (piece_valued l)) same;
    }

pub spells_once : {es : List Entry} {p : List ℕ} {cs ds : List Cut} → Spells es p cs → Spells es p ds → cs ≡ ds
spells_once (ends h) s = none s
  where
    none : {p : List ℕ} {ds : List Cut} → Spells [] p ds → [] ≡ ds
    none (ends h) = refl
spells_once (goes {e} {es} {b} {q} {p} {v} {cs} k j h) s = more (λ r ds. spells_once h) s
  where
    more : ((r : List ℕ) (ds : List Cut) → Spells es q ds → cs ≡ ds) → {ds : List Cut} → Spells (e ∷ es) p ds → record { piece = b; value = v } ∷ cs ≡ ds
    more ih (goes {b = d} {q = r} {v = w} {cs = ds} l i t) =
        let m = same_cut k l j i (spells_rooted h) (spells_rooted t) in
        ap (λ x. record { piece = x; value = v } ∷ cs) m.bytes ∙ ap (λ x. record { piece = d; value = x } ∷ cs) m.value ∙ ap (λ x. record { piece = d; value = w } ∷ x) (ih r ds (subst (λ x. Spells es x ds) (sym m.rest) t))

-- The pieces, one for each entry, and an ending make up the path.
joins : {es : List Entry} {p : List ℕ} {cs : List Cut} → Spells es p cs → (length cs ≡ length es) × ((z : List ℕ) × Ending z × (p ≡ joined cs ++ z))
joins (ends {p} h) = (refl, (p, h, refl))
joins (goes {e} {es} {b} {q} {p} {v} {cs} k j h) =
    let r = joins h in
    (ap suc r.0, (r.1.0, r.1.1, j ∙ ap (λ x. b ++ x) r.1.2 ∙ sym (append_assoc b (joined cs) r.1.0)))

pub spelled_in_pieces : SpelledInPieces
spelled_in_pieces es p cs s = joins s
