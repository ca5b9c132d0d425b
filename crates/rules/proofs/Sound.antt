-- What an entry takes of a rooted path lies within it, and leaves a rooted path. By the laws of pieces alone.
use Rattle.std.proofs.Common.{◌≡◌, ℕ, ◌+◌, ◌≤◌, Bool, true, false, cond, leb, List, ◌++◌, length, drop, Some, None, Option, sym, refl, ap, ◌∙◌, subst, arith, length-append, length-drop}
use Rattle.std.proofs.lemmas.List.{drop_at}
use Rattle.std.proofs.lemmas.Bool.{and_parts, and_from, leb-true, le-leb}
use Rattle.rules.specs.Paths.{longest_path, rooted, lawful}
use Rattle.rules.specs.Entries.{Entry, is_optional}
use Rattle.rules.specs.Taking.{Taken, or_nothing, taking}
use Rattle.rules.specs.Pieces.{Span}
use Rattle.rules.specs.Keeping.{as_kept}
use Rattle.rules.specs.Steps.{meaning_takes}
use Rattle.rules.proofs.Pieces.{taken_of, taken_piece, InPiece, piece_within}
use Rattle.rules.proofs.KeptEntry.{taking_kept, as_kept_lem}

-- of what is taken, if anything is
pub record Sound (p : List ℕ) (t : Taken) : Type 0 where
  pub within : t.0 ≤ length p
  pub value : t.1 + t.2 ≤ length p
  pub rooted_rest : rooted (drop t.0 p) ≡ true

abbrev IfSound : List ℕ → Option Taken → Type 0
IfSound p None = Unit {0}
IfSound p (Some t) = Sound p t

piece_sound : (b q : List ℕ) (v : Option Span) → InPiece b v → rooted q ≡ true → Sound (b ++ q) (taken_of b v)
piece_sound b q None k r = record { within = omega (arith, length-append b q); value = omega arith; rooted_rest = ap rooted (drop_at b q (length b) refl) ∙ r }
piece_sound b q (Some w) k r = record { within = omega (arith, length-append b q); value = omega (arith, length-append b q, k); rooted_rest = ap rooted (drop_at b q (length b) refl) ∙ r }

required_sound : (e : Entry) (p : List ℕ) → is_optional e ≡ false → rooted p ≡ true → IfSound p (taking e p)
required_sound e p o r = go (taking e p) refl
  where
    go : (t : Option Taken) → taking e p ≡ t → IfSound p t
    go None h = tt
    go (Some t) h =
        let c = taken_piece e p t o r h in
        subst (λ x. Sound x t) (sym c.joins) (subst (Sound (c.bytes ++ c.rest)) (sym c.is) (piece_sound c.bytes c.rest c.value (piece_within c.piece) c.rooted_rest))

or_sound : (p : List ℕ) (b : Bool) (o : Option Taken) → rooted p ≡ true → IfSound p o → IfSound p (cond b (or_nothing o) o)
or_sound p false o r w = w
or_sound p true None r w = record { within = omega arith; value = omega arith; rooted_rest = r }
or_sound p true (Some t) r w = w

pub taking_sound : (e : Entry) (p : List ℕ) (t : Taken) → rooted p ≡ true → Some t ≡ taking e p → Sound p t
taking_sound e p t r h = subst (IfSound p) (sym (h ∙ taking_kept e p)) (or_sound p (is_optional e) (taking (as_kept e) p) r (required_sound (as_kept e) p (as_kept_lem e).required r))

pub taken_sound : (oe : Option Entry) (p : List ℕ) (t : Taken) → rooted p ≡ true → Some t ≡ meaning_takes oe p → Sound p t
taken_sound None p t r h = let z : t ≡ (0, 0, 0) = cc in subst (Sound p) (sym z) (record { within = omega arith; value = omega arith; rooted_rest = r })
taken_sound (Some e) p t r h = taking_sound e p t r h

pub lawful_rooted : (p : List ℕ) → lawful p ≡ true → rooted p ≡ true
lawful_rooted p l = (and_parts (leb (length p) longest_path) (rooted p) l).1

pub lawful_drop : (p : List ℕ) (n : ℕ) → lawful p ≡ true → rooted (drop n p) ≡ true → lawful (drop n p) ≡ true
lawful_drop p n l r =
    and_from (leb (length (drop n p)) longest_path) (rooted (drop n p))
    (le-leb (length (drop n p)) longest_path (omega (arith, length-drop n p, leb-true (length p) longest_path (and_parts (leb (length p) longest_path) (rooted p) l).0))) r
