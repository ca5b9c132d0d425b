-- The records of a list, one entry after another.
use Rattle.std.proofs.Common.{◌≡◌, ℕ, ◌≤◌, List, [], ◌∷◌, length, get_or, set, Some, None, Option, refl, ap, ◌∙◌, arith}
use Rattle.std.proofs.lemmas.List.{set-set, get_or-set_same}
use Rattle.rules.specs.declared.segment.PathSegment.{PathSegment}
use Rattle.rules.specs.Entries.{Entry, unit, static, param, optional, splat, means_count}
use Rattle.rules.specs.Keeping.{as_kept}
use Rattle.rules.specs.Records.{record_of, records_of, put_front, overlaid, kind_as_kept}
use Rattle.rules.specs.Steps.{meaning_kept}

pub records_length : (es : List Entry) → length (records_of es) ≡ length es
records_length [] = refl
records_length (e ∷ es) = omega (arith, records_length es)

-- a buffer with some entries' records over its front, and how many they are
pub record Wrote (es : List Entry) (out out' : List PathSegment) (r : ℕ) : Type 0 where
  pub count : r ≡ length es
  pub written : out' ≡ overlaid out (records_of es)

-- Kept entries.
record_kept : (e : Entry) → ◌≡◌ {A = PathSegment} (record { kind = kind_as_kept (record_of e).kind; len = (record_of e).len; text = (record_of e).text }) (record_of (as_kept e))
record_kept unit = refl
record_kept (static t) = refl
record_kept (param x) = refl
record_kept (optional x) = refl
record_kept (splat x) = refl

-- the record of an entry, if there is one, as that of the entry where it is kept
pub put_kept : (oe : Option Entry) (own : ℕ) (d y : PathSegment) (out out₁ : List PathSegment) → own ≡ means_count oe → out₁ ≡ put_front out oe → (own ≡ 0 → ⊥) → own ≤ length out → y ≡ record { kind = kind_as_kept (get_or out₁ 0 d).kind; len = (get_or out₁ 0 d).len; text = (get_or out₁ 0 d).text } → set out₁ 0 y ≡ put_front out (meaning_kept oe)
put_kept None own d y out out₁ c h z room kept = absurd (z c)
put_kept (Some e) own d y out out₁ c h z room kept =
    let is : get_or out₁ 0 d ≡ record_of e = ap (λ o. get_or o 0 d) h ∙ get_or-set_same out 0 (record_of e) d (omega arith) in
    let yes : y ≡ record_of (as_kept e) = kept ∙ ap (λ (v : PathSegment). record { kind = kind_as_kept v.kind; len = v.len; text = v.text }) is ∙ record_kept e in
    ap (λ o. set o 0 y) h ∙ set-set out 0 (record_of e) y ∙ ap (set out 0) yes

-- there is none
pub put_none : (oe : Option Entry) (own : ℕ) (out out₁ : List PathSegment) → own ≡ means_count oe → out₁ ≡ put_front out oe → own ≡ 0 → out₁ ≡ put_front out (meaning_kept oe)
put_none None own out out₁ c h z = h
put_none (Some e) own out out₁ c h z = absurd (omega arith)
