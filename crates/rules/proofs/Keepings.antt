-- A route with ever fewer of its optional entries kept.
use Rattle.std.proofs.Common.{◌≡◌, ℕ, zero, suc, ◌-◌, List, Some, None, Option, refl, ap, ◌∙◌, arith}
use Rattle.std.proofs.lemmas.List.{append-nil}
use Rattle.rules.specs.declared.records.LevelRecord.{LevelRecord}
use Rattle.rules.specs.declared.records.ParamRecord.{ParamRecord}
use Rattle.rules.specs.Forests.{Route, Forest, none, leaf, nest}
use Rattle.rules.specs.KeptLists.{KeptList, keeping, under, each_keeping, kept_over, childless, kept}
use Rattle.rules.specs.Answers.{Answer}
use Rattle.rules.specs.Choice.{or_else}
use Rattle.rules.specs.Steps.{first_read, levels_after, params_after, Matched}
use Rattle.rules.proofs.FirstRead.{first_append}
use Rattle.rules.proofs.MatchMore.{unused, matched_none, either_first, either_second}

pub kept_leaf : (r : Route) → kept (leaf r none) ≡ kept_over r childless
kept_leaf r = append-nil (kept_over r childless)

pub kept_nest : (r : Route) (f : Forest) → kept (nest r f none) ≡ kept_over r (kept f)
kept_nest r f = append-nil (kept_over r (kept f))

or_none : {A : Type 0} (o : Option A) → o ≡ or_else o None
or_none None = refl
or_none (Some a) = refl

module _ (r : Route) (below : List KeptList) (level at : ℕ) (p : List ℕ) where
  -- what is read with fewer than n kept
  abbrev fewer : ℕ → Option Answer
  fewer zero = None
  fewer (suc n) = first_read (each_keeping r n below) level at p

  keeping_or : (n : ℕ) → first_read (each_keeping r n below) level at p ≡ or_else (first_read (under (keeping r n) below) level at p) (fewer n)
  keeping_or zero = or_none (first_read (under (keeping r zero) below) level at p)
  keeping_or (suc n) = first_append (under (keeping r (suc n)) below) (each_keeping r n below) level at p

  module _ (whole : Option Answer) (n : ℕ) {ls ls₁ : List LevelRecord} {ps ps₁ : List ParamRecord} (is : whole ≡ first_read (each_keeping r n below) level at p) where
    pub keeping_found : {f : ℕ × ℕ} → Matched (first_read (under (keeping r n) below) level at p) (Some f) ls ls₁ ps ps₁ → Matched whole (Some f) ls ls₁ ps ps₁
    keeping_found m = either_first _ (fewer n) whole (is ∙ keeping_or n) m

    pub keeping_last : n ≡ 0 → Matched (first_read (under (keeping r n) below) level at p) None ls ls₁ ps ps₁ → Matched whole None ls ls₁ ps ps₁
    keeping_last z m = either_second _ (fewer n) whole (is ∙ keeping_or n) m (matched_none (fewer n) ls₁ ps₁ (ap fewer z))

    -- one fewer is left to try, and nothing was changed
    pub keeping_next : (n ≡ 0 → ⊥) → Matched (first_read (under (keeping r n) below) level at p) None ls ls₁ ps ps₁ → (whole ≡ first_read (each_keeping r (n - 1) below) level at p) × (ls₁ ≡ ls) × (ps₁ ≡ ps)
    keeping_next ne m =
        let u = unused (first_read (under (keeping r n) below) level at p) m.result in
        let down : n ≡ suc (n - 1) = omega arith in
        (is ∙ keeping_or n ∙ ap (λ o. or_else o (fewer n)) u ∙ ap fewer down, m.levels ∙ ap (λ o. levels_after o ls) u, m.params ∙ ap (λ o. params_after o ps) u)
