-- What is asked of all entries of a list, and how many are optional, place by place.
use Rattle.std.proofs.Common.{◌≡◌, ℕ, ◌+◌, Bool, true, false, cond, ◌&&◌, List, [], ◌∷◌, length, filter, refl, sym, ap, ◌∙◌, arith}
use Rattle.std.specs.List.{list_all, count_by}
use Rattle.std.proofs.lemmas.List.Sums.{length-filter}
use Rattle.rules.specs.declared.segment.EntryPlace.{EntryPlace}
use Rattle.rules.specs.declared.segment.SegmentKind.{SegmentKind}
use Rattle.rules.specs.declared.segment.SegmentKind.TheVariants.{Unit as AUnit, Static, Param, OptionalParam, Splat}
use Rattle.rules.specs.Entries.{is_optional}
use Rattle.rules.specs.Keeping.{optionals}
use Rattle.rules.specs.Places.{entry_of, entry_at, entries_in}
use Rattle.rules.specs.Writing.{is_silent, all_silent}

pub silent_all : (text : List ℕ) (ps : List EntryPlace) → list_all (λ p. is_silent (entry_at text p)) ps ≡ all_silent (entries_in text ps)
silent_all text [] = refl
silent_all text (p ∷ ps) = ap (λ b. is_silent (entry_at text p) && b) (silent_all text ps)

-- whether an entry is optional is its kind's alone
by_kind : (k : SegmentKind) (t : List ℕ) → is_optional (entry_of k []) ≡ is_optional (entry_of k t)
by_kind AUnit t = refl
by_kind Static t = refl
by_kind Param t = refl
by_kind OptionalParam t = refl
by_kind Splat t = refl

optionals_are : (text : List ℕ) (ps : List EntryPlace) → length (filter (λ p. is_optional (entry_of p.kind [])) ps) ≡ optionals (entries_in text ps)
optionals_are text [] = refl
optionals_are text (p ∷ ps) = step (is_optional (entry_of p.kind [])) (is_optional (entry_at text p)) (by_kind p.kind _) (optionals_are text ps)
  where
    rest : List EntryPlace
    rest = filter (λ q. is_optional (entry_of q.kind [])) ps

    step : (b c : Bool) → b ≡ c → length rest ≡ optionals (entries_in text ps) → length (cond b (p ∷ rest) rest) ≡ cond c (optionals (entries_in text ps) + 1) (optionals (entries_in text ps))
    step true c e n = omega (arith, n) ∙ ap (λ d. cond d (optionals (entries_in text ps) + 1) (optionals (entries_in text ps))) e
    step false c e n = n ∙ ap (λ d. cond d (optionals (entries_in text ps) + 1) (optionals (entries_in text ps))) e

pub optionals_count : (text : List ℕ) (ps : List EntryPlace) → count_by (λ p. is_optional (entry_of p.kind [])) ps ≡ optionals (entries_in text ps)
optionals_count text ps = sym (length-filter (λ p. is_optional (entry_of p.kind [])) ps) ∙ optionals_are text ps
