-- The laws of single entries that concern keeping: an entry where it is kept, and where it is dropped.
use Rattle.std.proofs.Common.{◌≡◌, ℕ, true, false, cond, List, refl}
use Rattle.std.proofs.lemmas.Bool.{both_ways}
use Rattle.rules.specs.Entries.{Entry, unit, static, param, optional, splat, is_optional, has_value, is_bare, lawful_entry}
use Rattle.rules.specs.Taking.{or_nothing, taking}
use Rattle.rules.specs.Keeping.{as_kept}

-- An entry takes what it takes where it is kept or, if it is optional, nothing in the place of a refusal.
pub taking_kept : (e : Entry) (p : List ℕ) → taking e p ≡ cond (is_optional e) (or_nothing (taking (as_kept e) p)) (taking (as_kept e) p)
taking_kept unit p = refl
taking_kept (static t) p = refl
taking_kept (param x) p = refl
taking_kept (optional x) p = refl
taking_kept (splat x) p = refl

pub record AsKept (e : Entry) : Type 0 where
  pub required : is_optional (as_kept e) ≡ false
  pub valued : has_value (as_kept e) ≡ has_value e
  pub bare : is_bare (as_kept e) ≡ is_bare e
  pub lawful : lawful_entry (as_kept e) ≡ lawful_entry e
  pub optional_not_bare : is_optional e ≡ true → is_bare e ≡ false

pub as_kept_lem : (e : Entry) → AsKept e
as_kept_lem unit = record { required = refl; valued = refl; bare = refl; lawful = refl; optional_not_bare = λ _. refl }
as_kept_lem (static t) = record { required = refl; valued = refl; bare = refl; lawful = refl; optional_not_bare = λ h. absurd (both_ways false refl h) }
as_kept_lem (param x) = record { required = refl; valued = refl; bare = refl; lawful = refl; optional_not_bare = λ _. refl }
as_kept_lem (optional x) = record { required = refl; valued = refl; bare = refl; lawful = refl; optional_not_bare = λ _. refl }
as_kept_lem (splat x) = record { required = refl; valued = refl; bare = refl; lawful = refl; optional_not_bare = λ _. refl }
