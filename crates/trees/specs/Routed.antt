-- WHAT match_route ANSWERS, and what it leaves in its record buffers.
use Rattle.std.specs.Prelude.{◌≡◌, ℕ, ◌<◌, ◌≤◌, true, false, ◌&&◌, ◌⊎◌, List, length, replicate, Some, None, Option}
use Rattle.rules.specs.declared.records.LevelRecord.{LevelRecord}
use Rattle.rules.specs.declared.records.ParamRecord.{ParamRecord}
use Rattle.rules.specs.Paths.{longest_path, rooted, lawful}
use Rattle.rules.specs.Forests.{Forest}
use Rattle.rules.specs.KeptLists.{kept}
use Rattle.rules.specs.Bounds.{Bounds, reaches}
use Rattle.rules.specs.Answers.{Answer}
use Rattle.rules.specs.Admission.{FirstAnswer, NoneSpelled}
use Rattle.rules.specs.Records.{zero_level, zero_param, padded, overlaid}
use Rattle.rules.specs.Refusals.{Told, answered, refused, bare}

-- what is told, and what both buffers hold then
pub record Leaves (t : Told (ℕ × ℕ)) (ls : List LevelRecord) (ps : List ParamRecord) (t' : Told (ℕ × ℕ)) (ls' : List LevelRecord) (ps' : List ParamRecord) : Type 0 where
  pub tells : t ≡ t'
  pub levels : ls ≡ ls'
  pub params : ps ≡ ps'

-- Routed f b p ls ps t ls' ps': on the path p, over a tree that means f and has the bounds b, with buffers that held ls and ps,
-- the call tells t and the buffers hold ls' and ps'.
pub record Routed (f : Forest) (b : Bounds) (p : List ℕ) (ls : List LevelRecord) (ps : List ParamRecord) (t : Told (ℕ × ℕ)) (ls' : List LevelRecord) (ps' : List ParamRecord) : Type 0 where
  -- refusals 1, 2 and 3 leave both buffers
  pub long : longest_path < length p → Leaves t ls' ps' (refused (1, bare)) ls ps
  pub unrooted : length p ≤ longest_path → rooted p ≡ false → Leaves t ls' ps' (refused (2, bare)) ls ps
  pub short : lawful p ≡ true → reaches b (length ls) (length ps) ≡ false → Leaves t ls' ps' (refused (3, bare)) ls ps
  -- the answer of the first kept list that is spelled, and zero records behind it; the counts tell how many are used
  pub admitted : lawful p ≡ true → reaches b (length ls) (length ps) ≡ true → (a : Answer) → FirstAnswer (kept f) p a → Leaves t ls' ps' (answered (length a.levels, length a.params)) (padded a.levels zero_level (length ls)) (padded a.params zero_param (length ps))
  -- refusal 4 zeroes both
  pub declined : lawful p ≡ true → reaches b (length ls) (length ps) ≡ true → NoneSpelled p (kept f) → Leaves t ls' ps' (refused (4, bare)) (replicate (length ls) zero_level) (replicate (length ps) zero_param)
  -- on a lawful path it is the one or the other
  pub decided : lawful p ≡ true → ((a : Answer) × FirstAnswer (kept f) p a) ⊎ NoneSpelled p (kept f)

-- Nested f b p ls ps r ls' ps': what a tree's own match answers, without a refusal: how many records are in use, or nothing.
pub record Nested (f : Forest) (b : Bounds) (p : List ℕ) (ls : List LevelRecord) (ps : List ParamRecord) (r : Option (ℕ × ℕ)) (ls' : List LevelRecord) (ps' : List ParamRecord) : Type 0 where
  -- an unlawful path, or short buffers
  pub unfit : (lawful p && reaches b (length ls) (length ps)) ≡ false → (r ≡ None) × (ls' ≡ ls) × (ps' ≡ ps)
  pub admitted : lawful p ≡ true → reaches b (length ls) (length ps) ≡ true → (a : Answer) → FirstAnswer (kept f) p a → (r ≡ Some (length a.levels, length a.params)) × (ls' ≡ overlaid ls a.levels) × (ps' ≡ overlaid ps a.params)
  pub declined : lawful p ≡ true → reaches b (length ls) (length ps) ≡ true → NoneSpelled p (kept f) → (r ≡ None) × (ls' ≡ ls) × (ps' ≡ ps)
