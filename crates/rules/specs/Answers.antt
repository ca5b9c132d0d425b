-- THE ANSWER of a kept list, read off the pieces in which a path spells it.
use Rattle.std.specs.Prelude.{ℕ, ◌+◌, Bool, false, cond, ◌&&◌, ◌||◌, List, [], ◌∷◌, ◌++◌, length, take, drop, Some, None, Option, ◌==◌}
use Rattle.rules.specs.declared.records.LevelRecord.{LevelRecord}
use Rattle.rules.specs.declared.records.ParamRecord.{ParamRecord}
use Rattle.rules.specs.Entries.{is_bare}
use Rattle.rules.specs.Pieces.{Span}
use Rattle.rules.specs.Spelling.{Cut, joined}
use Rattle.rules.specs.Keeping.{Numbered}
use Rattle.rules.specs.KeptLists.{KeptRoute}

-- one level record for each route, and one parameter record for each Param and Splat, root first
pub record Answer : Type 0 where
  pub levels : List LevelRecord
  pub params : List ParamRecord

abbrev pub no_records : Answer
no_records = record { levels = []; params = [] }

-- the parameter record of an entry whose piece starts at `at`
abbrev pub value_at : ℕ → ℕ → ℕ → Option Span → List ParamRecord
value_at level number at None = []
value_at level number at (Some v) = record { level = level; entry = number; start = at + v.start; len = v.len } ∷ []

-- those of one route's entries, whose pieces start at `at`
abbrev pub values_at : List Numbered → ℕ → ℕ → List Cut → List ParamRecord
values_at [] level at cs = []
values_at (k ∷ ks) level at [] = []
values_at (k ∷ ks) level at (c ∷ cs) = value_at level k.number at c.value ++ values_at ks level (at + length c.piece) cs

abbrev pub any_bare : List Numbered → Bool
any_bare [] = false
any_bare (k ∷ ks) = is_bare k.entry || any_bare ks

-- The length of a route's matched part: that of the joining of its pieces or, where this is empty and the route has a bare
-- slash, the path's next byte.
abbrev pub part_length : Bool → ℕ → ℕ
part_length bare n = cond (bare && n == 0) 1 n

-- one route, whose pieces start at `at`, in front of what stands below it
abbrev pub in_front : KeptRoute → ℕ → ℕ → List Cut → Answer → Answer
in_front k level at cs below = record {
  levels = record { id = k.id; start = at; len = part_length (any_bare k.entries) (length (joined cs)) } ∷ below.levels;
  params = values_at k.entries level at cs ++ below.params;
}

-- the routes of a kept list, the first of which is at some level, and whose pieces start at `at`
abbrev pub answer_of : List KeptRoute → ℕ → ℕ → List Cut → Answer
answer_of [] level at cs = no_records
answer_of (k ∷ ks) level at cs =
    let own = take (length k.entries) cs in
    in_front k level at own (answer_of ks (level + 1) (at + length (joined own)) (drop (length k.entries) cs))
