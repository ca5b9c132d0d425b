-- What a row says is told, and which records it says are used: none of a declined link.
use Rattle.std.specs.Prelude.{ℕ, List, [], length, Ok, Err, Result}
use Rattle.rules.specs.declared.records.LevelRecord.{LevelRecord}
use Rattle.rules.specs.declared.records.ParamRecord.{ParamRecord}
use Rattle.rules.specs.declared.refusal.Refusal.{Refusal}
use Rattle.rules.specs.Refusals.{read_off}
use Rattle.firm.specs.declared.table.RowAnswer.{RowAnswer}

abbrev pub counts_of : Result RowAnswer Refusal → Result (ℕ × ℕ) Refusal
counts_of r = read_off (λ a. (length a.levels.now, length a.params.now)) r

abbrev pub levels_of : Result RowAnswer Refusal → List LevelRecord
levels_of (Ok a) = a.levels.now
levels_of (Err e) = []

abbrev pub params_of : Result RowAnswer Refusal → List ParamRecord
params_of (Ok a) = a.params.now
params_of (Err e) = []
