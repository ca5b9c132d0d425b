-- THE LINKS OF THE TABLE, and what is told of each.
use Rattle.std.specs.Prelude.{ℕ, List, [], ◌∷◌, codes, Ok, Err}
use Rattle.rules.specs.declared.records.LevelRecord.{LevelRecord}
use Rattle.rules.specs.declared.records.ParamRecord.{ParamRecord}
use Rattle.rules.specs.declared.refusal.Refusal.{Refusal}
use Rattle.rules.specs.declared.refusal.Refusal.TheVariants.{Unrooted, NoRoute}
use Rattle.rules.specs.Answers.{Answer}
use Rattle.rules.specs.Refusals.{read_off}
use Rattle.firm.specs.declared.table.RowAnswer.{RowAnswer}
use Rattle.firm.specs.declared.table.LinkRow.{LinkRow}
use Rattle.firm.specs.Firm.{ToldLink}

-- what a row of the table says
abbrev pub answer_in : RowAnswer → Answer
answer_in a = record { levels = a.levels.now; params = a.params.now }

abbrev pub said_by : LinkRow → ToldLink
said_by r = record { link = r.link.now; told = read_off answer_in r.told }

-- a route's part of a link: the route's id, the start and the length
abbrev part : ℕ → ℕ → ℕ → LevelRecord
part id start len = record { id = id; start = start; len = len }

-- a parameter's value in a link: its level, its entry's number there, the start and the length
abbrev value : ℕ → ℕ → ℕ → ℕ → ParamRecord
value level entry start len = record { level = level; entry = entry; start = start; len = len }

abbrev opens : List ℕ → List LevelRecord → List ParamRecord → ToldLink
opens link ls ps = record { link = link; told = Ok (record { levels = ls; params = ps }) }

abbrev declined : List ℕ → Refusal → ToldLink
declined link e = record { link = link; told = Err e }

abbrev pub last_link : ToldLink
last_link = declined (codes "job") Unrooted

abbrev pub firm_links : List ToldLink
firm_links =
    opens (codes "/hill/parcel/plan") (part 1 0 5 ∷ part 2 5 7 ∷ part 3 12 5 ∷ []) (value 0 0 1 4 ∷ []) ∷
    opens (codes "/parcel/plan") (part 1 0 0 ∷ part 2 0 7 ∷ part 3 7 5 ∷ []) [] ∷
    opens (codes "/parcel/plan/") (part 1 0 0 ∷ part 2 0 7 ∷ part 3 7 5 ∷ []) [] ∷
    opens (codes "/parcel/12") (part 1 0 0 ∷ part 2 0 7 ∷ part 4 7 3 ∷ []) (value 2 0 8 2 ∷ []) ∷
    opens (codes "/job/parcel/12") (part 1 0 4 ∷ part 2 4 7 ∷ part 4 11 3 ∷ []) (value 0 0 1 3 ∷ value 2 0 12 2 ∷ []) ∷
    opens (codes "/job") (part 5 0 4 ∷ []) [] ∷
    opens (codes "/job/2019") (part 5 0 9 ∷ []) (value 0 1 5 4 ∷ []) ∷
    declined (codes "/job/2019/3/x") NoRoute ∷
    declined (codes "/jobs") NoRoute ∷
    declined (codes "/parcel") NoRoute ∷
    declined [] NoRoute ∷
    declined (codes "//job") NoRoute ∷
    last_link ∷ []
