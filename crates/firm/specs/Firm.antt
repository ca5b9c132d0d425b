-- THE FIRM'S TREE, and what it is for a link to be told something there.
use Rattle.std.specs.Prelude.{◌≡◌, ℕ, ◌≤◌, true, false, List, [], ◌∷◌, length, codes, Result, MatchResult}
use Rattle.rules.specs.declared.mode.SsrMode.TheVariants.{OutOfOrder}
use Rattle.rules.specs.declared.refusal.Refusal.{Refusal}
use Rattle.rules.specs.declared.refusal.Refusal.TheVariants.{Unrooted, NoRoute}
use Rattle.rules.specs.Paths.{longest_path, rooted, lawful}
use Rattle.rules.specs.Entries.{Entry, static, param, optional}
use Rattle.rules.specs.Forests.{Route, route_of, Forest, none, leaf, nest}
use Rattle.rules.specs.KeptLists.{kept}
use Rattle.rules.specs.Answers.{Answer}
use Rattle.rules.specs.Admission.{FirstAnswer, NoneSpelled}

abbrev plain : ℕ → List Entry → Route
plain id es = route_of id es OutOfOrder 0

-- the client, over the parcels, over a plan and a lot; and a job
abbrev pub firm : Forest
firm =
    nest (plain 1 (optional (codes "client") ∷ []))
    (nest (plain 2 (static (codes "parcel") ∷ []))
    (leaf (plain 3 (static (codes "plan") ∷ [])) (leaf (plain 4 (param (codes "lot") ∷ [])) none))
    none)
    (leaf (plain 5 (static (codes "job") ∷ (optional (codes "year") ∷ (optional (codes "sheet") ∷ [])))) none)

-- a link, and what is told of it
pub record ToldLink : Type 0 where
  pub link : List ℕ
  pub told : Result Answer Refusal

-- Unrooted is told of an unrooted link, NoRoute where no kept list is spelled, and nothing else
abbrev pub Declined : List ℕ → Refusal → Type 0
Declined link Unrooted = (length link ≤ longest_path) × (rooted link ≡ false)
Declined link NoRoute = (lawful link ≡ true) × NoneSpelled link (kept firm)
Declined link _ = ⊥

-- an answer is that of the first kept list that the link spells
abbrev pub Stands : ToldLink → Type 0
Stands t = MatchResult t.told (FirstAnswer (kept firm) t.link) (Declined t.link)
