-- ADMISSION: which of some kept lists a path is admitted by.
use Rattle.std.specs.Prelude.{◌≡◌, ℕ, true, ◌↔◌, List, ◌∷◌, ◌++◌, length, Some, None}
use Rattle.std.specs.List.{AllByRecursion}
use Rattle.rules.specs.Paths.{lawful, Ending}
use Rattle.rules.specs.Entries.{Entry}
use Rattle.rules.specs.Spelling.{Cut, Spells, joined}
use Rattle.rules.specs.KeptLists.{KeptList, kept, entries_of}
use Rattle.rules.specs.Forests.{Forest}
use Rattle.rules.specs.Answers.{Answer, answer_of}
use Rattle.rules.specs.Steps.{first_read}

-- a path spells a kept list, in some pieces
abbrev pub Spelled : List ℕ → KeptList → Type 0
Spelled p k = (cs : List Cut) × Spells (entries_of k.routes) p cs

-- a path spells a kept list, and this is its answer
abbrev pub Answers : KeptList → List ℕ → Answer → Type 0
Answers k p a = (cs : List Cut) × Spells (entries_of k.routes) p cs × (a ≡ answer_of k.routes 0 0 cs)

-- the first of some kept lists that a path spells
pub data FirstSpelled (p : List ℕ) : List KeptList → KeptList → Type 0 where
  here : {k : KeptList} {ls : List KeptList} → Spelled p k → FirstSpelled p (k ∷ ls) k
  later : {k l : KeptList} {ls : List KeptList} → (Spelled p l → ⊥) → FirstSpelled p ls k → FirstSpelled p (l ∷ ls) k

-- a path spells none of them
abbrev pub NoneSpelled : List ℕ → List KeptList → Type 0
NoneSpelled p ls = AllByRecursion (λ l. Spelled p l → ⊥) ls

-- the answer of the first that is spelled
abbrev pub FirstAnswer : List KeptList → List ℕ → Answer → Type 0
FirstAnswer ls p a = (k : KeptList) × FirstSpelled p ls k × Answers k p a

-- A spelled path is the joining of one piece for each entry, and an ending.
abbrev pub SpelledInPieces : Type 0
SpelledInPieces = (es : List Entry) (p : List ℕ) (cs : List Cut) → Spells es p cs → (length cs ≡ length es) × ((z : List ℕ) × Ending z × (p ≡ joined cs ++ z))

-- A path spells a list in at most one way, and so has at most one answer of it.
pub record OneSpelling : Type 0 where
  pub spelling : (es : List Entry) (p : List ℕ) (cs ds : List Cut) → Spells es p cs → Spells es p ds → cs ≡ ds
  pub answer : (k : KeptList) (p : List ℕ) (a b : Answer) → Answers k p a → Answers k p b → a ≡ b

-- What is read entry by entry is the answer of the first kept list that is spelled, and nothing just where none is.
pub record ReadsFirst (f : Forest) (p : List ℕ) : Type 0 where
  pub some : (a : Answer) → (first_read (kept f) 0 0 p ≡ Some a) ↔ FirstAnswer (kept f) p a
  pub none : (first_read (kept f) 0 0 p ≡ None) ↔ NoneSpelled p (kept f)

abbrev pub ReaderAdmits : Type 0
ReaderAdmits = (f : Forest) (p : List ℕ) → lawful p ≡ true → ReadsFirst f p
