-- The words of subdivision plats.
use Rattle.std.specs.Prelude.{◌≡◌, ℕ, Bool, true, false, List, codes, refl}
use Rattle.rules.specs.Entries.{lawful_text}

-- a plat, or the replat of one
abbrev pub plat_word : Bool → List ℕ
plat_word false = codes "plat"
plat_word true = codes "replat"

-- both are lawful static texts
pub plat_lawful : (b : Bool) → lawful_text (plat_word b) ≡ true
plat_lawful false = refl
plat_lawful true = refl
