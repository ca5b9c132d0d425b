-- The routes of a replat over its plat, and what becomes of their ids.
use Rattle.std.specs.Prelude.{ℕ, true, false, cond, ◌||◌, [], ◌∷◌, ◌==◌}
use Rattle.rules.specs.declared.mode.SsrMode.TheVariants.{Static, OutOfOrder}
use Rattle.rules.specs.Entries.{static}
use Rattle.rules.specs.Forests.{route_of, Forest, none, leaf, nest}
use Rattle.rules.specs.Refusals.{Told, answered, refused, bare}
use Rattle.plats.specs.Words.{plat_word}

abbrev pub over_plat : ℕ → ℕ → Forest
over_plat replat plat =
    nest (route_of replat (static (plat_word true) ∷ []) Static 1)
    (leaf (route_of plat (static (plat_word false) ∷ []) OutOfOrder 0) none)
    none

-- 0 is no id
abbrev pub replat_made : ℕ → ℕ → Told Forest
replat_made replat plat = cond (replat == 0 || plat == 0) (refused (5, bare)) (answered (over_plat replat plat))
