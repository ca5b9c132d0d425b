-- What is told of each link of the table stands.
use Rattle.std.proofs.Common.{◌≡◌, ℕ, zero, suc, List, [], ◌∷◌, get_or, refl, arith}
use Rattle.std.specs.List.{AllByRecursion}
use Rattle.firm.specs.Firm.{ToldLink, Stands}
use Rattle.firm.specs.Links.{firm_links, last_link}
use Rattle.firm.proofs.Opens.{opens, opens_none}

last : Stands last_link
last = (omega arith, refl)

infixr 4 ◌and◌
◌and◌ : {A B : Type 0} → A → B → A × B
a and b = (a, b)

all : AllByRecursion Stands firm_links
all =
    opens _ _ refl refl and opens _ _ refl refl and opens _ _ refl refl and opens _ _ refl refl and
    opens _ _ refl refl and opens _ _ refl refl and opens _ _ refl refl and
    (refl, opens_none _ refl refl) and (refl, opens_none _ refl refl) and (refl, opens_none _ refl refl) and
    (refl, opens_none _ refl refl) and (refl, opens_none _ refl refl) and last and tt

of_each : (P : ToldLink → Type 0) (d : ToldLink) → P d → (ts : List ToldLink) → AllByRecursion P ts → (n : ℕ) → P (get_or ts n d)
of_each P d h [] a n = h
of_each P d h (t ∷ ts) a zero = a.0
of_each P d h (t ∷ ts) a (suc n) = of_each P d h ts a.1 n

-- and so it stands of what is listed under any number
pub stands_listed : (t : ToldLink) (n : ℕ) → t ≡ get_or firm_links n last_link → Stands t
stands_listed t n e = rw e (of_each Stands last_link last firm_links all n)
