-- A NEST'S OWN ROUTE: its id, the entries of its list, its mode and its hook.
use Rattle.std.specs.Prelude.{List}
use Rattle.rules.specs.Entries.{Entry}
use Rattle.rules.specs.Forests.{Route, route_of}
use Rattle.nests.specs.declared.nested_route.NestedRoute.{NestedRoute}

abbrev pub own_route : {L C : Type 0} → (L → List Entry) → NestedRoute L C → Route
own_route entries s = route_of s.id (entries s.list) s.rendering.mode s.rendering.hook
