-- Static routes: to each network the one with the least metric, if no other route to it exists.
use Rattle.std.specs.Prelude.{ℕ, ◌≡◌, ◌≤◌, ◌⊎◌, List, Option, Some, None, Contains}
use Rattle.ospf_types.specs.declared.prefix.Prefix.{Prefix}
use Rattle.ospf_types.specs.Network.{network_cmp}
use Rattle.route_choice.specs.Chosen.{AreChosen, AreChosenExcept}
use Rattle.route_choice.specs.Results.{Results, result_at}

-- a route to the network is configured at the metric
abbrev pub IsRouteConfigured : List (Prefix × ℕ) → Prefix → ℕ → Type 0
IsRouteConfigured configured p metric = Contains configured (p, metric)

-- what is offered to the network: each metric that is configured, where no other route stands
abbrev pub IsStaticOffer : List (Prefix × ℕ) → List Prefix → Prefix → ℕ → Type 0
IsStaticOffer configured taken p metric = (Contains taken p → ⊥) × IsRouteConfigured configured p metric

-- the least of these, or `None` if there are none
abbrev pub IsLeast : (ℕ → Type 0) → Option ℕ → Type 0
IsLeast these None = (m : ℕ) → these m → ⊥
IsLeast these (Some m) = these m × ((n : ℕ) → these n → m ≤ n)

-- the lesser of a metric and what was the least, if there was one
abbrev pub IsLesserMetric : Option ℕ → ℕ → Option ℕ → Type 0
IsLesserMetric least metric None = ⊥
IsLesserMetric least metric (Some m) = ((m ≡ metric) ⊎ (least ≡ Some m)) × (m ≤ metric) × ((n : ℕ) → least ≡ Some n → m ≤ n)

-- the route of the network: the least that is offered to it
abbrev pub IsRouteOf : List (Prefix × ℕ) → List Prefix → Prefix → Option ℕ → Type 0
IsRouteOf configured taken p metric = IsLeast (IsStaticOffer configured taken p) metric

-- each network has its route, and no other
abbrev pub AreStaticRoutesOf : List (Prefix × ℕ) → List Prefix → Results Prefix ℕ → Type 0
AreStaticRoutesOf configured taken routes = AreChosen (IsRouteOf configured taken) (result_at network_cmp routes)

-- each network but these
abbrev pub AreRoutesButAt : List (Prefix × ℕ) → List Prefix → List Prefix → Results Prefix ℕ → Type 0
AreRoutesButAt configured taken networks routes = AreChosenExcept (IsRouteOf configured taken) networks (result_at network_cmp routes)
