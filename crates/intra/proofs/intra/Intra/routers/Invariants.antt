-- So far the routers of the areas up to here are there, each as often as there are such areas where
-- it is.
use Rattle.std.proofs.Common.{◌≡◌, ◌==◌, ℕ, take}
use Rattle.std.specs.Prelude.{◌↔◌, is_some, count_by}
use Rattle.std.specs.FinMap.{get}
use Rattle.std.specs.List.{Contains}
use Rattle.intra.specs.Intras.{AreaIntraValue, IsKeptIn}
use Rattle.intra.proofs.intra.Intra.routers.Given as goal

abbrev pub invariant-loop-kept : goal.invariant-loop-kept
invariant-loop-kept l = record {
  there : (router : ℕ) → Contains l.routers.items router ↔ IsKeptIn (take l.kept-index l.kept-items) router;
  often : (router : ℕ) → count_by (λ r. r == router) l.routers.items ≡ count_by (λ (a : AreaIntraValue). is_some (get a.reached router)) (take l.kept-index l.kept-items);
}
