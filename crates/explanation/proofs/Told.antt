-- The case that no border router advertises the AS boundary router.
use Rattle.std.proofs.Common.{◌≡◌, ◌<◌, ℕ, Option, Some, None, sym, subst, ◌∙◌}
use Rattle.std.specs.Prelude.{IfNone}
use Rattle.std.specs.FinMap.{get}
use Rattle.ospf_types.specs.declared.key.Key.{Key}
use Rattle.ospf_types.specs.Lsa.{Lsa, MaxAge}
use Rattle.lsa_codec.specs.Readers.{metric_of}
use Rattle.intra.specs.Inputs.{AreaValue}
use Rattle.explanation.specs.declared.layers.Layers.{Layers}
use Rattle.explanation.specs.declared.trace.Step.{Step}
use Rattle.explanation.specs.Layers.{AreAreas, HasArea}
use Rattle.explanation.specs.Outside.{IsToldStep}

pub if_none : {A : Type 0} (o : Option A) (P : Type 0) → P → IfNone o P
if_none None P is = is
if_none (Some x) P is = tt

-- the key of the summary-LSA of the border router
abbrev pub told_key : ℕ → ℕ → Key
told_key border router = record { kind = 4; id = router; router = border }

-- the area's value under this key decides if there is such a step
pub no_step : (w : Layers) → AreAreas w.areas.now → (area border router : ℕ) (a : AreaValue) → HasArea w.areas.now area a
    → ((l : Lsa) → get a.lsas (told_key border router) ≡ Some l → l.header.age < MaxAge → (cost : ℕ) → metric_of l.body ≡ Some cost → ⊥) → (step : Step) → IsToldStep w area border router step → ⊥
no_step w are area border router a has none step is =
    let same : is.0 ≡ a = are.once is.0 a is.2.0 has.0 (is.2.1 ∙ sym has.1) in
    none is.1 (subst (λ (b : AreaValue). get b.lsas (told_key border router) ≡ Some is.1) same is.3) is.4 step.cost is.5
