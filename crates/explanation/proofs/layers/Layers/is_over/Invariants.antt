use Rattle.std.specs.Prelude.{ℕ, ◌≡◌}
use Rattle.std.specs.FinMap.{entries}
use Rattle.ospf_types.specs.declared.config.Interface.{Interface}
use Rattle.explanation.specs.Offered.{IsOn}
use Rattle.explanation.proofs.Interfaces.{IsLeft}
use Rattle.explanation.proofs.layers.Layers.is_over.Given as goal

-- the interface of the path, if it lies on the network, is among those that are left
abbrev pub invariant-loop-id : goal.invariant-loop-id
invariant-loop-id l = IsLeft (λ (e : ℕ × Interface). (e.0 ≡ l.wanted) × IsOn l.area l.offer.network e.1) (entries l.self.state.now.interfaces) l.id-iterator
