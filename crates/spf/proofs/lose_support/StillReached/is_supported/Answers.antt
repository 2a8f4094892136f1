use Rattle.std.proofs.Common.{◌≡◌, ◌++◌, ℕ, List, Option, Some, None, refl, sym, subst, ◌∙◌}
use Rattle.std.specs.FinMap.{get}
use Rattle.std.specs.List.{All, Contains}
use Rattle.std.specs.Prelude.{◌↔◌, IsTrue, is_some, IfSome, IfNone}
use Rattle.std.proofs.lemmas.List.{take-append-drop}
use Rattle.std.proofs.lemmas.List.Elements.{Contains-append_left, Contains-append_right}
use Rattle.vertex_graph.specs.GraphLink.{GraphLink}
use Rattle.vertex_graph.specs.Graphs.{LinksOf}
use Rattle.spf.specs.Repairs.{IsSupported}
use Rattle.spf.specs.Suspects.{Supports}
use Rattle.spf.proofs.Suspecting.{supported_by, unsupported}
use Rattle.spf.proofs.lose_support.StillReached.is_supported.Goals as goal

-- what is found shows it, and that nothing is found denies it
decided_by : (o : Option ℕ) (A N Q : Type 0) → IfSome o (λ place. A) → IfNone o N → (A → Q) → (N → Q → ⊥) → IsTrue (is_some o) ↔ Q
decided_by None A N Q some none shows denies = (λ t. absurd cc, λ q. absurd (denies none q))
decided_by (Some place) A N Q some none shows denies = (λ t. shows some, λ q. refl)

pub returns-in-Some : goal.returns-in-Some
returns-in-Some c =
    let old = get c.args.self.distances.now in
    let links = c.links_to_at-links.result.now in
    let others = c.split_at.result.1.now in
    let parts : links ≡ c.split_at.result.0.now ++ others = sym (take-append-drop c.min-start.result links) ∙ (λ i. sym c.split_at.ensures.front i ++ sym c.split_at.ensures.back i) in
    let found = c.in-Some.ensures.found in (
      λ t. supported_by c.args.graph.now old c.args.self.lost.now c.args.vertex.now c.args.distance links c.links_to_at-links.ensures.exact found.0
          (subst (λ (ls : List GraphLink). Contains ls found.0) (sym parts) (Contains-append_right c.split_at.result.0.now others found.0 found.1)) found.2,
      λ s. refl,
    )

pub returns : goal.returns
returns c =
    let old = get c.args.self.distances.now in
    let links = c.links_to_at-links.result.now in
    let passed = c.split_at.result.0.now in
    let others = c.split_at.result.1.now in
    let parts : links ≡ passed ++ others = sym (take-append-drop c.min-start.result links) ∙ (λ i. sym c.split_at.ensures.front i ++ sym c.split_at.ensures.back i) in
    let Q = IsSupported (LinksOf c.args.graph.now) old c.args.self.lost.now c.args.vertex.now c.args.distance in
    subst (λ b. IsTrue b ↔ Q) (sym c.is_some.ensures)
    (decided_by c.find_support-2.result ((l : GraphLink) × Contains passed l × Supports old c.args.self.lost.now c.args.distance l) (All (λ l. Supports old c.args.self.lost.now c.args.distance l → ⊥) passed) Q
    c.find_support-2.ensures.found c.find_support-2.ensures.none
    (λ found. supported_by c.args.graph.now old c.args.self.lost.now c.args.vertex.now c.args.distance links c.links_to_at-links.ensures.exact found.0
    (subst (λ (ls : List GraphLink). Contains ls found.0) (sym parts) (Contains-append_left passed others found.0 found.1)) found.2)
    (λ none. unsupported c.args.graph.now old c.args.self.lost.now c.args.vertex.now c.args.distance links c.links_to_at-links.ensures.exact passed others parts none c.in_default.ensures.none))
