-- Which vertices lose their distance when links go: what is not lost keeps a path, and what is lost
-- has none left at its old distance.
use Rattle.std.proofs.Common.{◌≡◌, ◌≢◌, ℕ, ◌+◌, ◌<◌, ◌≤◌, List, [], ◌∷◌, ◌++◌, Option, Some, refl, sym, ap, subst, ◌∙◌, ◌⊎◌, inl, inr, arith}
use Rattle.std.specs.List.{Contains}
use Rattle.std.proofs.lemmas.Bool.{cases_lt}
use Rattle.ospf_types.specs.declared.entry.Vertex.{Vertex}
use Rattle.ospf_types.specs.declared.entry.Vertex.TheVariants.{Router}
use Rattle.ospf_types.specs.declared.label.Label.{Label}
use Rattle.ospf_types.specs.Distances.{Links, TakenLink, Leads, IsPath, cost_of}
use Rattle.vertex_queue.proofs.Elements.{cases_vertex}
use Rattle.spf.specs.Trees.{step_to, AreLinks, EndsIn, HasPathWithin, AreDistances, IsShortestLink, rank}
use Rattle.spf.specs.Repairs.{Between, AreGone, IsSupported, AreHeld, AreDear}
use Rattle.ospf_types.proofs.Elements.{no_element}
use Rattle.spf.proofs.Paths.{cost_of-push, one_more, ends_in, cost_before}
use Rattle.spf.proofs.Values.{has_least, last_tail}
use Rattle.spf.proofs.Ranks.{rank_grows, by_rank}

-- a way over some links is one over more
pub leads_more : (A B : Links) (root : ℕ) → ((from to : Vertex) (cost : ℕ) (label : Label) → A from to cost label → B from to cost label)
    → (from to : Vertex) (way : List TakenLink) → Leads A root from way to → Leads B root from way to
leads_more A B root more from to [] leads = leads
leads_more A B root more from to (step ∷ way) leads = (more from step.to step.cost step.label leads.0, leads.1, leads_more A B root more step.to to way leads.2)

-- a path that goes on over a link
pub path_more : (link : Links) (root : ℕ) (has_root : Type 0) (from to : Vertex) (cost limit : ℕ) (label : Label) → HasPathWithin link root has_root from limit → link from to cost label → to ≢ Router root
    → HasPathWithin link root has_root to (limit + cost)
path_more link root has_root from to cost limit label found taken other = record {
  way = found.way ++ step_to to cost label ∷ [];
  path = (found.path.0, one_more link root (Router root) from to found.way cost label found.path.1 taken other);
  most = omega (arith, cost_of-push found.way (step_to to cost label), found.most);
}

-- a path within a limit is within a greater one
pub path_within : (link : Links) (root : ℕ) (has_root : Type 0) (to : Vertex) (low high : ℕ) → low ≤ high → HasPathWithin link root has_root to low → HasPathWithin link root has_root to high
path_within link root has_root to low high most found = record { way = found.way; path = found.path; most = omega (arith, found.most) }

-- the empty path
pub path_to_root : (link : Links) (root : ℕ) (has_root : Type 0) (limit : ℕ) → has_root → HasPathWithin link root has_root (Router root) limit
path_to_root link root has_root limit has = record { way = []; path = (has, refl); most = omega arith }

module _ {before after gone : Links} {root : ℕ} {had_root : Type 0} {old : Vertex → Option ℕ} (changes : AreGone before after gone) (were : AreDistances before root had_root old) where
  -- Where nothing is lost yet, and the head of each removed least link is suspected, all are
  -- held: a vertex that is not suspected keeps a least link.
  pub held_at_start : (suspects : List Vertex) → ((from to : Vertex) (cost : ℕ) (label : Label) → to ≢ Router root → IsShortestLink gone old from to cost label → Contains suspects to)
      → AreHeld after root old [] suspects
  held_at_start suspects suspected = record {
    held = λ to d is other.
        let l = has_least were to d is other in
        let same : Some d ≡ Some (l.least.near + l.cost) = sym is ∙ l.least.head in
        let sum : d ≡ l.least.near + l.cost = cc in
        elim (changes.went l.from to l.cost l.label l.least.taken) [
          | inl stands ↦ inr (inr (record { from = l.from; cost = l.cost; label = l.label; taken = stands; near = l.least.near; tail = l.least.tail; kept = no_element l.from; most = omega arith }))
          | inr went ↦ inr (inl (suspected l.from to l.cost l.label other (record { taken = went; near = l.least.near; tail = l.least.tail; head = l.least.head })))
        ];
  }

-- what has support where more is lost has it where less is
pub supported_before : (after : Links) (old : Vertex → Option ℕ) (fewer more : List Vertex) → ((v : Vertex) → Contains fewer v → Contains more v) → (to : Vertex) (limit : ℕ)
    → IsSupported after old more to limit → IsSupported after old fewer to limit
supported_before after old fewer more within to limit s = record { from = s.from; cost = s.cost; label = s.label; taken = s.taken; near = s.near; tail = s.tail; kept = λ c. s.kept (within s.from c); most = s.most }

module _ {after : Links} {root : ℕ} {old : Vertex → Option ℕ} where
  -- a suspect that is lost already, or supported, is passed over
  pub held_passed : (lost suspects rest : List Vertex) (v : Vertex) → AreHeld after root old lost suspects
      → ((w : Vertex) → Contains suspects w → (w ≡ v) ⊎ Contains rest w)
      → Contains lost v ⊎ ((d : ℕ) → old v ≡ Some d → IsSupported after old lost v d)
      → AreHeld after root old lost rest
  held_passed lost suspects rest v h others passed = record {
    held = λ to d is other.
        elim (h.held to d is other) [
          | inl gone ↦ inl gone
          | inr (inr supported) ↦ inr (inr supported)
          | inr (inl suspected) ↦ elim (others to suspected) [
            | inr waits ↦ inr (inl waits)
            | inl same ↦ elim passed [
              | inl gone ↦ inl (subst (λ w. Contains lost w) (sym same) gone)
              | inr supported ↦ inr (inr (subst (λ w. IsSupported after old lost w d) (sym same) (supported d (ap old (sym same) ∙ is))))
            ]
          ]
        ];
  }

  -- A suspect without support is lost, and the heads of its links that it might have supported are
  -- suspected.
  pub held_lost : (lost more suspects rest : List Vertex) (v : Vertex) → AreHeld after root old lost suspects
      → ((w : Vertex) → Contains suspects w → (w ≡ v) ⊎ Contains rest w)
      → ((w : Vertex) → Contains lost w → Contains more w) → Contains more v → ((w : Vertex) → Contains more w → (w ≡ v) ⊎ Contains lost w)
      → ((to : Vertex) (cost : ℕ) (label : Label) (d e : ℕ) → after v to cost label → to ≢ Router root → old v ≡ Some d → old to ≡ Some e → d + cost ≤ e → Contains more to ⊎ Contains rest to)
      → AreHeld after root old more rest
  held_lost lost more suspects rest v h others grows v_lost no_other told = record {
    held = λ to d is other.
        elim (h.held to d is other) [
          | inl gone ↦ inl (grows to gone)
          | inr (inl suspected) ↦ elim (others to suspected) [
            | inr waits ↦ inr (inl waits)
            | inl same ↦ inl (subst (λ w. Contains more w) (sym same) v_lost)
          ]
          | inr (inr s) ↦ elim (cases_vertex s.from v) [
            | inl same ↦ elim (told to s.cost s.label s.near d (subst (λ w. after w to s.cost s.label) same s.taken) other (ap old (sym same) ∙ s.tail) is s.most) [
              | inl gone ↦ inl gone
              | inr waits ↦ inr (inl waits)
            ]
            | inr another ↦ inr (inr (record {
              from = s.from;
              cost = s.cost;
              label = s.label;
              taken = s.taken;
              near = s.near;
              tail = s.tail;
              kept = λ c. elim (no_other s.from c) [ inl same ↦ another same | inr gone ↦ s.kept gone ];
              most = s.most;
            }))
          ]
        ];
  }

module _ {after : Links} {root : ℕ} {has_root : Type 0} {old : Vertex → Option ℕ} {lost : List Vertex} (links : AreLinks after root has_root) (h : AreHeld after root old lost []) where
  -- what is not lost has a path at no more than its old distance
  abbrev KeepsPath : Vertex → Type 0
  KeepsPath v = (d : ℕ) → old v ≡ Some d → v ≢ Router root → (Contains lost v → ⊥) → HasPathWithin after root has_root v d

  -- a supported vertex has a path if the tail of the link that supports it has one
  path_over : (v : Vertex) (d : ℕ) → v ≢ Router root → (s : IsSupported after old lost v d) → KeepsPath s.from → HasPathWithin after root has_root v d
  path_over v d other s keeps = path_within after root has_root v (s.near + s.cost) d s.most (path_more after root has_root s.from v s.cost s.near s.label found s.taken other)
    where
      found : HasPathWithin after root has_root s.from s.near
      found = elim (cases_vertex s.from (Router root)) [
        | inl same ↦
            let out = links.out_of_root v s.cost s.label (subst (λ w. after w v s.cost s.label) same s.taken) in
            subst (λ w. HasPathWithin after root has_root w s.near) (sym same) (path_to_root after root has_root s.near out.has)
        | inr from_other ↦ keeps s.near s.tail from_other s.kept
      ]

  -- so has a supported vertex, by the tail of what supports it
  keeps_path : (v : Vertex) (d : ℕ) → old v ≡ Some d → ((from : Vertex) (e : ℕ) → old from ≡ Some e → rank from e < rank v d → KeepsPath from) → KeepsPath v
  keeps_path v d at lower e is other kept =
      let same : Some d ≡ Some e = sym at ∙ is in
      let number : d ≡ e = cc in
      subst (λ n. HasPathWithin after root has_root v n) number (elim (h.held v d at other) [
        | inl gone ↦ absurd (kept gone)
        | inr (inl suspected) ↦ absurd (no_element v suspected)
        | inr (inr s) ↦ path_over v d other s (lower s.from s.near s.tail (rank_grows links s.from v s.cost s.label s.near d s.taken s.most))
      ])

  -- With no suspect left, each vertex that is not lost has a path at no more than its old distance.
  pub kept_path : (to : Vertex) (d : ℕ) → old to ≡ Some d → to ≢ Router root → (Contains lost to → ⊥) → HasPathWithin after root has_root to d
  kept_path to d is = by_rank old KeepsPath keeps_path to d is d is

module _ (after : Links) (has_root : Type 0) {before : Links} {root : ℕ} {had_root : Type 0} {old : Vertex → Option ℕ} (were : AreDistances before root had_root old) where
  -- a link that is both before and after was before
  stood : (from to : Vertex) (cost : ℕ) (label : Label) → Between before after from to cost label → before from to cost label
  stood from to cost label taken = taken.0

  -- a path over what is both before and after is one before
  pub path_before : (to : Vertex) (way : List TakenLink) → IsPath (Between before after) root (had_root × has_root) way to → IsPath before root had_root way to
  path_before to way path = (path.0.0, leads_more (Between before after) before root stood (Router root) to way path.1)

  -- before anything is lost
  pub dear_at_start : AreDear (Between before after) root (had_root × has_root) old []
  dear_at_start = record { dear = λ to d gone. absurd (no_element to gone) }

  -- where a path at the old distance stands, its last link supports the vertex
  supports : (lost : List Vertex) → AreDear (Between before after) root (had_root × has_root) old lost
      → (to : Vertex) (way : List TakenLink) → to ≢ Router root → old to ≡ Some (cost_of way) → IsPath (Between before after) root (had_root × has_root) way to → IsSupported after old lost to (cost_of way)
  supports lost dear to way other is path =
      let e = ends_in (Between before after) root to way path.1 other in
      let was : EndsIn before root (Router root) way to = record {
        before = e.before;
        tail = e.tail;
        cost = e.cost;
        label = e.label;
        leads = leads_more (Between before after) before root stood (Router root) e.tail e.before e.leads;
        taken = e.taken.0;
        other = e.other;
        whole = e.whole;
      } in
      let tail = last_tail were to way was path.0.0 (were.right to (cost_of way) is) in
      record {
        from = e.tail;
        cost = e.cost;
        label = e.label;
        taken = e.taken.1;
        near = cost_of e.before;
        tail = tail;
        kept = λ gone. absurd (omega (arith, dear.dear e.tail (cost_of e.before) gone tail e.before (path.0, e.leads)));
        most = omega (arith, cost_before (Between before after) root (Router root) to way e);
      }

  -- a vertex without support has no path left at its old distance
  pub dear_lost : (lost more : List Vertex) (v : Vertex) → AreDear (Between before after) root (had_root × has_root) old lost → v ≢ Router root
      → ((d : ℕ) → old v ≡ Some d → IsSupported after old lost v d → ⊥)
      → ((w : Vertex) → Contains more w → (w ≡ v) ⊎ Contains lost w)
      → AreDear (Between before after) root (had_root × has_root) old more
  dear_lost lost more v dear other unsupported no_other = record {
    dear = λ to d gone is way path. elim (no_other to gone) [
      | inr earlier ↦ dear.dear to d earlier is way path
      | inl same ↦ elim (cases_lt d (cost_of way)) [
        | inl less ↦ less
        | inr most ↦
            let at_least = (were.right to d is).least way (path_before to way path) in
            let equal : d ≡ cost_of way = omega arith in
            let here : old to ≡ Some (cost_of way) = is ∙ ap Some equal in
            let s = supports lost dear to way (subst (λ w. w ≢ Router root) (sym same) other) here path in
            absurd (unsupported (cost_of way) (ap old (sym same) ∙ here) (subst (λ w. IsSupported after old lost w (cost_of way)) same s))
      ]
    ];
  }
