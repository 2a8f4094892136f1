-- The links before, from the links after and the lists of removed and added links.
use Rattle.std.proofs.Common.{◌≡◌, ◌≢◌, List, Bool, refl, ap, ◌⊎◌, inl, inr}
use Rattle.std.specs.Bool.{Decides}
use Rattle.std.specs.Str.{bytes_eq}
use Rattle.std.proofs.lemmas.Bool.{cases_Bool, cases_eq}
use Rattle.std.proofs.lemmas.Bool.Decides.{not_from_Decides}
use Rattle.std.proofs.lemmas.Slice.Eq.{bytes_eq-Decides}
use Rattle.ospf_types.specs.declared.label.Label.{Label}
use Rattle.ospf_types.specs.declared.label.Label.TheVariants.{Over, At, Plain}
use Rattle.ospf_types.specs.Distances.{Links}
use Rattle.vertex_graph.specs.GraphLink.{GraphLink}
use Rattle.vertex_queue.proofs.Elements.{cases_vertex, cases_element}
use Rattle.spf.specs.Repairs.{AreLinkUpdates}
use Rattle.spf.specs.Changes.{link_value, Among, Earlier, SameLinks, AreDecided, AreExactChanges}

-- what a test decides holds or not
pub cases_decided : {P : Type 0} (r : Bool) → Decides r P → P ⊎ (P → ⊥)
cases_decided r decides = elim (cases_Bool r) [ inl passes ↦ inl (decides.0 passes) | inr fails ↦ inr (not_from_Decides r decides fails) ]

-- labels are the same or not
pub cases_label : (l m : Label) → (l ≡ m) ⊎ (l ≢ m)
cases_label (Over i) (Over j) = elim (cases_eq i j) [ inl e ↦ inl (ap Over e) | inr n ↦ inr (λ e. n cc) ]
cases_label (Over i) (At ys) = inr (λ e. cc)
cases_label (Over i) Plain = inr (λ e. cc)
cases_label (At xs) (Over j) = inr (λ e. cc)
cases_label (At xs) (At ys) = elim (cases_decided (bytes_eq xs ys) (bytes_eq-Decides xs ys)) [ inl e ↦ inl (ap At e) | inr n ↦ inr (λ e. n cc) ]
cases_label (At xs) Plain = inr (λ e. cc)
cases_label Plain (Over j) = inr (λ e. cc)
cases_label Plain (At ys) = inr (λ e. cc)
cases_label Plain Plain = inl refl

-- links are the same or not
pub cases_link : (l m : GraphLink) → (l ≡ m) ⊎ (l ≢ m)
cases_link l m = elim (cases_vertex l.from m.from) [
  | inr n ↦ inr (λ e. n (ap (λ (x : GraphLink). x.from) e))
  | inl from ↦ elim (cases_vertex l.to m.to) [
    | inr n ↦ inr (λ e. n (ap (λ (x : GraphLink). x.to) e))
    | inl to ↦ elim (cases_eq l.cost m.cost) [
      | inr n ↦ inr (λ e. n (ap (λ (x : GraphLink). x.cost) e))
      | inl cost ↦ elim (cases_label l.label m.label) [
        | inr n ↦ inr (λ e. n (ap (λ (x : GraphLink). x.label) e))
        | inl label ↦ inl (λ i. link_value (from i) (to i) (cost i) (label i))
      ]
    ]
  ]
]

-- a link is in a list or not
pub cases_among : (links : List GraphLink) → AreDecided (Among links)
cases_among links from to cost label = cases_element cases_link links (link_value from to cost label)

module _ (after : Links) (gone come : List GraphLink) where
  -- Whatever the lists have, from the links that they give as those before to those after they name
  -- every change.
  pub earlier_changes : AreLinkUpdates (Earlier after gone come) after (Among gone) (Among come)
  earlier_changes = record {
    went = λ from to cost label was. elim was [ inl stands ↦ inl stands.0 | inr went ↦ inr went ];
    came = λ from to cost label is. elim (cases_among come from to cost label) [ inl arrived ↦ inr arrived | inr stood ↦ inl (inl (is, stood)) ];
  }

  module _ (before : Links) (decided_before : AreDecided before) (decided_after : AreDecided after) (exact : AreExactChanges before after gone come) where
    -- Where the lists have just the removed links and the added links, they give the links before.
    pub earlier_is : SameLinks (Earlier after gone come) before
    earlier_is from to cost label = (
      λ was. elim was [
        | inr went ↦ ((exact.went from to cost label).0 went).0
        | inl stands ↦ elim (decided_before from to cost label) [ inl stood ↦ stood | inr new ↦ absurd (stands.1 ((exact.came from to cost label).1 (stands.0, new))) ]
      ],
      λ was. elim (decided_after from to cost label) [
        | inl stands ↦ inl (stands, λ arrived. ((exact.came from to cost label).0 arrived).1 was)
        | inr none ↦ inr ((exact.went from to cost label).1 (was, none))
      ],
    )

    -- and they name every change
    pub exact_changes : AreLinkUpdates before after (Among gone) (Among come)
    exact_changes = record {
      went = λ from to cost label was. elim (decided_after from to cost label) [ inl stands ↦ inl stands | inr none ↦ inr ((exact.went from to cost label).1 (was, none)) ];
      came = λ from to cost label is. elim (decided_before from to cost label) [ inl stood ↦ inl stood | inr new ↦ inr ((exact.came from to cost label).1 (is, new)) ];
    }
