-- Links in ascending cost.
use Rattle.std.proofs.Common.{◌≡◌, ℕ, ◌+◌, ◌-◌, ◌<◌, ◌≤◌, Bool, true, false, nat_lt, List, length, get_or, take, drop, sym, ap, ◌∙◌, ◌⊎◌, inl, inr, ⊎_elim, arith}
use Rattle.std.specs.Prelude.{◌↔◌}
use Rattle.std.specs.List.{Contains}
use Rattle.std.specs.List.Sorted.{IsPartitionPoint, IsPartitionedBy}
use Rattle.std.proofs.lemmas.Bool.{cases_lt}
use Rattle.std.proofs.lemmas.Bool.Decides.{nat_tests}
use Rattle.std.proofs.lemmas.List.{get_or-take, get_or-drop, get_or_default, length-take-le, length-drop}
use Rattle.graph_links.specs.declared.link.GraphLink.{GraphLink}
use Rattle.graph_links.specs.Differing.{IsByCost}

-- where a link is dearer that comes after those passed over, what is cheaper is not there
pub none_behind : (xs : List GraphLink) (i : ℕ) (x l : GraphLink) → IsByCost xs → i < length xs → x ≡ get_or xs i x → l.cost < x.cost → (Contains (take i xs) l → ⊥) → Contains xs l → ⊥
none_behind xs i x l sorted lt is dearer passed c =
    ⊎_elim
    (λ (before : c.0 < i).
    let long : length (take i xs) ≡ i = length-take-le i xs (omega arith) in
    passed (c.0, omega (arith, long), get_or-take i xs c.0 l before ∙ c.2))
    (λ (behind : i ≤ c.0).
    let at : get_or xs i l ≡ x = get_or_default xs i l x lt ∙ sym is in
    let le = sorted i c.0 l behind c.1 in
    let here = ap (λ (k : GraphLink). k.cost) at in
    let there = ap (λ (k : GraphLink). k.cost) c.2 in
    omega (arith, le, here, there, dearer))
    (cases_lt c.0 i)

-- what is not cheaper comes after what is
pub behind_cheaper : (xs : List GraphLink) (first : ℕ) (l : GraphLink) → first ≤ length xs → IsPartitionPoint (λ (k : GraphLink). k.cost < l.cost) (λ (k : GraphLink). l.cost ≤ k.cost) xs first → Contains (drop first xs) l ↔ Contains xs l
behind_cheaper xs first l within split = (
  λ c.
      let long = length-drop first xs in
      (first + c.0, omega (arith, c.1, long), sym (get_or-drop first xs c.0 l) ∙ c.2),
  λ c.
      let long = length-drop first xs in
      ⊎_elim
      (λ (before : c.0 < first).
      let cheap = split.0 c.0 l (omega arith) before in
      let there = ap (λ (k : GraphLink). k.cost) c.2 in
      absurd (omega (arith, cheap, there)))
      (λ (behind : first ≤ c.0).
      let k : first + (c.0 - first) ≡ c.0 = omega arith in
      (c.0 - first, omega (arith, c.1, long), get_or-drop first xs (c.0 - first) l ∙ ap (λ (n : ℕ). get_or xs n l) k ∙ c.2))
      (cases_lt c.0 first),
)

-- the link is cheaper
abbrev pub is_cheaper : ℕ → GraphLink → Bool
is_cheaper cost l = nat_lt l.cost cost

pub parted_cheaper : (cost : ℕ) (xs : List GraphLink) → IsByCost xs → IsPartitionedBy (is_cheaper cost) xs
parted_cheaper cost xs sorted i j d le below cheaper =
    let order = sorted i j d le below in
    grind (arith, nat_tests)

pub first_of_tests : (cost : ℕ) (xs : List GraphLink) (i : ℕ) → IsPartitionPoint (λ (l : GraphLink). is_cheaper cost l ≡ true) (λ (l : GraphLink). is_cheaper cost l ≡ false) xs i → IsPartitionPoint (λ (l : GraphLink). l.cost < cost) (λ (l : GraphLink). cost ≤ l.cost) xs i
first_of_tests cost xs i h = (
  λ k d low high. let test = h.0 k d low high in grind (arith, nat_tests),
  λ k d low high. let test = h.1 k d low high in grind (arith, nat_tests),
)

-- what is not among others, in whatever order these stand
pub unlike_others : (old has new ascending others : List GraphLink) → ((l : GraphLink) → Contains ascending l ↔ Contains others l)
    → ((l : GraphLink) → Contains new l ↔ (Contains old l ⊎ (Contains has l × (Contains ascending l → ⊥))))
    → (l : GraphLink) → Contains new l ↔ (Contains old l ⊎ (Contains has l × (Contains others l → ⊥)))
unlike_others old has new ascending others same unlike l = (
  λ c. elim ((unlike l).0 c) [ inl was ↦ inl was | inr w ↦ inr (w.0, λ among. w.1 ((same l).1 among)) ],
  λ w. (unlike l).1 (elim w [ inl was ↦ inl was | inr w ↦ inr (w.0, λ among. w.1 ((same l).0 among)) ]),
)
