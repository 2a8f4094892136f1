-- Every address has a match in every table.
use Rattle.std.proofs.Common.{◌≡◌, ◌≢◌, ◌∙◌, ◌⊎◌, ℕ, ◌≤◌, Bool, true, false, cond, List, [], ◌∷◌, Some, None, refl, sym, ap, subst, inl, inr, arith}
use Rattle.std.specs.Prelude.{Option, IsSome}
use Rattle.std.specs.FinMap as map
use Rattle.std.specs.FinMap.{find}
use Rattle.std.specs.Ordering.{eq_by_cmp}
use Rattle.std.proofs.lemmas.Bool.{cases_lt}
use Rattle.std.proofs.lemmas.Bool.Decides.{eqb_tells}
use Rattle.std.proofs.lemmas.Cmp.{eq_by_cmp_equiv}
use Rattle.std.proofs.lemmas.Map.Views.{tells_apart}
use Rattle.ospf_types.specs.Address.{HasAddress}
use Rattle.ospf_types.specs.Masks.{masked}
use Rattle.ospf_types.specs.Network.{Network, network_cmp}
use Rattle.ospf_types.proofs.Orders.{network_total, network_exact}
use Rattle.route_table.specs.declared.table.Item.{Item}
use Rattle.route_table.specs.declared.table.Item.TheVariants as item
use Rattle.route_table.specs.declared.table.Match.{Match}
use Rattle.route_table.specs.declared.table.Match.TheVariants as found
use Rattle.route_table.specs.Tables.{IsLongest, IsMatch}

-- this entry has the longest network of all that contain the address
record IsBest (es : List (Network × Item)) (address : ℕ) (p : Network) (i : Item) : Type 0 where
  stands : find network_cmp p es ≡ Some i
  inside : HasAddress p address
  longest : (q : Network) → IsSome (find network_cmp q es) → HasAddress q address → q.length ≤ p.length

abbrev HasBest : List (Network × Item) → ℕ → Type 0
HasBest es address = ((q : Network) → HasAddress q address → find network_cmp q es ≡ None) ⊎ ((p : Network) × (i : Item) × IsBest es address p i)

abbrev AreTold : Network → Network → Type 0
AreTold p q = ((eq_by_cmp network_cmp p q ≡ true) × (p ≡ q)) ⊎ ((eq_by_cmp network_cmp p q ≡ false) × (p ≢ q))

told : (p q : Network) → AreTold p q
told p q = by (eq_by_cmp network_cmp p q) refl
  where
    by : (t : Bool) → eq_by_cmp network_cmp p q ≡ t → AreTold p q
    by true is = inl (is, tells_apart network_exact p q is)
    by false is = inr (is, λ same. other (sym ((eq_by_cmp_equiv network_total).refl p) ∙ ap (eq_by_cmp network_cmp p) same ∙ is))
      where
        other : true ≢ false
        other wrong = cc

-- the item of a network, with one entry more at the start
at_front : (k q : Network) (v : Item) (es : List (Network × Item)) → eq_by_cmp network_cmp q k ≡ true → find network_cmp q ((k, v) ∷ es) ≡ Some v
at_front k q v es is = ap (λ t. cond t (Some v) (find network_cmp q es)) is

behind_front : (k q : Network) (v : Item) (es : List (Network × Item)) → eq_by_cmp network_cmp q k ≡ false → find network_cmp q ((k, v) ∷ es) ≡ find network_cmp q es
behind_front k q v es is = ap (λ t. cond t (Some v) (find network_cmp q es)) is

not_there : (o : Option Item) → o ≡ None → IsSome o → ⊥
not_there None none some = cc
not_there (Some i) none some = cc

module _ (k : Network) (v : Item) (es : List (Network × Item)) (address : ℕ) where
  -- the first does not contain the address
  outside_more : (HasAddress k address → ⊥) → HasBest es address → HasBest ((k, v) ∷ es) address
  outside_more outside (inl none) = inl (λ q has. elim (told q k) [
    | inl same ↦ absurd (outside (subst (λ n. HasAddress n address) same.1 has))
    | inr other ↦ behind_front k q v es other.0 ∙ none q has
  ])
  outside_more outside (inr (p, i, best)) = inr (
    p,
    i,
    record {
      stands = elim (told p k) [
        | inl same ↦ absurd (outside (subst (λ n. HasAddress n address) same.1 best.inside))
        | inr other ↦ behind_front k p v es other.0 ∙ best.stands
      ];
      inside = best.inside;
      longest = λ q some has. elim (told q k) [
        | inl same ↦ absurd (outside (subst (λ n. HasAddress n address) same.1 has))
        | inr other ↦ best.longest q (subst IsSome (behind_front k q v es other.0) some) has
      ];
    },
  )

  -- it does, and none after it is longer
  first_best : HasAddress k address → ((q : Network) → IsSome (find network_cmp q es) → HasAddress q address → q.length ≤ k.length) → HasBest ((k, v) ∷ es) address
  first_best inside longest = inr (
    k,
    v,
    record {
      stands = at_front k k v es ((eq_by_cmp_equiv network_total).refl k);
      inside = inside;
      longest = λ q some has. elim (told q k) [
        | inl same ↦ let e : q.length ≡ k.length = ap (λ (n : Network). n.length) same.1 in omega arith
        | inr other ↦ longest q (subst IsSome (behind_front k q v es other.0) some) has
      ];
    },
  )

  inside_more : HasAddress k address → HasBest es address → HasBest ((k, v) ∷ es) address
  inside_more inside (inl none) = first_best inside (λ q some has. absurd (not_there (find network_cmp q es) (none q has) some))
  inside_more inside (inr (p, i, best)) = elim (cases_lt k.length p.length) [
    | inl shorter ↦ inr (
      p,
      i,
      record {
        stands = elim (told p k) [
          | inl same ↦ let e : p.length ≡ k.length = ap (λ (n : Network). n.length) same.1 in absurd (omega arith)
          | inr other ↦ behind_front k p v es other.0 ∙ best.stands
        ];
        inside = best.inside;
        longest = λ q some has. elim (told q k) [
          | inl same ↦ let e : q.length ≡ k.length = ap (λ (n : Network). n.length) same.1 in omega arith
          | inr other ↦ best.longest q (subst IsSome (behind_front k q v es other.0) some) has
        ];
      },
    )
    | inr longer ↦ first_best inside (λ q some has. omega (arith, best.longest q some has))
  ]

has_best : (es : List (Network × Item)) (address : ℕ) → HasBest es address
has_best [] address = inl (λ q has. refl)
has_best ((k, v) ∷ es) address = elim (eqb_tells (masked address k.length) k.address) [
  | inl inside ↦ inside_more k v es address inside.1 (has_best es address)
  | inr outside ↦ outside_more k v es address outside.1 (has_best es address)
]

module _ (items : map.FinMap network_cmp Item) (address : ℕ) where
  longest_of : (p : Network) (i : Item) → IsBest (map.entries items) address p i → IsLongest items address p i
  longest_of p i best = record {
    stands = map.get-entries items p ∙ best.stands;
    inside = best.inside;
    longest = λ q some has. best.longest q (subst IsSome (map.get-entries items q) some) has;
  }

  pub some_match : (m : Match) × IsMatch items address m
  some_match = found_by (has_best (map.entries items) address)
    where
      found_by : HasBest (map.entries items) address → (m : Match) × IsMatch items address m
      found_by (inl none) = (found.None, λ q has. map.get-entries items q ∙ none q has)
      found_by (inr (p, item.Route entry, best)) = (found.Route p (record { ref_ptr = (0, 0); now = entry }), longest_of p (item.Route entry) best)
      found_by (inr (p, item.Discard, best)) = (found.Discard p, longest_of p item.Discard best)
