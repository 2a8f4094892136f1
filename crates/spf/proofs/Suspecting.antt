-- The search for what is lost, piece by piece: who becomes stale over a list of links, what comes
-- of one suspect, and that the suspects run out.
use Rattle.std.proofs.Common.{◌≡◌, ℕ, Bool, true, ◌+◌, ◌-◌, ◌*◌, ◌<◌, ◌≤◌, List, [], ◌∷◌, ◌++◌, Option, Some, length, get_or, take, refl, sym, ap, subst, ◌∙◌, ◌⊎◌, inl, inr, arith, length-append}
use Rattle.std.specs.List.{All, Contains}
use Rattle.std.specs.FinMap.{get, len}
use Rattle.std.proofs.Math.ListN.{get_or-append}
use Rattle.std.proofs.lemmas.List.{take_more}
use Rattle.std.proofs.lemmas.List.Elements.{All-contains, Contains-push, Contains-append_left, Contains-append_cases, Contains-push_cases}
use Rattle.ospf_types.specs.declared.entry.Vertex.{Vertex}
use Rattle.ospf_types.proofs.Elements.{no_element}
use Rattle.vertex_graph.specs.GraphLink.{GraphLink}
use Rattle.vertex_graph.specs.Graphs.{GraphValue, LinksOf, AreLinksFrom, AreLinksTo}
use Rattle.vertex_queue.specs.VertexSet.{HasNoDoubles, IsAdded, IsWithMember}
use Rattle.vertex_queue.specs.Maps.{DistanceMap}
use Rattle.vertex_queue.proofs.Counting.{no_doubles_nil, no_doubles_push}
use Rattle.vertex_queue.proofs.Elements.{added_end}
use Rattle.vertex_queue.proofs.VertexMaps.{len_most}
use Rattle.vertex_queue.proofs.VertexSets.{member_added}
use Rattle.spf.specs.Changes.{link_value, Among}
use Rattle.spf.specs.Loops.{IsReached}
use Rattle.spf.specs.Parts.{IsRightBefore, AreLost}
use Rattle.spf.specs.Repairs.{IsSupported}
use Rattle.spf.specs.Suspects.{Supports, WasLeast, MaySupport, IsHead, AreToldOf, AreSuspectsWithin, IsSuspectJudged, AreSuspected}
use Rattle.spf.proofs.Before.{earlier_changes}
use Rattle.spf.proofs.Falling.{lose_support_falls}
use Rattle.spf.proofs.LoseSupportLoop.{lose_support_start, lose_support_passed, lose_support_lost}

-- ---- the vertices that become stale

-- what was pushed, or was there, has no doubles
pub member_apart : (old new : List Vertex) (v : Vertex) (fresh : Bool) → IsWithMember old new v fresh → HasNoDoubles old → HasNoDoubles new
member_apart old new v fresh (inl one) apart = subst (λ (vs : List Vertex). HasNoDoubles vs) (sym one.1) (no_doubles_push old v apart one.2)
member_apart old new v fresh (inr same) apart = subst (λ (vs : List Vertex). HasNoDoubles vs) (sym same.1) apart

-- what was pushed was not there
pub member_fresh : (old new : List Vertex) (v : Vertex) (fresh : Bool) → IsWithMember old new v fresh → fresh ≡ true → Contains old v → ⊥
member_fresh old new v fresh (inl one) is = one.2
member_fresh old new v fresh (inr same) is = λ there. let no = same.0 in absurd cc

-- a lost or suspected vertex is still stale after more became stale
pub within_told : {Told : Vertex → Type 0} (lost stale wider suspects more : List Vertex) → AreSuspectsWithin lost suspects stale → AreToldOf Told lost stale wider suspects more → AreSuspectsWithin lost more wider
within_told lost stale wider suspects more within told v (inl gone) = told.widens v (within v (inl gone))
within_told lost stale wider suspects more within told v (inr waits) = elim (told.suspects_only v waits) [ inl was ↦ told.widens v (within v (inr was)) | inr is ↦ (told.told v is).0 ]

-- and after one that is stale was lost
pub within_lost : (lost more suspects stale : List Vertex) (v : Vertex) → AreSuspectsWithin lost suspects stale → Contains stale v → more ≡ lost ++ v ∷ [] → AreSuspectsWithin more suspects stale
within_lost lost more suspects stale v within there pushed w (inr waits) = within w (inr waits)
within_lost lost more suspects stale v within there pushed w (inl gone) = elim (Contains-push_cases lost v w (subst (λ (vs : List Vertex). Contains vs w) pushed gone)) [
  | inl was ↦ within w (inl was)
  | inr same ↦ subst (λ (u : Vertex). Contains stale u) same there
]

-- none is lost or suspected
pub within_none : (stale : List Vertex) → AreSuspectsWithin [] [] stale
within_none stale v (inl none) = absurd (no_element v none)
within_none stale v (inr none) = absurd (no_element v none)

-- the last suspect taken out
pub within_popped : (lost suspects rest stale : List Vertex) (v : Vertex) → suspects ≡ rest ++ v ∷ [] → AreSuspectsWithin lost suspects stale → AreSuspectsWithin lost rest stale × Contains stale v
within_popped lost suspects rest stale v popped within = (
  λ w c. elim c [ inl gone ↦ within w (inl gone) | inr waits ↦ within w (inr (subst (λ (vs : List Vertex). Contains vs w) (sym popped) (Contains-append_left rest (v ∷ []) w waits))) ],
  within v (inr (subst (λ (vs : List Vertex). Contains vs v) (sym popped) (Contains-push rest v))),
)

-- nobody
pub told_none : (Told : Vertex → Type 0) (lost stale suspects : List Vertex) → ((v : Vertex) → Told v → ⊥) → AreToldOf Told lost stale stale suspects suspects
told_none Told lost stale suspects none = record {
  widens = λ v c. c;
  waits = λ v c. c;
  told = λ v is. absurd (none v is);
  stale_only = λ v c. inl c;
  suspects_only = λ v c. inl c;
  apart = λ a. a;
}

-- one vertex that is not lost
pub told_one : (v : Vertex) (lost stale wider suspects more : List Vertex) (fresh : Bool) → IsAdded stale wider v → IsWithMember suspects more v fresh → AreToldOf (λ w. v ≡ w) lost stale wider suspects more
told_one v lost stale wider suspects more fresh adds with =
    let waits = member_added suspects more v fresh with in
    record {
      widens = adds.grows;
      waits = waits.grows;
      told = λ w is. (subst (λ (x : Vertex). Contains wider x) is adds.here, inr (subst (λ (x : Vertex). Contains more x) is waits.here));
      stale_only = λ w c. elim (adds.only w c) [ inl same ↦ inr (sym same) | inr was ↦ inl was ];
      suspects_only = λ w c. elim (waits.only w c) [ inl same ↦ inr (sym same) | inr was ↦ inl was ];
      apart = member_apart suspects more v fresh with;
    }

-- one that is lost
pub told_lost : (v : Vertex) (lost stale wider suspects : List Vertex) → IsAdded stale wider v → Contains lost v → AreToldOf (λ w. v ≡ w) lost stale wider suspects suspects
told_lost v lost stale wider suspects adds gone = record {
  widens = adds.grows;
  waits = λ w c. c;
  told = λ w is. (subst (λ (x : Vertex). Contains wider x) is adds.here, inl (subst (λ (x : Vertex). Contains lost x) is gone));
  stale_only = λ w c. elim (adds.only w c) [ inl same ↦ inr (sym same) | inr was ↦ inl was ];
  suspects_only = λ w c. inl c;
  apart = λ a. a;
}

-- some, and then others
told_both : (First Then All : Vertex → Type 0) (lost stale wide wider suspects some more : List Vertex)
    → ((v : Vertex) → All v → First v ⊎ Then v) → ((v : Vertex) → First v → All v) → ((v : Vertex) → Then v → All v)
    → AreToldOf First lost stale wide suspects some → AreToldOf Then lost wide wider some more → AreToldOf All lost stale wider suspects more
told_both First Then All lost stale wide wider suspects some more split first then a b = record {
  widens = λ v c. b.widens v (a.widens v c);
  waits = λ v c. b.waits v (a.waits v c);
  told = λ v is. elim (split v is) [
    | inl one ↦ let t = a.told v one in (b.widens v t.0, elim t.1 [ inl gone ↦ inl gone | inr waits ↦ inr (b.waits v waits) ])
    | inr other ↦ b.told v other
  ];
  stale_only = λ v c. elim (b.stale_only v c) [ inr is ↦ inr (then v is) | inl was ↦ elim (a.stale_only v was) [ inl was ↦ inl was | inr is ↦ inr (first v is) ] ];
  suspects_only = λ v c. elim (b.suspects_only v c) [ inr is ↦ inr (then v is) | inl was ↦ elim (a.suspects_only v was) [ inl was ↦ inl was | inr is ↦ inr (first v is) ] ];
  apart = λ apart. b.apart (a.apart apart);
}

-- the count, said otherwise
told_same : (A B : Vertex → Type 0) (lost stale wider suspects more : List Vertex) → ((v : Vertex) → A v → B v) → ((v : Vertex) → B v → A v)
    → AreToldOf A lost stale wider suspects more → AreToldOf B lost stale wider suspects more
told_same A B lost stale wider suspects more to from a = record {
  widens = a.widens;
  waits = a.waits;
  told = λ v is. a.told v (from v is);
  stale_only = λ v c. elim (a.stale_only v c) [ inl was ↦ inl was | inr is ↦ inr (to v is) ];
  suspects_only = λ v c. elim (a.suspects_only v c) [ inl was ↦ inl was | inr is ↦ inr (to v is) ];
  apart = a.apart;
}

module _ (Passes : GraphLink → Type 0) (links : List GraphLink) where
  -- the heads of the links up to a place
  abbrev pub HeadsBefore : ℕ → Vertex → Type 0
  HeadsBefore i = IsHead Passes (take i links)

  -- of no links there are no heads
  pub heads_none : (v : Vertex) → HeadsBefore 0 v → ⊥
  heads_none v is = no_element is.0 is.1

  module _ (i : ℕ) (l : GraphLink) (within : i < length links) (at : get_or links i l ≡ l) where
    next_is : take (i + 1) links ≡ take i links ++ l ∷ []
    next_is = take_more links i l within ∙ ap (λ (x : GraphLink). take i links ++ x ∷ []) at

    -- one more link has the heads of those before it, and its own if it passes
    heads_split : (v : Vertex) → HeadsBefore (i + 1) v → HeadsBefore i v ⊎ (Passes l × (l.to ≡ v))
    heads_split v is = elim (Contains-push_cases (take i links) l is.0 (subst (λ (ls : List GraphLink). Contains ls is.0) next_is is.1)) [
      | inl before ↦ inl (is.0, before, is.2, is.3)
      | inr same ↦ inr (subst Passes (sym same) is.2, ap (λ (x : GraphLink). x.to) same ∙ is.3)
    ]

    heads_grow : (v : Vertex) → HeadsBefore i v → HeadsBefore (i + 1) v
    heads_grow v is = (is.0, subst (λ (ls : List GraphLink). Contains ls is.0) (sym next_is) (Contains-append_left (take i links) (l ∷ []) is.0 is.1), is.2, is.3)

    head_here : Passes l → (v : Vertex) → l.to ≡ v → HeadsBefore (i + 1) v
    head_here passes v is = (l, subst (λ (ls : List GraphLink). Contains ls l) (sym next_is) (Contains-push (take i links) l), passes, is)

    -- a link that passes, and whose head becomes stale
    pub told_next : (lost stale wide wider suspects some more : List Vertex) → AreToldOf (HeadsBefore i) lost stale wide suspects some → Passes l
        → AreToldOf (λ v. l.to ≡ v) lost wide wider some more → AreToldOf (HeadsBefore (i + 1)) lost stale wider suspects more
    told_next lost stale wide wider suspects some more before passes now =
        told_both (HeadsBefore i) (λ v. l.to ≡ v) (HeadsBefore (i + 1)) lost stale wide wider suspects some more
        (λ v is. elim (heads_split v is) [ inl was ↦ inl was | inr here ↦ inr here.1 ]) heads_grow (head_here passes) before now

    -- one that does not pass
    pub told_skipped : (lost stale wider suspects more : List Vertex) → AreToldOf (HeadsBefore i) lost stale wider suspects more → (Passes l → ⊥) → AreToldOf (HeadsBefore (i + 1)) lost stale wider suspects more
    told_skipped lost stale wider suspects more before not_passed =
        told_same (HeadsBefore i) (HeadsBefore (i + 1)) lost stale wider suspects more heads_grow
        (λ v is. elim (heads_split v is) [ inl was ↦ was | inr here ↦ absurd (not_passed here.0) ]) before

-- ---- whether a vertex is supported

module _ (g : GraphValue) (old : Vertex → Option ℕ) (lost : List Vertex) (v : Vertex) (d : ℕ) (links : List GraphLink) (exact : AreLinksTo g v links) where
  -- a link into the vertex that supports it
  pub supported_by : (l : GraphLink) → Contains links l → Supports old lost d l → IsSupported (LinksOf g) old lost v d
  supported_by l there s =
      let into = (exact l).0 there in
      record {
        from = l.from;
        cost = l.cost;
        label = l.label;
        taken = subst (λ (w : Vertex). LinksOf g l.from w l.cost l.label) into.0 into.1;
        near = s.0;
        tail = s.1;
        kept = s.2;
        most = s.3;
      }

  -- none does, neither among those that were passed over nor among the others
  pub unsupported : (passed others : List GraphLink) → links ≡ passed ++ others → All (λ l. Supports old lost d l → ⊥) passed → All (λ l. Supports old lost d l → ⊥) others → IsSupported (LinksOf g) old lost v d → ⊥
  unsupported passed others parts before rest s =
      let l = link_value s.from v s.cost s.label in
      let there : Contains (passed ++ others) l = subst (λ (ls : List GraphLink). Contains ls l) parts ((exact l).1 (refl, s.taken)) in
      let supports : Supports old lost d l = (s.near, s.tail, s.kept, s.most) in
      elim (Contains-append_cases passed others l there) [
        | inl early ↦ All-contains (λ l. Supports old lost d l → ⊥) passed l before early supports
        | inr late ↦ All-contains (λ l. Supports old lost d l → ⊥) others l rest late supports
      ]

-- ---- what comes of one suspect

module _ (g : GraphValue) (old : Vertex → Option ℕ) (lost suspects stale : List Vertex) (v : Vertex) where
  -- one that was not lost, and is not supported, is lost
  pub judged_lost : (more again wider : List Vertex) (fresh : Bool) (d : ℕ) (links : List GraphLink) → (Contains lost v → ⊥) → old v ≡ Some d → (IsSupported (LinksOf g) old lost v d → ⊥) → AreLinksFrom g v links
      → IsWithMember lost more v fresh → AreSuspectsWithin more suspects stale → AreToldOf (IsHead (MaySupport g.root old d) links) more stale wider suspects again → IsSuspectJudged g old lost more suspects again stale wider v
  judged_lost more again wider fresh d links new at not_supported exact with within told = inr (record {
    judged = record {
      unsupported = λ e is supported. not_supported (subst (λ n. IsSupported (LinksOf g) old lost v n) (sym (same_distance e is)) supported);
      adds = member_added lost more v fresh with;
      waits = told.waits;
      widens = told.widens;
      led = λ to cost label e far taken other is to_at most.
          told.told to (link_value v to cost label, (exact (link_value v to cost label)).1 (refl, taken), (other, far, to_at, subst (λ n. n + cost ≤ far) (sym (same_distance e is)) most), refl);
      only = λ w c. elim (told.suspects_only w c) [
        | inl was ↦ inl was
        | inr head ↦ inr (subst (λ (x : Vertex). IsReached g.root old x) head.3 (record { number = head.2.1; at = head.2.2; other = head.2.0 }))
      ];
    };
    why = λ w c. elim (told.stale_only w c) [
      | inl was ↦ inl was
      | inr head ↦
          let out = (exact head.0).0 head.1 in
          inr (head.0.cost, head.0.label, subst (λ (x : Vertex). LinksOf g v x head.0.cost head.0.label) head.3 (subst (λ (x : Vertex). LinksOf g x head.0.to head.0.cost head.0.label) out.0 out.1))
    ];
    fresh = new;
    within = within_told more stale wider suspects again within told;
    end = elim with [ inl one ↦ one.1 | inr same ↦ absurd (new same.2) ];
    apart = told.apart;
  })
    where
      same_distance : (e : ℕ) → old v ≡ Some e → d ≡ e
      same_distance e is = let same : Some d ≡ Some e = sym at ∙ is in cc

-- ---- the loop

module _ (g : GraphValue) (gone come : List GraphLink) (old : Vertex → Option ℕ) (is : IsRightBefore g gone come old) where
  -- at the start the heads of the removed least links become stale
  pub suspected_at_start : (suspects stale : List Vertex) → AreToldOf (IsHead (WasLeast g.root old) gone) [] [] stale [] suspects → AreSuspected g gone come old [] suspects stale
  suspected_at_start suspects stale told = record {
    losing_support = lose_support_start is.distances (record { went = (earlier_changes (LinksOf g) gone come).went }) suspects stale
        (λ from to cost label other least.
        let t = told.told to (link_value from to cost label, least.taken, (other, least.near, least.tail, least.head), refl) in
        (elim t.1 [ inl none ↦ absurd (no_element to none) | inr waits ↦ waits ], t.0))
        (λ v c. elim (told.suspects_only v c) [
          | inl none ↦ absurd (no_element v none)
          | inr head ↦ subst (λ (x : Vertex). IsReached g.root old x) head.3 (record { number = head.2.1 + head.0.cost; at = head.2.3; other = head.2.0 })
        ]);
    why = λ v c. elim (told.stale_only v c) [
      | inl none ↦ absurd (no_element v none)
      | inr head ↦ inl (head.0.from, head.0.cost, head.0.label, subst (λ (x : Vertex). Among gone head.0.from x head.0.cost head.0.label) head.3 head.1)
    ];
    within = within_told [] [] stale [] suspects (within_none []) told;
    lost_apart = no_doubles_nil;
    suspects_apart = told.apart no_doubles_nil;
  }

  module _ (lost more suspects rest again stale wider : List Vertex) (v : Vertex) (popped : suspects ≡ rest ++ v ∷ []) where
    -- the suspect that was removed was among them
    one_out : IsAdded rest suspects v
    one_out = subst (λ (vs : List Vertex). IsAdded rest vs v) (sym popped) (added_end v rest)

    -- the others are still apart
    rest_apart : HasNoDoubles suspects → HasNoDoubles rest
    rest_apart apart i j d less within same =
        subst (λ (vs : List Vertex). HasNoDoubles vs) popped apart i j d less (omega (arith, within, length-append rest (v ∷ [])))
        (get_or-append rest (v ∷ []) d i (omega (arith, less, within)) ∙ same ∙ sym (get_or-append rest (v ∷ []) d j within))

    -- each round keeps the invariant
    pub suspected_next : AreSuspected g gone come old lost suspects stale → IsSuspectJudged g old lost more rest again stale wider v → AreSuspected g gone come old more again wider
    suspected_next s (inl p) =
        subst (λ (vs : List Vertex). AreSuspected g gone come old vs again wider) (sym p.lost_same)
        (subst (λ (vs : List Vertex). AreSuspected g gone come old lost vs wider) (sym p.suspects_same)
        (subst (λ (vs : List Vertex). AreSuspected g gone come old lost rest vs) (sym p.stale_same) (record {
          losing_support = lose_support_passed is.distances lost rest suspects stale v s.losing_support one_out p.passed;
          why = s.why;
          within = (within_popped lost suspects rest stale v popped s.within).0;
          lost_apart = s.lost_apart;
          suspects_apart = rest_apart s.suspects_apart;
        })))
    suspected_next s (inr n) = record {
      losing_support = lose_support_lost is.distances lost more rest suspects again stale wider v s.losing_support one_out n.judged;
      why = λ w c. elim (n.why w c) [
        | inr out ↦ inr (v, out.0, out.1, out.2, n.judged.adds.here)
        | inl was ↦ elim (s.why w was) [
          | inl went ↦ inl went
          | inr out ↦ inr (out.0, out.1, out.2, out.3, n.judged.adds.grows out.0 out.4)
        ]
      ];
      within = n.within;
      lost_apart = subst (λ (vs : List Vertex). HasNoDoubles vs) (sym n.end) (no_doubles_push lost v s.lost_apart n.fresh);
      suspects_apart = n.apart (rest_apart s.suspects_apart);
    }

-- with no suspect left
pub lost_at_end : (g : GraphValue) (gone come : List GraphLink) (old : Vertex → Option ℕ) (lost stale : List Vertex) → AreSuspected g gone come old lost [] stale → AreLost g gone come old lost stale
lost_at_end g gone come old lost stale s = record { losing_support = s.losing_support; why = s.why }

-- No more are lost, and no more suspected, than have a distance. So each round comes nearer to the
-- end.
pub suspects_fall : (g : GraphValue) (gone come : List GraphLink) (m : DistanceMap) (lost more suspects rest again stale wider : List Vertex) (v : Vertex) → suspects ≡ rest ++ v ∷ []
    → IsSuspectJudged g (get m) lost more rest again stale wider v → AreSuspected g gone come (get m) more again wider
    → (len m - length more) * (len m + 1) + length again < (len m - length lost) * (len m + 1) + length suspects
suspects_fall g gone come m lost more suspects rest again stale wider v popped judged s =
    lose_support_falls (len m) (length lost) (length more) (length suspects) (length again)
    (len_most m more s.lost_apart (λ w c. let r = s.losing_support.reached w c in (r.number, r.at)))
    (len_most m again s.suspects_apart (λ w c. let r = s.losing_support.suspected w c in (r.number, r.at)))
    (elim judged [
      | inl p ↦
          let fewer : length again < length suspects = omega (arith, ap length p.suspects_same, ap length popped, length-append rest (v ∷ [])) in
          inr (ap length (sym p.lost_same), fewer)
      | inr n ↦
          let one : length lost + 1 ≡ length more = omega (arith, ap length n.end, length-append lost (v ∷ [])) in
          inl one
    ])
