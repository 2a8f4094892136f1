use Rattle.std.proofs.Common.{◌≡◌, ◌<◌, ◌≤◌, ◌+◌, List, length, get_or, take, Some, None, sym, ap, subst, ◌∙◌, arith}
use Rattle.std.specs.FinMap.{insert}
use Rattle.std.proofs.lemmas.List.{length-map, take_all}
use Rattle.ospf_types.specs.declared.config.AreaConfig.{AreaConfig}
use Rattle.ospf_types.specs.declared.key.Scope.{Scope}
use Rattle.ospf_types.specs.Lsa.{Lsa, key_of}
use Rattle.lsa_codec.specs.Spelling.{IsLegal}
use Rattle.lsdb.specs.Databases.{DatabaseValue, install_refusal_of}
use Rattle.event_state.specs.Changes.{IsChange, no_database}
use Rattle.event_state.specs.Held.{AreFilled}
use Rattle.event_state.specs.States.{place_of}
use Rattle.event_state.proofs.Faultless.{faultless}
use Rattle.event_state.proofs.Filling.{filled_new, put_within, put_fits, filled_more, scope_listed}
use Rattle.event_state.proofs.area_databases.put_all.Goals as goal
use Rattle.event_state.proofs.area_databases.put_all.Goals.{in-Some+in_ok-copy+in_ok-put_at, in_default}

pub loop-scope-init : goal.loop-scope-init
loop-scope-init c = filled_new c.args.base.now.config c.args.limits c.args.databases.now c.requires.empty

pub put_at-requires-clause-within : goal.put_at-requires-clause-within
put_at-requires-clause-within c =
    let b = c.args.base.now in
    let i = c.loop-scope.scope-index in
    let x = c.loop-scope-item.result in
    let items = c.as_slice-scope-items.ensures in
    let lt : i < length b.lsas = omega (arith, c.loop-scope-test.true, ap length items) in
    let is : x ≡ get_or b.lsas i x = c.loop-scope-item.is ∙ ap (λ (all : List (Scope × Lsa)). get_or all i x) items in
    let place : place_of b.config.areas x.0 ≡ Some c.in-Some.place = ap (λ (areas : List AreaConfig). place_of areas x.0) (sym c.as_slice-areas.ensures) ∙ sym c.place_of.ensures ∙ c.in-Some.is in
    let within = put_within c.args.limits b (faultless c.args.limits b c.requires.sound) i x.0 x.1 c.in-Some.place lt is place c.loop-scope.databases c.loop-scope.invariant in
    omega (arith, within, length-map c.loop-scope.databases (λ (d : DatabaseValue). d.lsas))

pub put_at-requires-clause-fits : goal.put_at-requires-clause-fits
put_at-requires-clause-fits c =
    let b = c.args.base.now in
    let i = c.loop-scope.scope-index in
    let x = c.loop-scope-item.result in
    let k = c.in-Some.place in
    let ds = c.loop-scope.databases in
    let items = c.as_slice-scope-items.ensures in
    let lt : i < length b.lsas = omega (arith, c.loop-scope-test.true, ap length items) in
    let is : x ≡ get_or b.lsas i x = c.loop-scope-item.is ∙ ap (λ (all : List (Scope × Lsa)). get_or all i x) items in
    let place : place_of b.config.areas x.0 ≡ Some k = ap (λ (areas : List AreaConfig). place_of areas x.0) (sym c.as_slice-areas.ensures) ∙ sym c.place_of.ensures ∙ c.in-Some.is in
    subst (λ (l : Lsa). install_refusal_of (get_or ds k no_database).lsas (get_or ds k no_database).limit l ≡ None) (sym c.in_ok-copy.ensures)
    (put_fits c.args.limits b (faultless c.args.limits b c.requires.sound) i x.0 x.1 k lt is place ds c.loop-scope.invariant)

pub loop-scope-preserved : goal.loop-scope-preserved
loop-scope-preserved c =
    let b = c.args.base.now in
    let i = c.loop-scope.scope-index in
    let x = c.loop-scope-item.result in
    let ds = c.loop-scope.databases in
    let items = c.as_slice-scope-items.ensures in
    let lt : i < length b.lsas = omega (arith, c.loop-scope-test.true, ap length items) in
    let is : x ≡ get_or b.lsas i x = c.loop-scope-item.is ∙ ap (λ (all : List (Scope × Lsa)). get_or all i x) items in
    let h = faultless c.args.limits b c.requires.sound in
    let found = ap (λ (areas : List AreaConfig). place_of areas x.0) (sym c.as_slice-areas.ensures) ∙ sym c.place_of.ensures in
    elim c.match-place_of.branch [
      | in-Some+in_ok-copy+in_ok-put_at w ↦
          let k = w.in-Some.place in
          let new = w.put_at.new.databases in
          let change : IsChange ds new k (λ d. insert d (key_of x.1) x.1) = subst (λ (l : Lsa). IsChange ds new k (λ d. insert d (key_of l) l)) w.in_ok-copy.ensures w.in_ok-put_at.ensures.done in
          let legal = subst IsLegal w.in_ok-copy.ensures w.put_at.ensures.legal in
          subst (AreFilled b.config c.args.limits (take (i + 1) b.lsas)) (sym w.databases-is)
          (filled_more c.args.limits b h i x.0 x.1 k lt is (found ∙ w.in-Some.is) ds c.loop-scope.invariant new legal change)
      | in_default w ↦ absurd (scope_listed c.args.limits b h i x lt is (found ∙ w.in_default.is))
    ]

pub returns : goal.returns
returns c =
    let b = c.args.base.now in
    let i = c.loop-scope.scope-index in
    let past : length b.lsas ≤ i = omega (arith, c.loop-scope-test.false, ap length c.as_slice-scope-items.ensures) in
    record { filled = subst (λ (lsas : List (Scope × Lsa)). AreFilled b.config c.args.limits lsas c.loop-scope.databases) (take_all i b.lsas past) c.loop-scope.invariant }
