use Rattle.std.proofs.Common.{List, [], Bor, ap, subst, sym, ◌∙◌, Option}
use Rattle.std.specs.Prelude.{◌≡◌, ◌↔◌, IsTrue, option_copied}
use Rattle.std.specs.List.{Contains}
use Rattle.std.proofs.lemmas.Slice.Eq.{slice_eq-Decides}
use Rattle.ospf_types.specs.declared.hop.NextHop.{NextHop}
use Rattle.ospf_types.proofs.Paths.{hop_eq-Decides}
use Rattle.spf.specs.TreeValues.{listed_hops}
use Rattle.spf.proofs.HopUnions.{same_sets, same_as_none}
use Rattle.spf.proofs.gathering.are_same.Goals as goal

pub returns-in-Some : goal.returns-in-Some
returns-in-Some c =
    let decides = slice_eq-Decides hop_eq-Decides c.as_slice.result.now c.as_slice-in-Some.result.now c.eq.result c.eq.ensures in
    let was : listed_hops (option_copied c.args.before) ≡ c.in-Some.before.now = ap (λ o. listed_hops (option_copied o)) c.in-Some.is in
    let same = same_sets c.in-Some.before.now c.args.after.now c.as_slice.ensures.in_order c.as_slice-in-Some.ensures.in_order in
    subst (λ (hops : List NextHop). IsTrue c.eq.result ↔ ((h : NextHop) → Contains hops h ↔ Contains c.args.after.now h)) (sym was)
    (λ yes. same.0 (sym c.as_slice.ensures.value ∙ decides.0 yes ∙ c.as_slice-in-Some.ensures.value), λ hops. decides.1 (c.as_slice.ensures.value ∙ same.1 hops ∙ sym c.as_slice-in-Some.ensures.value))

pub returns-in-None : goal.returns-in-None
returns-in-None c =
    let was : listed_hops (option_copied c.args.before) ≡ [] = ap (λ (o : Option (Bor (List NextHop))). listed_hops (option_copied o)) c.in-None.is in
    let same = same_as_none c.args.after.now in
    subst (λ (hops : List NextHop). IsTrue c.is_empty.result ↔ ((h : NextHop) → Contains hops h ↔ Contains c.args.after.now h)) (sym was)
    (λ yes. same.0 (c.is_empty.ensures.0 yes), λ hops. c.is_empty.ensures.1 (same.1 hops))
