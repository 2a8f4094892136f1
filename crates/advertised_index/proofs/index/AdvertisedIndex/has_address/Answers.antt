use Rattle.std.proofs.Common.{◌≡◌, true, false, List, refl, sym, subst}
use Rattle.std.specs.Prelude.{Contains}
use Rattle.ospf_types.proofs.Elements.{no_element, first_element}
use Rattle.advertised_index.specs.declared.index_key.IndexKey.TheVariants.{Forwarded}
use Rattle.advertised_index.proofs.Groups.{Member, not_after_itself, neither_after}
use Rattle.advertised_index.proofs.Gathering.{listed_there, listed_of}
use Rattle.advertised_index.proofs.index.AdvertisedIndex.has_address.Goals as goal

pub returns-in-Some : goal.returns-in-Some
returns-in-Some c =
    let group = Forwarded c.args.address in
    let m : Member = c.in-Some.field-0.now in
    let found = c.among.ensures.only m (subst (λ (ms : List Member). Contains ms m) (sym c.in-Some.ensures.steps) (first_element m c.next.new.self)) in
    let in_group = listed_of _ c.self.inside.members c.args.self.now c.self.view_is c.self.invariant group m (neither_after group m.0 found.1 found.2) found.0 in
    (λ _. (m.1, in_group), λ _. refl)

pub returns-in-None : goal.returns-in-None
returns-in-None c =
    let group = Forwarded c.args.address in (
      λ wrong. absurd (let e : false ≡ true = wrong in cc),
      λ forwarded.
          let listed = listed_there _ c.self.inside.members c.args.self.now c.self.view_is c.self.invariant group forwarded.0 forwarded.1 in
          absurd (no_element (group, forwarded.0) (subst (λ (ms : List Member). Contains ms (group, forwarded.0)) c.in-None.ensures.steps.0 (c.among.ensures.all (group, forwarded.0) listed (not_after_itself group) (not_after_itself group)))),
    )
