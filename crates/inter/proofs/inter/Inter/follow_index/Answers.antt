-- The destinations that may get another entry are gathered.
use Rattle.std.proofs.Common.{ℕ, List, Option, ap, subst}
use Rattle.ospf_types.specs.declared.key.Dest.{Dest}
use Rattle.advertised_index.specs.Indexes.{ChangedOffersValue, OfferIndexValue}
use Rattle.inter.specs.Following.{AreLed, ArePushed, area_of}
use Rattle.inter.specs.Inters.{InterValue}
use Rattle.inter.proofs.Following.{followed_from}
use Rattle.inter.proofs.inter.Inter.follow_index.Goals as goal

pub returns-clause-followed : goal.returns-clause-followed
returns-clause-followed c =
    let v = c.args.inputs.now in
    let old = c.args.self.now in
    let new = c.follow_examined.new.index in
    let affected = c.follow_examined.new.affected.dests in
    let led = subst (λ (area : Option ℕ). AreLed area (area_of v.examined) old.index new affected) (ap (λ (w : InterValue). w.examined) c.self.view_is)
    (subst (λ (i : OfferIndexValue). AreLed c.self.inside.examined (area_of v.examined) i new affected) (ap (λ (w : InterValue). w.index) c.self.view_is) c.in_ok-follow_examined.ensures.led) in
    let pushed = subst (λ (ds : List Dest). ArePushed new c.args.dirty.now.dests.items ds c.push_named.new.dests.items) (ap (λ (a : ChangedOffersValue). a.dests) c.affected.view_is)
    (subst (λ (ds : List Dest). ArePushed new ds c.affected.inside.dests.items c.push_named.new.dests.items) c.deref-2.ensures.value c.in_ok-push_named.ensures) in
    followed_from c.args.dirty.now.dests.items v old.examined old.index new affected c.push_named.new.dests.items c.in_ok-follow_examined.ensures.index led pushed
