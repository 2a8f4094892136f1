-- One named key more.
use Rattle.std.proofs.Common.{ℕ, ◌+◌, get_or, take, subst}
use Rattle.std.proofs.lemmas.List.{get_or_default}
use Rattle.ospf_types.specs.declared.key.Key.{Key}
use Rattle.ospf_types.specs.declared.key.Scope.{Scope}
use Rattle.ospf_types.specs.declared.key.Scope.TheVariants.{Area}
use Rattle.spf.specs.HandedOn.{IsOfSome}
use Rattle.spf.proofs.OfSome.{of_more}
use Rattle.intra.specs.Following.{NamesVertex, IsIndexUpdated}
use Rattle.intra.proofs.Following.{taken_then}
use Rattle.intra.proofs.area.AreaIntra.follow_keys.Goals as goal

pub loop-named-preserved : goal.loop-named-preserved
loop-named-preserved c =
    let i = c.loop-named.named-index in
    let all = c.args.keys.now in
    let names = NamesVertex c.args.self.now.id in
    let x : Scope × Key = get_or all i (Area 0, record { kind = 0; id = 0; router = 0 }) in
    let step = subst (λ (id : ℕ). IsIndexUpdated c.args.area.now.lsas (NamesVertex id x) c.loop-named.self c.follow_key.new.self c.loop-named.prefixes.items c.follow_key.new.prefixes.items) c.loop-named.invariant.id c.in_ok-follow_key.ensures in
    taken_then c.args.area.now.lsas (IsOfSome (take i all) names) (names x) (IsOfSome (take (i + 1) all) names) _ c.loop-named.self _ _ c.loop-named.prefixes.items _
    (λ v. (of_more names all i x v c.loop-named-test.true (get_or_default all i _ _ c.loop-named-test.true)).0) c.loop-named.invariant step
