-- The named keys, the named vertices, and the root.
use Rattle.std.proofs.Common.{ℕ, ◌≡◌, List, sym, subst, refl, ◌∙◌}
use Rattle.ospf_types.specs.declared.entry.Vertex.{Vertex}
use Rattle.ospf_types.specs.declared.entry.Vertex.TheVariants.{Router}
use Rattle.ospf_types.specs.declared.key.Key.{Key}
use Rattle.ospf_types.specs.declared.key.Scope.{Scope}
use Rattle.spf.specs.HandedOn.{IsOfSome}
use Rattle.intra.specs.Indexes.{IsAreaIndexOf}
use Rattle.intra.specs.Following.{NamesVertex, NamesIn, IsIndexUpdated, HasOffered}
use Rattle.intra.proofs.Following.{index_followed, by_keys, by_vertices, area_gathered, area_updated, none_of_empty, offered_none}
use Rattle.intra.proofs.area.AreaIntra.follow.Goals as goal

pub returns-in_ok-name_prefixes-clause-index : goal.returns-in_ok-name_prefixes-clause-index
returns-in_ok-name_prefixes-clause-index c =
    let before = c.requires.before in
    let taken = subst (λ (keys : List (Scope × Key)). IsIndexUpdated c.args.rooted.now.area.now.lsas (IsOfSome keys (NamesVertex c.args.self.now.id)) c.args.self.now c.follow_keys.new.self c.args.named.now.prefixes.items c.follow_keys.new.prefixes.items)
    c.deref.ensures.value c.in_ok-follow_keys.ensures in
    subst (IsAreaIndexOf c.args.rooted.now.area.now.lsas) (sym (c.in_ok-follow_vertices.ensures.updated.index ∙ c.in_ok-update_by_keys.ensures.index))
    (index_followed c.args.dirty.now.keys.items c.args.self.now.id before.0 c.args.rooted.now.area.now.lsas c.args.self.now c.follow_keys.new.self _ _ before.1 before.2 taken)

pub returns-in_ok-name_prefixes-clause-gathered : goal.returns-in_ok-name_prefixes-clause-gathered
returns-in_ok-name_prefixes-clause-gathered c =
    let d = c.args.dirty.now in
    let old = c.args.self.now in
    let mid = c.follow_keys.new.self in
    let by_key = c.update_by_keys.new.self in
    let new = c.follow_vertices.new.self in
    let root = c.args.rooted.now.root in
    let a = c.args.rooted.now.area.now in
    let names = IsOfSome c.deref.result.now (NamesVertex old.id) in
    let before = c.args.named.now in
    let first = c.follow_keys.new.prefixes.items in
    let r_mid = c.update_by_keys.new.routers.items in
    let then = c.follow_vertices.new.named in
    let taken = c.in_ok-follow_keys.ensures in
    let keyed = by_keys root a d.keys.items c.deref-2.result.now old.id mid.id mid by_key before.routers.items r_mid taken.id c.deref-2.ensures.value c.in_ok-update_by_keys.ensures in
    let settled = by_vertices root a d.vertices.items c.deref-3.result.now old.id by_key.id by_key new r_mid then.routers.items (keyed.id ∙ taken.id) c.deref-3.ensures.value c.in_ok-follow_vertices.ensures.updated in
    let named = subst (λ (vertices : List (ℕ × Vertex)). HasOffered by_key.index (IsOfSome vertices (NamesIn by_key.id)) first then.prefixes.items) c.deref-3.ensures.value c.in_ok-follow_vertices.ensures.offered in
    area_gathered root a.lsas a d.keys.items d.vertices.items d.interfaces.items names (λ v. v ≡ Router root) old mid by_key new before.prefixes.items first then.prefixes.items c.name_prefixes.new.prefixes.items before.routers.items r_mid then.routers.items
    taken keyed settled named c.in_ok-name_prefixes.ensures.offered (λ id there. refl)

pub returns-in_ok-name_prefixes-clause-updated : goal.returns-in_ok-name_prefixes-clause-updated
returns-in_ok-name_prefixes-clause-updated c =
    let d = c.args.dirty.now in
    let old = c.args.self.now in
    let mid = c.follow_keys.new.self in
    let by_key = c.update_by_keys.new.self in
    let new = c.follow_vertices.new.self in
    let root = c.args.rooted.now.root in
    let a = c.args.rooted.now.area.now in
    let names = IsOfSome c.deref.result.now (NamesVertex old.id) in
    let before = c.args.named.now in
    let first = c.follow_keys.new.prefixes.items in
    let r_mid = c.update_by_keys.new.routers.items in
    let then = c.follow_vertices.new.named in
    let taken = c.in_ok-follow_keys.ensures in
    let keyed = by_keys root a d.keys.items c.deref-2.result.now old.id mid.id mid by_key before.routers.items r_mid taken.id c.deref-2.ensures.value c.in_ok-update_by_keys.ensures in
    let settled = by_vertices root a d.vertices.items c.deref-3.result.now old.id by_key.id by_key new r_mid then.routers.items (keyed.id ∙ taken.id) c.deref-3.ensures.value c.in_ok-follow_vertices.ensures.updated in
    area_updated root a.lsas a d.keys.items d.vertices.items d.interfaces.items names (λ v. ⊥) old mid by_key new before.prefixes.items first then.prefixes.items then.prefixes.items before.routers.items r_mid then.routers.items
    taken keyed settled

pub returns-else-not-is_empty-clause-index : goal.returns-else-not-is_empty-clause-index
returns-else-not-is_empty-clause-index c =
    let before = c.requires.before in
    let taken = subst (λ (keys : List (Scope × Key)). IsIndexUpdated c.args.rooted.now.area.now.lsas (IsOfSome keys (NamesVertex c.args.self.now.id)) c.args.self.now c.follow_keys.new.self c.args.named.now.prefixes.items c.follow_keys.new.prefixes.items)
    c.deref.ensures.value c.in_ok-follow_keys.ensures in
    subst (IsAreaIndexOf c.args.rooted.now.area.now.lsas) (sym (c.in_ok-follow_vertices.ensures.updated.index ∙ c.in_ok-update_by_keys.ensures.index))
    (index_followed c.args.dirty.now.keys.items c.args.self.now.id before.0 c.args.rooted.now.area.now.lsas c.args.self.now c.follow_keys.new.self _ _ before.1 before.2 taken)

pub returns-else-not-is_empty-clause-gathered : goal.returns-else-not-is_empty-clause-gathered
returns-else-not-is_empty-clause-gathered c =
    let d = c.args.dirty.now in
    let old = c.args.self.now in
    let mid = c.follow_keys.new.self in
    let by_key = c.update_by_keys.new.self in
    let new = c.follow_vertices.new.self in
    let root = c.args.rooted.now.root in
    let a = c.args.rooted.now.area.now in
    let names = IsOfSome c.deref.result.now (NamesVertex old.id) in
    let before = c.args.named.now in
    let first = c.follow_keys.new.prefixes.items in
    let r_mid = c.update_by_keys.new.routers.items in
    let then = c.follow_vertices.new.named in
    let taken = c.in_ok-follow_keys.ensures in
    let keyed = by_keys root a d.keys.items c.deref-2.result.now old.id mid.id mid by_key before.routers.items r_mid taken.id c.deref-2.ensures.value c.in_ok-update_by_keys.ensures in
    let settled = by_vertices root a d.vertices.items c.deref-3.result.now old.id by_key.id by_key new r_mid then.routers.items (keyed.id ∙ taken.id) c.deref-3.ensures.value c.in_ok-follow_vertices.ensures.updated in
    let named = subst (λ (vertices : List (ℕ × Vertex)). HasOffered by_key.index (IsOfSome vertices (NamesIn by_key.id)) first then.prefixes.items) c.deref-3.ensures.value c.in_ok-follow_vertices.ensures.offered in
    area_gathered root a.lsas a d.keys.items d.vertices.items d.interfaces.items names (λ v. ⊥) old mid by_key new before.prefixes.items first then.prefixes.items then.prefixes.items before.routers.items r_mid then.routers.items
    taken keyed settled named (offered_none new.index (λ v. ⊥) then.prefixes.items (λ v no. no))
    (λ id there. none_of_empty d.interfaces.items _ id d.interfaces.ok.0 (sym c.is_empty.ensures ∙ c.if-not-is_empty.false) there)

pub returns-else-not-is_empty-clause-updated : goal.returns-else-not-is_empty-clause-updated
returns-else-not-is_empty-clause-updated c =
    let d = c.args.dirty.now in
    let old = c.args.self.now in
    let mid = c.follow_keys.new.self in
    let by_key = c.update_by_keys.new.self in
    let new = c.follow_vertices.new.self in
    let root = c.args.rooted.now.root in
    let a = c.args.rooted.now.area.now in
    let names = IsOfSome c.deref.result.now (NamesVertex old.id) in
    let before = c.args.named.now in
    let first = c.follow_keys.new.prefixes.items in
    let r_mid = c.update_by_keys.new.routers.items in
    let then = c.follow_vertices.new.named in
    let taken = c.in_ok-follow_keys.ensures in
    let keyed = by_keys root a d.keys.items c.deref-2.result.now old.id mid.id mid by_key before.routers.items r_mid taken.id c.deref-2.ensures.value c.in_ok-update_by_keys.ensures in
    let settled = by_vertices root a d.vertices.items c.deref-3.result.now old.id by_key.id by_key new r_mid then.routers.items (keyed.id ∙ taken.id) c.deref-3.ensures.value c.in_ok-follow_vertices.ensures.updated in
    area_updated root a.lsas a d.keys.items d.vertices.items d.interfaces.items names (λ v. ⊥) old mid by_key new before.prefixes.items first then.prefixes.items then.prefixes.items before.routers.items r_mid then.routers.items
    taken keyed settled
