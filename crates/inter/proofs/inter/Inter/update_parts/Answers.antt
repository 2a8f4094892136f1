-- The entries that are not named stay; then each entry is chosen.
use Rattle.std.proofs.Common.{◌≢◌, ap, subst, sym, ◌∙◌}
use Rattle.std.specs.Prelude.{◌↔◌, Contains}
use Rattle.std.specs.FinMap.{get, from_entries}
use Rattle.ospf_types.specs.Keys.{dest_cmp}
use Rattle.advertised_index.specs.Indexes.{OfferIndexValue}
use Rattle.inter.specs.Choosing.{IsChosenFor}
use Rattle.inter.specs.Following.{IsFollowed}
use Rattle.inter.specs.Inters.{EntriesByDest, InterValue}
use Rattle.inter.proofs.Frame.{all_stand, updated}
use Rattle.inter.proofs.inter.Inter.update_parts.Goals as goal

pub follow-requires : goal.follow-requires
follow-requires c = λ d absent.
    let b = c.requires.before in
    let v = c.args.inputs.now in
    let dirty = c.args.dirty.now in
    let old = c.args.self.now in
    let inside = c.self.inside in
    let first = c.in_ok-dests.ensures in
    let dests = c.in_ok-dests.dests.items in
    let followed = subst (λ (i : OfferIndexValue). IsFollowed dirty.dests.items v old.examined old.index i dests) (sym (ap (λ (w : InterValue). w.index) c.self.view_is)) first.followed in
    subst (λ (m : EntriesByDest). IsChosenFor v inside.index d (get m d)) (sym (ap (λ (w : InterValue). w.entries) c.self.view_is ∙ first.entries))
    (all_stand dirty.keys.items dirty.dests.items b.0 v old inside.index dests b.1 b.2 followed d absent)

pub returns-clause-kept : goal.returns-clause-kept
returns-clause-kept c =
    let first = c.in_ok-dests.ensures in
    let new : InterValue = record { examined = c.self.inside.examined; index = c.self.inside.index; entries = from_entries c.follow.new.self.entries; spent = c.self.inside.spent } in
    updated c.args.inputs.now new (ap (λ (w : InterValue). w.spent) c.self.view_is ∙ first.spent ∙ c.requires.before.1.fresh) (ap (λ (w : InterValue). w.examined) c.self.view_is ∙ first.examined)
    (subst (λ (i : OfferIndexValue). IsFollowed c.args.dirty.now.dests.items c.args.inputs.now c.args.self.now.examined c.args.self.now.index i c.in_ok-dests.dests.items) (sym (ap (λ (w : InterValue). w.index) c.self.view_is)) first.followed).index
    c.in_ok-others.ensures.chosen

pub returns-clause-exact : goal.returns-clause-exact
returns-clause-exact c = λ d.
    subst (λ (m : EntriesByDest). Contains c.in_ok-others.others.items d ↔ (get (from_entries {R = dest_cmp} c.follow.new.self.entries) d ≢ get m d)) (ap (λ (w : InterValue). w.entries) c.self.view_is ∙ c.in_ok-dests.ensures.entries)
    (c.in_ok-others.ensures.exact d)
