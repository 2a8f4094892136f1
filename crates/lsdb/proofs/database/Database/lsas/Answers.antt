use Rattle.std.proofs.Common.{◌≡◌, List, sym, ap, subst, ◌∙◌}
use Rattle.std.specs.FinMap.{get, values}
use Rattle.std.specs.List.{filter_map}
use Rattle.std.specs.List.Sorted.{IsPermutation}
use Rattle.std.specs.Map.{keys_of}
use Rattle.ospf_types.specs.declared.key.Key.{Key}
use Rattle.lsdb.specs.Databases.{DatabaseValue}
use Rattle.lsdb.proofs.Finding.{if_ok}
use Rattle.lsdb.proofs.Sorting.{found_in_order}
use Rattle.lsdb.proofs.database.Database.lsas.Goals as goal

pub returns : goal.returns
returns c =
    let i = c.self.inside in
    let were : c.in_ok-keys.keys.items ≡ keys_of i.rows.entries = c.in_ok-keys.ensures.items ∙ c.as_slice.ensures ∙ c.keys.ensures.rest in
    let same : IsPermutation (keys_of i.rows.entries) c.sort_unstable.new.self.items = subst (λ (ks : List Key). IsPermutation ks c.sort_unstable.new.self.items) were c.sort_unstable.ensures.permutation in
    let all = found_in_order c.self.invariant c.sort_unstable.new.self.items same c.sort_unstable.ensures.sorted in
    let here = ap (λ (d : DatabaseValue). filter_map (get d.lsas) c.sort_unstable.new.self.items) (sym c.self.view_is) ∙ all ∙ ap (λ (d : DatabaseValue). values d.lsas) c.self.view_is in
    if_ok c.copies.result (filter_map (get c.args.self.now.lsas) c.deref.result.now) (values c.args.self.now.lsas) (ap (filter_map (get c.args.self.now.lsas)) c.deref.ensures.value ∙ here) c.copies.ensures
