-- Areas stay, and the entries are chosen by them.
use Rattle.std.proofs.Common.{List, ap, subst}
use Rattle.std.specs.FinMap.{get, from_entries}
use Rattle.ospf_types.specs.declared.key.Dest.TheVariants.{Net}
use Rattle.ospf_types.specs.Network.{network_cmp}
use Rattle.route_choice.specs.Chosen.{AreRechosen}
use Rattle.intra.specs.ChosenAnew.{IsEntryBy}
use Rattle.intra.specs.Intras.{AreaIntraValue, EntriesByPrefix, IntraValue}
use Rattle.intra.proofs.intra.Intra.update_entries.Goals as goal

pub returns : goal.returns
returns c =
    let v = c.args.inputs.now in
    let old : EntriesByPrefix = from_entries c.self.inside.entries.entries in
    let new : EntriesByPrefix = from_entries c.choose_each.new.self.entries in
    record {
      areas = ap (λ (w : IntraValue). w.areas) c.self.view_is;
      spent = ap (λ (w : IntraValue). w.spent) c.self.view_is;
      entries = subst (λ (w : IntraValue). AreRechosen network_cmp (IsEntryBy v w.areas) Net (get w.entries) (get new) c.args.prefixes.now c.choose_each.new.told.items) c.self.view_is
          (subst (λ (areas : List AreaIntraValue). AreRechosen network_cmp (IsEntryBy v areas) Net (get old) (get new) c.args.prefixes.now c.choose_each.new.told.items) c.as_slice.ensures.value c.in_ok-choose_each.ensures);
    }
