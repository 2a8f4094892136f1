-- One prefix more.
use Rattle.std.proofs.Common.{List, map, ap, subst, refl}
use Rattle.std.specs.List.{Contains}
use Rattle.ospf_types.proofs.Elements.{no_element}
use Rattle.active_ranges.specs.declared.active.Noted.{Noted}
use Rattle.active_ranges.proofs.Turning.{listed_more, noted_more}
use Rattle.active_ranges.proofs.active.ActiveRanges.noted.Goals as goal

pub loop-prefix-init : goal.loop-prefix-init
loop-prefix-init c = record {
  listed = ap (λ (ns : List Noted). map (λ (n : Noted). n.prefix) ns) c.new-noted.ensures.items;
  exact = λ n there. absurd (no_element n (subst (λ (ns : List Noted). Contains ns n) c.new-noted.ensures.items there));
}

pub loop-prefix-preserved : goal.loop-prefix-preserved
loop-prefix-preserved c =
    let p = c.prefix-item.result in
    let n : Noted = record { prefix = p; active = c.contains.result } in
    let before = c.loop-prefix.noted.items in
    let after = c.push.new.self.items in
    record {
      listed = listed_more c.args.prefixes.now c.loop-prefix.prefix-index p before after n c.loop-prefix-test.true c.prefix-item.is c.in_ok-push.ensures.items refl c.loop-prefix.invariant.listed;
      exact = noted_more c.args.self.now before after n c.in_ok-push.ensures.items c.contains.ensures c.loop-prefix.invariant.exact;
    }
