use Rattle.std.proofs.Common.{◌≡◌, Bor, Option, Some, None, ap, sym, subst, ◌∙◌}
use Rattle.std.specs.Prelude.{option_copied}
use Rattle.ospf_types.specs.declared.entry.Entry.{Entry}
use Rattle.explanation.specs.Judging.{IsGreatestId}
use Rattle.explanation.proofs.Rivals.{some_same}
use Rattle.explanation.proofs.layers.Layers.rivals.Goals as goal
use Rattle.explanation.proofs.layers.Layers.rivals.Goals.{in-Some, in-None}

pub returns : goal.returns
returns c = record {
  internal_is = c.internal-internal.ensures.value;
  greatest_is = λ e is. elim c.match-internal.branch [
    | in-Some w ↦
        let same = some_same w.in-Some.entry.now e (ap (λ (o : Option (Bor Entry)). option_copied o) (sym w.in-Some.is) ∙ is) in
        subst (λ (x : Entry). IsGreatestId c.args.self x c.args.offers.now c.match-internal.result) same
        (subst (IsGreatestId c.args.self w.in-Some.entry.now c.args.offers.now) (sym w.result-is) w.greatest_id.ensures)
    | in-None w ↦ let wrong : None ≡ Some e = ap (λ (o : Option (Bor Entry)). option_copied o) (sym w.in-None.is) ∙ is in absurd cc
  ];
  least_is = c.least_key.ensures;
}
