use Rattle.std.proofs.Common.{◌≡◌, List, None, Some, refl, subst, ◌∙◌}
use Rattle.ospf_types.specs.declared.entry.Entry.{Entry}
use Rattle.ospf_types.specs.declared.hop.Path.{Path}
use Rattle.explanation.specs.Outside.{AreTraces}
use Rattle.explanation.proofs.Rivals.{some_same}
use Rattle.explanation.proofs.layers.Layers.traces_if.Goals as goal

pub returns : goal.returns
returns c =
    let w = c.args.self in
    let o = c.args.offer.now in
    let entry = c.in-Some.entry.now in
    let traces = c.in_ok-traces.traces.items in
    let are = subst (λ (paths : List Path). AreTraces w o paths traces) c.as_slice.ensures.value c.in_ok-traces.ensures in record {
      taken = λ taken e is. subst (λ (x : Entry). AreTraces w o x.paths traces) (some_same entry e (c.in-Some.ensures ∙ is)) are;
      no_route = λ none. let wrong : Some entry ≡ None = c.in-Some.ensures ∙ none in absurd cc;
      lost = λ other. absurd (other (c.if-not-is_taken.ensures.0 refl));
    }
