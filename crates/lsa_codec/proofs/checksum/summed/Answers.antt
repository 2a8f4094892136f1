use Rattle.std.proofs.Common.{◌≡◌, ◌++◌, sym, ◌∙◌, length, arith}
use Rattle.std.proofs.lemmas.List.{take-append-drop}
use Rattle.std.proofs.lemmas.Bool.{eqb-true}
use Rattle.lsa_codec.proofs.Checksums.{plain_step, weighted_step, plain_end, weighted_end}
use Rattle.lsa_codec.proofs.checksum.summed.Goals as goal

pub loop-rest-preserved : goal.loop-rest-preserved
loop-rest-preserved c =
    let joined : c.loop-rest.rest.now ≡ c.split_at.result.0.now ++ c.split_at.result.1.now = rw (c.split_at.ensures.front, c.split_at.ensures.back) (sym (take-append-drop c.min.result c.loop-rest.rest.now)) in
    record {
      plain = rw (c.reduced-sums.ensures.plain, c.added.ensures.plain) (plain_step c.loop-rest.sums.plain c.loop-rest.rest.now c.split_at.result.0.now c.split_at.result.1.now _ joined c.loop-rest.invariant.plain);
      weighted = rw (c.reduced-sums.ensures.weighted, c.reduced-sums.ensures.plain, c.added.ensures.weighted, c.added.ensures.plain) (weighted_step c.loop-rest.sums.plain c.loop-rest.sums.weighted c.loop-rest.rest.now c.split_at.result.0.now c.split_at.result.1.now _ joined c.loop-rest.invariant.weighted);
      plain_bound = omega (arith, c.reduced-sums.ensures.plain);
      weighted_bound = omega (arith, c.reduced-sums.ensures.weighted);
    }

pub returns : goal.returns
returns c =
    let none : length c.loop-rest.rest.now ≡ 0 = eqb-true _ _ (sym c.is_empty.ensures ∙ c.loop-rest-test.false) in
    record {
      plain = plain_end c.loop-rest.sums.plain c.loop-rest.rest.now _ none c.loop-rest.invariant.plain_bound c.loop-rest.invariant.plain;
      weighted = weighted_end c.loop-rest.sums.plain c.loop-rest.sums.weighted c.loop-rest.rest.now _ none c.loop-rest.invariant.weighted_bound c.loop-rest.invariant.weighted;
    }
