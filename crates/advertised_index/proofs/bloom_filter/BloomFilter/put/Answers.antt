use Rattle.std.proofs.Common.{◌<◌, arith}
use Rattle.advertised_index.specs.BloomFilter.{place_of}
use Rattle.advertised_index.proofs.Marking.{still_marked}
use Rattle.advertised_index.proofs.bloom_filter.BloomFilter.put.Goals as goal

pub returns-clause-kept : goal.returns-clause-kept
returns-clause-kept c = λ n was.
    let old = c.args.self.now in
    let all = c.resize.new.self in
    let small : place_of old n < 4096 = omega arith in
    still_marked old.marks.items all.items c.place-place.result (place_of old n) (omega (arith, c.place-place.ensures.bounded, c.in_ok-resize.ensures.len, all.ok.0)) small
    (λ k d below there. c.resize.ensures.by_index.0 k d below (omega (arith, there, old.marks.ok.0))) was
