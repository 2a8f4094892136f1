use Rattle.std.proofs.Common.{◌≢◌, List, sym, subst, rules}
use Rattle.std.specs.Prelude.{Contains}
use Rattle.std.specs.List.{AllPairs}
use Rattle.std.proofs.lemmas.List.Kept.{AllPairs-filter}
use Rattle.advertised_index.proofs.Groups.{Member, derived_cmp, derived_exact, derived_ties}
use Rattle.advertised_index.proofs.MemberLists.{ranged, ranged_from, within, apart_in_order}
use Rattle.advertised_index.proofs.lsas_by_key.between.Goals as goal

pub returns-clause-all : goal.returns-clause-all
returns-clause-all c =
    let ends = c.new.result in
    λ m there after before. subst (λ (ms : List Member). Contains ms m) (sym (c.range.ensures.between (search rules)))
    (ranged c.args.members.now.keys c.requires.small c.args.first.now c.args.last.now ends.start ends.end c.new.ensures.start c.new.ensures.end m there after before)

pub returns-clause-only : goal.returns-clause-only
returns-clause-only c =
    let ends = c.new.result in
    λ m there.
    let found = ranged_from c.args.members.now.keys c.args.first.now c.args.last.now ends.start ends.end c.new.ensures.start c.new.ensures.end m (subst (λ (ms : List Member). Contains ms m) (c.range.ensures.between (search rules)) there) in
    (found.0, found.1, found.2)

pub returns-clause-each_once : goal.returns-clause-each_once
returns-clause-each_once c =
    let ends = c.new.result in
    subst (λ (ms : List Member). AllPairs (λ m n. m ≢ n) ms) (sym (c.range.ensures.between (search rules)))
    (AllPairs-filter (λ m n. m ≢ n) (within ends.start ends.end) c.args.members.now.keys (apart_in_order derived_cmp derived_exact derived_ties c.args.members.now.keys c.range.ensures.ordered))
