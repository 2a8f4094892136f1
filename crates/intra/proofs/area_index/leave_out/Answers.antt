use Rattle.std.proofs.Common.{◌≡◌, ◌≢◌, List, rules, sym, subst}
use Rattle.std.specs.List.{AllPairs, filter}
use Rattle.std.proofs.lemmas.List.Kept.{AllPairs-filter}
use Rattle.intra.specs.declared.area_index.PrefixSource.{PrefixSource}
use Rattle.intra.proofs.SourceLists.{is_of_another, left_out, retained}
use Rattle.intra.proofs.area_index.leave_out.Goals as goal

pub returns-clause-left : goal.returns-clause-left
returns-clause-left c =
    left_out c.args.vertex c.args.sources.now.items c.retain.new.self.items
    (retained _ (is_of_another c.args.vertex) _ (λ x b f y h. (search rules, search rules, search rules)) _ _ c.retain.ensures.filtered)

pub returns-clause-each_once : goal.returns-clause-each_once
returns-clause-each_once c =
    let had = c.args.sources.now.items in
    let kept : c.retain.new.self.items ≡ filter (is_of_another c.args.vertex) had = retained _ (is_of_another c.args.vertex) _ (λ x b f y h. (search rules, search rules, search rules)) _ _ c.retain.ensures.filtered in
    λ apart. subst (λ (xs : List PrefixSource). AllPairs (λ a b. a ≢ b) xs) (sym kept) (AllPairs-filter (λ a b. a ≢ b) (is_of_another c.args.vertex) had apart)
