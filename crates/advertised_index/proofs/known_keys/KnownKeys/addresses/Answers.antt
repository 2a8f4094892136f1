use Rattle.std.proofs.Common.{ℕ, Bool, List, sym, subst, ◌∙◌, ◌≡◌, rules}
use Rattle.std.specs.Prelude.{Contains}
use Rattle.std.specs.declared.ops.Bound.TheVariants.{Included}
use Rattle.std.specs.Ordering.{nat_cmp}
use Rattle.std.specs.BTreeMap.Range.{range_contains}
use Rattle.advertised_index.proofs.MemberLists.{picked, picked_from}
use Rattle.advertised_index.proofs.NotedGroups.{number_between, between_number}
use Rattle.advertised_index.proofs.known_keys.KnownKeys.addresses.Goals as goal

pub returns : goal.returns
returns c =
    let ends = c.new.result in
    let keys = c.args.self.now.addresses.keys in
    let test : ℕ → Bool = range_contains nat_cmp (Included ends.start) (Included ends.end) in
    let same : (a : ℕ) → test a ≡ range_contains nat_cmp (Included c.args.first) (Included c.args.last) a = λ a i. range_contains nat_cmp (Included (c.new.ensures.start i)) (Included (c.new.ensures.end i)) a in
    λ a. (
      λ has.
          let found = picked_from test keys a (subst (λ (ns : List ℕ). Contains ns a) (c.range.ensures.between (search rules)) has) in
          let parts = between_number c.args.first c.args.last a (sym (same a) ∙ found.1) in
          (found.0, parts.0, parts.1),
      λ w. subst (λ (ns : List ℕ). Contains ns a) (sym (c.range.ensures.between (search rules))) (picked test keys a w.0 (same a ∙ number_between c.args.first c.args.last a w.1 w.2)),
    )
