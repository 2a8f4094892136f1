-- The members that a named range has, or had, belong to the range that was said.
use Rattle.std.proofs.Common.{◌≡◌, ℕ, List, Option, Some, sym, subst, ◌∙◌}
use Rattle.std.specs.Prelude.{◌↔◌, Contains}
use Rattle.ospf_types.specs.declared.prefix.Prefix.{Prefix}
use Rattle.intra.specs.Intras.{EntriesByPrefix}
use Rattle.active_ranges.specs.Active.{IsMemberWithin}
use Rattle.active_ranges.specs.declared.member.RangeMember.{RangeMember}

same_pair : (x y : ℕ × Prefix) → Some x ≡ Some y → x ≡ y
same_pair x y e = cc

pub all_of_named : (entries : EntriesByPrefix) (range : Option (ℕ × Prefix)) (named : ℕ × Prefix) → range ≡ Some named → (members : List RangeMember) → ((m : RangeMember) → Contains members m ↔ IsMemberWithin entries named.0 named.1 m)
    → (id : ℕ) (prefix : Prefix) → range ≡ Some (id, prefix) → (m : RangeMember) → IsMemberWithin entries id prefix m → Contains members m
all_of_named entries range named is members exact id prefix e m within =
    let said : ℕ × Prefix = (id, prefix) in
    let same : said ≡ named = same_pair said named (sym e ∙ is) in
    (exact m).1 (subst (λ (x : ℕ × Prefix). IsMemberWithin entries x.0 x.1 m) same within)
