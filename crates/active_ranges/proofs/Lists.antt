-- The results of tests of prefixes and of maps.
use Rattle.std.proofs.Common.{◌≡◌, ◌≢◌, ℕ, Bool, true, false, not, List, [], ◌∷◌, length, Option, Some, None, Vec, vec_len, ◌==◌, refl, sym, ap, ◌∙◌}
use Rattle.std.specs.Prelude.{◌↔◌, Contains, IsTrue, is_some}
use Rattle.ospf_types.specs.declared.prefix.Prefix.{Prefix}
use Rattle.ospf_types.proofs.Elements.{first_element}
use Rattle.ospf_types.proofs.KeyOrders.{prefixes_equal, prefixes_decided}
use Rattle.active_ranges.specs.Grouped.{RangeNetworksValue}

pub are_apart : (p q : Prefix) (b : Bool) → b ≡ not (prefixes_equal p q) → b ≡ true → p ≢ q
are_apart p q b is differ same = absurd (let wrong : true ≡ false = sym differ ∙ is ∙ ap not ((prefixes_decided p q).1 same) in cc)

so_if : (b : Bool) → not b ≡ false → b ≡ true
so_if true is = refl
so_if false is = absurd cc

pub are_one : (p q : Prefix) (b : Bool) → b ≡ not (prefixes_equal p q) → b ≡ false → p ≡ q
are_one p q b is alike = (prefixes_decided p q).0 (so_if (prefixes_equal p q) (sym is ∙ alike))

module _ (networks : RangeNetworksValue) (b : Bool) (tells : IsTrue b ↔ (networks.entries ≡ [])) where
  pub no_entries : b ≡ true → networks.entries ≡ []
  no_entries is = tells.0 is

  pub some_entries : b ≡ false → networks.entries ≢ []
  some_entries is none = let t : b ≡ true = tells.1 none in let wrong : true ≡ false = sym t ∙ is in cc

-- a lookup that finds nothing
pub nothing_there : {A : Type 0} (o : Option A) → is_some o ≡ false → o ≡ None
nothing_there None none = refl
nothing_there (Some x) none = absurd (let wrong : true ≡ false = none in cc)

pub no_value : {A : Type 0} (o : Option A) → ((x : A) → o ≡ Some x → ⊥) → o ≡ None
no_value None none = refl
no_value (Some x) none = absurd (none x refl)

-- a list that is not empty has a first
first_there : {A : Type 0} (xs : List A) (n : ℕ) → length xs ≡ n → (n == 0) ≡ false → (x : A) × Contains xs x
first_there {A = A} [] n is some = absurd (let wrong : true ≡ false = ap (λ (k : ℕ). k == 0) is ∙ some in cc)
first_there (x ∷ xs) n is some = (x, first_element x xs)

pub first_of : {A B : Type 0} (v : Vec A B) → (vec_len v == 0) ≡ false → (x : A) × Contains v.items x
first_of v some = first_there v.items (vec_len v) (sym v.ok.0) some
