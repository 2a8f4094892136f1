-- The equality of keys that `==` tests, and the one by their order.
use Rattle.std.proofs.Common.{◌≡◌, ℕ, Bool, true}
use Rattle.std.specs.Prelude.{◌==◌, ◌&&◌}
use Rattle.std.specs.Ordering.{nat_cmp, is_eq, ordering_then}
use Rattle.std.specs.Cmp.{IsEquivalence, eq_by_cmp_equiv, both_tied, unsigned_ties}
use Rattle.std.proofs.lemmas.Map.Views.{tells_apart}
use Rattle.ospf_types.specs.declared.key.Key.{Key}
use Rattle.ospf_types.specs.contracts.key.KeyPartialEq.TheImpl as derived_equality
use Rattle.ospf_types.proofs.Orders.{key_total, key_exact}
use Rattle.lsdb.specs.Columns.{is_key}

abbrev pub equals : Key → Key → Bool
equals = (derived_equality.eq-value).it

number_tied : (m n : ℕ) → (m == n) ≡ is_eq (nat_cmp m n)
number_tied = unsigned_ties

pub equals_is : (a b : Key) → equals a b ≡ is_key a b
equals_is a b =
    both_tied (a.kind == b.kind) ((a.id == b.id) && (a.router == b.router)) (nat_cmp a.kind b.kind) (ordering_then (nat_cmp a.id b.id) (nat_cmp a.router b.router))
    (number_tied a.kind b.kind) (both_tied (a.id == b.id) (a.router == b.router) (nat_cmp a.id b.id) (nat_cmp a.router b.router) (number_tied a.id b.id) (number_tied a.router b.router))

pub equals_key : (a : Key) → equals a ≡ is_key a
equals_key a i b = equals_is a b i

pub equals_all : equals ≡ is_key
equals_all i a = equals_key a i

pub key_laws : IsEquivalence is_key
key_laws = eq_by_cmp_equiv key_total

pub key_same : (a b : Key) → is_key a b ≡ true → a ≡ b
key_same = tells_apart key_exact
