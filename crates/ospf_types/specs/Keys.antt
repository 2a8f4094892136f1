-- The order of keys.
use Rattle.std.specs.Prelude.{ℕ, ◌+◌, ◌*◌, ◌^◌, refl}
use Rattle.std.specs.Ordering.{nat_cmp, ordering_then}
use Rattle.std.specs.Coded.{Coded, code_by, coded×, coded_ℕ}
use Rattle.std.specs.declared.cmp.Ordering.{Ordering}
use Rattle.std.specs.declared.cmp.Ordering.TheVariants.{Less, Greater}
use Rattle.ospf_types.specs.declared.key.Dest.{Dest}
use Rattle.ospf_types.specs.declared.key.Dest.TheVariants.{Net, Router}
use Rattle.ospf_types.specs.declared.key.Key.{Key}
use Rattle.ospf_types.specs.declared.key.Scope.{Scope}
use Rattle.ospf_types.specs.declared.key.Scope.TheVariants.{Area, As}
use Rattle.ospf_types.specs.Network.{network_cmp, network_word}

-- by LS type, then Link State ID, then Advertising Router
abbrev pub key_cmp : Key → Key → Ordering
key_cmp a b = ordering_then (nat_cmp a.kind b.kind) (ordering_then (nat_cmp a.id b.id) (nat_cmp a.router b.router))

-- a key, coded as three numbers
abbrev pub key_code : Coded Key
key_code =
    code_by (ℕ × (ℕ × ℕ)) (coded× coded_ℕ (coded× coded_ℕ coded_ℕ)) (λ k. (k.kind, (k.id, k.router))) (λ p. record { kind = p.0; id = p.1.0; router = p.1.1 }) (λ _. refl)

-- a number of its own for each Link State ID and Advertising Router
abbrev pub key_word : Key → ℕ
key_word k = k.id * 2 ^ 32 + k.router

-- areas first, in the order of their IDs
abbrev pub scope_rank : Scope → ℕ × ℕ
scope_rank (Area id) = (0, id)
scope_rank As = (1, 0)

abbrev pub scope_cmp : Scope → Scope → Ordering
scope_cmp a b = ordering_then (nat_cmp (scope_rank a).0 (scope_rank b).0) (nat_cmp (scope_rank a).1 (scope_rank b).1)

-- networks first, each kind in its order
abbrev pub dest_cmp : Dest → Dest → Ordering
dest_cmp (Net p) (Net q) = network_cmp p q
dest_cmp (Net p) (Router s) = Less
dest_cmp (Router r) (Net q) = Greater
dest_cmp (Router r) (Router s) = nat_cmp r s

-- a number of its own for each destination: those of routers above those of networks
abbrev pub dest_word : Dest → ℕ
dest_word (Net p) = network_word p
dest_word (Router r) = 2 ^ 40 + r
