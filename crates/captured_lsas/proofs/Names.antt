-- The derived equality of names, in the terms of the definitions; names that are alike are the
-- same.
use Rattle.std.proofs.Common.{◌≡◌, ◌&&◌, ℕ, Bool, true, false, refl, ap}
use Rattle.std.proofs.lemmas.Bool.{eqb-true, eq-eqb}
use Rattle.ospf_types.specs.contracts.key.ScopePartialEq.TheImpl as scope_equality
use Rattle.ospf_types.specs.declared.key.Key.{Key}
use Rattle.ospf_types.specs.declared.key.Scope.{Scope}
use Rattle.ospf_types.specs.declared.key.Scope.TheVariants.{Area, As}
use Rattle.captured_lsas.specs.contracts.name.LsaNamePartialEq.TheImpl as derived_equality
use Rattle.captured_lsas.specs.declared.name.LsaName.{LsaName}
use Rattle.captured_lsas.specs.Newest.{same_scope, same_key, same_name}

abbrev pub alike : LsaName → LsaName → Bool
alike = (derived_equality.eq-value).it

scopes : (s t : Scope) → (scope_equality.eq-value).it s t ≡ same_scope s t
scopes (Area a) (Area b) = refl
scopes (Area a) As = refl
scopes As (Area b) = refl
scopes As As = refl

names_alike : (a b : LsaName) → alike a b ≡ same_name a b
names_alike a b = ap (λ (x : Bool). x && same_key a.key b.key) (scopes a.scope b.scope)

pub names : alike ≡ same_name
names = λ i a b. names_alike a b i

pub both : (a b : Bool) → (a && b) ≡ true → (a ≡ true) × (b ≡ true)
both true true is = (refl, refl)
both true false is = absurd cc
both false b is = absurd cc

scopes_same : (s t : Scope) → same_scope s t ≡ true → s ≡ t
scopes_same (Area a) (Area b) is = ap (λ (n : ℕ). Area n) (eqb-true a b is)
scopes_same (Area a) As is = absurd cc
scopes_same As (Area b) is = absurd cc
scopes_same As As is = refl

keys_same : (a b : Key) → same_key a b ≡ true → a ≡ b
keys_same a b is =
    let first = both _ _ is in
    let second = both _ _ first.1 in
    let kinds = eqb-true a.kind b.kind first.0 in
    let ids = eqb-true a.id b.id second.0 in
    let routers = eqb-true a.router b.router second.1 in
    λ i. record { kind = kinds i; id = ids i; router = routers i }

pub names_same : (a b : LsaName) → same_name a b ≡ true → a ≡ b
names_same a b is =
    let parts = both _ _ is in
    let scope = scopes_same a.scope b.scope parts.0 in
    let key = keys_same a.key b.key parts.1 in
    λ i. record { scope = scope i; key = key i }

scope_itself : (s : Scope) → same_scope s s ≡ true
scope_itself (Area a) = eq-eqb a a refl
scope_itself As = refl

pub key_itself : (k : Key) → same_key k k ≡ true
key_itself k = rw (eq-eqb k.kind k.kind refl) (rw (eq-eqb k.id k.id refl) (eq-eqb k.router k.router refl))

pub name_itself : (n : LsaName) → same_name n n ≡ true
name_itself n = rw (scope_itself n.scope) (key_itself n.key)
