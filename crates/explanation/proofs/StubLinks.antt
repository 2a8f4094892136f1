-- The TOS entries of a stub link do not count.
use Rattle.std.proofs.Common.{◌≡◌, Bool, List, [], ◌∷◌, map, refl, ap}
use Rattle.std.specs.List.{filter_map, cons_option}
use Rattle.ospf_types.specs.declared.key.Scope.{Scope}
use Rattle.ospf_types.specs.declared.prefix.Prefix.{Prefix}
use Rattle.ospf_types.specs.Lsa.{Lsa, RouterLink}
use Rattle.lsa_codec.specs.Readers.{without_tos}
use Rattle.explanation.specs.Offers.{stub_if}

pub stubs_without_tos : (wanted : Prefix → Bool) (scope : Scope) (l : Lsa) (ks : List RouterLink) → filter_map (stub_if wanted scope l) (map without_tos ks) ≡ filter_map (λ (k : RouterLink). stub_if wanted scope l (without_tos k)) ks
stubs_without_tos wanted scope l [] = refl
stubs_without_tos wanted scope l (k ∷ ks) = ap (cons_option (stub_if wanted scope l (without_tos k))) (stubs_without_tos wanted scope l ks)
