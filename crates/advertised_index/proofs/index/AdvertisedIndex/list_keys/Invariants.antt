use Rattle.std.proofs.Common.{◌≡◌, ◌++◌, map}
use Rattle.advertised_index.proofs.Groups.{Member}
use Rattle.advertised_index.proofs.index.AdvertisedIndex.list_keys.Given as goal

abbrev pub invariant-loop-key : goal.invariant-loop-key
invariant-loop-key l = l.keys.items ++ map (λ (m : Member). m.1) l.key-iterator ≡ l.initial.keys.items ++ map (λ (m : Member). m.1) l.initial.key-iterator
