use Rattle.std.specs.FinMap as map
use Rattle.ospf_types.specs.declared.key.Scope.TheVariants.{Area}
use Rattle.ospf_types.specs.Lsa.{key_of}
use Rattle.test_core.proofs.FirstLsas.{index_of_nothing, differs_first}
use Rattle.test_core.proofs.offers.summary.Goals as goal

pub follow-requires : goal.follow-requires
follow-requires c =
    let lsa = c.in_ok-lsa.lsa in
    record {
      before = (map.empty, index_of_nothing 1 (Area 0) c.new-index.result c.new-index.ensures, differs_first (Area 0) c.in_ok-database.database.lsas (key_of lsa) c.key-key.result lsa c.in_ok-database.ensures c.key-key.ensures.value);
    }
