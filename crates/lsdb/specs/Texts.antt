-- The printed text of a database's refusals: the number and the name that the refused event has.
use Rattle.std.specs.Prelude.{ℕ, List, codes}
use Rattle.lsdb.specs.declared.refusal.InstallRefusal.{InstallRefusal}
use Rattle.lsdb.specs.declared.refusal.InstallRefusal.TheVariants as install_refusal
use Rattle.lsdb.specs.declared.refusal.PurgeRefusal.{PurgeRefusal}
use Rattle.lsdb.specs.declared.refusal.PurgeRefusal.TheVariants as purge_refusal

abbrev pub install_refusal_text : InstallRefusal → List ℕ
install_refusal_text install_refusal.Older = codes "22 Older"
install_refusal_text install_refusal.Same = codes "23 Same"
install_refusal_text install_refusal.Full = codes "27 Full"
install_refusal_text install_refusal.Memory = codes "30 Memory"

abbrev pub no_lsa_text : List ℕ
no_lsa_text = codes "24 NoLsa"

abbrev pub purge_refusal_text : PurgeRefusal → List ℕ
purge_refusal_text purge_refusal.NoLsa = no_lsa_text
purge_refusal_text purge_refusal.NotMaxAge = codes "26 NotMaxAge"
