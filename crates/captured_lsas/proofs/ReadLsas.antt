-- An LSA that was read is the instance that its bytes are.
use Rattle.std.proofs.Common.{◌≡◌, ◌∙◌, ℕ, Bool, List, ap, sym}
use Rattle.ospf_types.specs.declared.key.Key.{Key}
use Rattle.ospf_types.specs.declared.key.Scope.{Scope}
use Rattle.ospf_types.specs.Lsa.{Lsa, key_of}
use Rattle.ospf_types.specs.declared.lsa.Header.{Header}
use Rattle.lsa_codec.specs.Decoding.{header_of, lsa_of}
use Rattle.lsa_codec.proofs.Again.{spelled_same}
use Rattle.captured_lsas.specs.declared.name.LsaName.{LsaName}
use Rattle.captured_lsas.specs.Newest.{Instance, is_max_age}
use Rattle.captured_lsas.specs.Reading.{IsLsaInBytes}
use Rattle.captured_lsas.specs.Recording.{scope_of, key_in, instance_in}

read_key : (bytes : List ℕ) (lsa : Lsa) → IsLsaInBytes bytes lsa → key_of lsa ≡ key_in bytes
unfolding lsa_of
read_key bytes lsa read = ap key_of (sym (spelled_same bytes lsa read.spelled))

pub read_header : (bytes : List ℕ) (lsa : Lsa) → IsLsaInBytes bytes lsa → lsa.header ≡ header_of bytes
unfolding lsa_of
read_header bytes lsa read = ap (λ (l : Lsa). l.header) (sym (spelled_same bytes lsa read.spelled))

pub read_instance : (area : ℕ) (bytes : List ℕ) (lsa : Lsa) → IsLsaInBytes bytes lsa → (scope : Scope) (key : Key) (header : Header) → scope ≡ scope_of area bytes → key ≡ key_of lsa → header ≡ lsa.header
    → (let x : Instance = record { name = (let n : LsaName = record { scope = scope; key = key } in n); header = header } in x) ≡ instance_in area bytes
read_instance area bytes lsa read scope key header scope_is key_is header_is =
    let keys = key_is ∙ read_key bytes lsa read in
    let headers = header_is ∙ read_header bytes lsa read in
    λ i. record { name = record { scope = scope_is i; key = keys i }; header = headers i }

pub read_age : (bytes : List ℕ) (lsa : Lsa) → IsLsaInBytes bytes lsa → (header : Header) → header ≡ lsa.header → (b : Bool) → b ≡ is_max_age header → b ≡ is_max_age (header_of bytes)
read_age bytes lsa read header header_is b is = is ∙ ap is_max_age (header_is ∙ read_header bytes lsa read)
