-- The newest instance of an LSA is the result of its own instances, and none after it is newer.
use Rattle.std.proofs.Common.{arith, ◌≡◌, ◌∙◌, ℕ, Bool, true, false, cond, List, [], ◌∷◌, ◌++◌, map, Option, Some, None, Ok, Err, refl, ap, sym, subst}
use Rattle.std.specs.Prelude.{◌↔◌, is_none}
use Rattle.std.specs.List.{All, Contains, filter}
use Rattle.std.proofs.lemmas.List.{append_assoc, append-nil}
use Rattle.std.proofs.lemmas.List.Elements.{All-nil, All-push}
use Rattle.ospf_types.proofs.Elements.{no_element, first_element}
use Rattle.ospf_types.specs.declared.lsa.Header.{Header}
use Rattle.captured_lsas.specs.declared.name.LsaName.{LsaName}
use Rattle.lsa_codec.specs.Faults.{fault_of}
use Rattle.lsa_codec.specs.declared.fault.WireFault.{WireFault}
use Rattle.packets.specs.declared.fault.PacketFault.{PacketFault}
use Rattle.packets.specs.Packets.{packet_fault_of, area_field}
use Rattle.packets.specs.Updates.{UpdatePiece}
use Rattle.captured_lsas.specs.declared.options.Options.{Options}
use Rattle.captured_lsas.specs.Newest.{Instance, Newest, same_name, is_installed, newest_after, newest_from, newest_of, with_instance}
use Rattle.captured_lsas.specs.Progress.{CaptureProgress, start}
use Rattle.captured_lsas.specs.Seconds.{with_time}
use Rattle.captured_lsas.specs.Recording.{has_lsa, instance_in, with_noted, with_strange, with_read_lsa}
use Rattle.captured_lsas.specs.Updates.{with_piece, with_pieces}
use Rattle.captured_lsas.specs.Packets.{pieces_of_packet, with_read_packet, unless_faulty, with_packet}
use Rattle.captured_lsas.specs.History.{CapturedPayload, after_all, lsa_of_piece, lsas_of_pieces, lsas_of_payload, lsas_of, headers_of, IsNewestOf, IsNewest, HasHistory}
use Rattle.captured_lsas.proofs.Discarding.{newest_put}
use Rattle.captured_lsas.proofs.Timing.{timed}

-- ---- the instances of one LSA

-- one more comes, and is installed or discarded
one_more : (earlier later hs : List Header) (last h : Header) → hs ≡ earlier ++ last ∷ later → All (λ x. is_installed x last ≡ false) later
    → (b : Bool) → is_installed h last ≡ b → IsNewestOf (hs ++ h ∷ []) (cond b h last)
one_more earlier later hs last h whole behind true is = record { earlier = hs; later = []; whole = refl; discarded = All-nil (λ (x : Header). is_installed x h ≡ false) }
one_more earlier later hs last h whole behind false is = record {
  earlier = earlier;
  later = later ++ h ∷ [];
  whole = ap (λ (xs : List Header). xs ++ h ∷ []) whole ∙ append_assoc earlier (last ∷ later) (h ∷ []);
  discarded = All-push (λ (x : Header). is_installed x last ≡ false) later h behind is;
}

newest_one : (hs : List Header) (o : Option Header) (h : Header) → IsNewest hs o → IsNewest (hs ++ h ∷ []) (Some (newest_after h o))
newest_one hs None h n = record { earlier = hs; later = []; whole = refl; discarded = All-nil (λ (x : Header). is_installed x h ≡ false) }
newest_one hs (Some last) h n = one_more n.earlier n.later hs last h n.whole n.discarded (is_installed h last) refl

newest_more : (hs more : List Header) (o : Option Header) → IsNewest hs o → IsNewest (hs ++ more) (newest_from o more)
newest_more hs [] o n = subst (λ (xs : List Header). IsNewest xs o) (sym (append-nil hs)) n
newest_more hs (h ∷ more) o n =
    subst (λ (xs : List Header). IsNewest xs (newest_from (Some (newest_after h o)) more)) (append_assoc hs (h ∷ []) more)
    (newest_more (hs ++ h ∷ []) more (Some (newest_after h o)) (newest_one hs o h n))

-- ---- of a list of LSAs

-- the newest ones after these LSAs
abbrev all_noted : Newest → List Instance → Newest
all_noted all [] = all
all_noted all (x ∷ xs) = all_noted (with_instance x all) xs

all_then : (all : Newest) (xs ys : List Instance) → all_noted (all_noted all xs) ys ≡ all_noted all (xs ++ ys)
all_then all [] ys = refl
all_then all (x ∷ xs) ys = all_then (with_instance x all) xs ys

-- that of one LSA is what its own instances come to
newest_of_all : (name : LsaName) (all : Newest) (xs : List Instance) → newest_of name (all_noted all xs) ≡ newest_from (newest_of name all) (headers_of name xs)
newest_of_all name all [] = refl
newest_of_all name all (x ∷ xs) =
    newest_of_all name (with_instance x all) xs
    ∙ ap (λ (o : Option Header). newest_from o (headers_of name xs)) (newest_put name x all)
    ∙ by (same_name name x.name)
  where
    by : (b : Bool) → newest_from (cond b (Some (newest_after x.header (newest_of name all))) (newest_of name all)) (headers_of name xs)
        ≡ newest_from (newest_of name all) (map (λ (one : Instance). one.header) (cond b (x ∷ filter (λ (one : Instance). same_name name one.name) xs) (filter (λ (one : Instance). same_name name one.name) xs)))
    by true = refl
    by false = refl

-- if there was an LSA
abbrev begun_by : Bool → List Instance → Bool
begun_by was [] = was
begun_by was (x ∷ xs) = true

begun_then : (was : Bool) (xs ys : List Instance) → begun_by (begun_by was xs) ys ≡ begun_by was (xs ++ ys)
begun_then was [] ys = refl
begun_then was (x ∷ xs) [] = refl
begun_then was (x ∷ xs) (y ∷ ys) = refl

begun_is : (lsas : List Instance) → (begun_by false lsas ≡ true) ↔ ((g : Instance) × Contains lsas g)
begun_is [] = (λ b. absurd cc, λ c. absurd (no_element c.0 c.1))
begun_is (x ∷ xs) = (λ b. (x, first_element x xs), λ c. refl)

-- ---- of packets

-- from one progress to a later one, these LSAs were taken
record Adds (p q : CaptureProgress) (lsas : List Instance) : Type 0 where
  pub options_stay : q.options ≡ p.options
  pub areas_stay : q.areas ≡ p.areas
  pub newest : p.options.keeps_all ≡ false → q.newest ≡ all_noted p.newest lsas
  pub begun : q.has_begun ≡ begun_by p.has_begun lsas

adds_none : (p : CaptureProgress) → Adds p p []
adds_none p = record { options_stay = refl; areas_stay = refl; newest = λ keep. refl; begun = refl }

adds_then : (p q r : CaptureProgress) (xs ys : List Instance) → Adds p q xs → Adds q r ys → Adds p r (xs ++ ys)
adds_then p q r xs ys a b = record {
  options_stay = b.options_stay ∙ a.options_stay;
  areas_stay = b.areas_stay ∙ a.areas_stay;
  newest = λ keep.
      b.newest (ap (λ (o : Options). o.keeps_all) a.options_stay ∙ keep) ∙ ap (λ (all : Newest). all_noted all ys) (a.newest keep) ∙ all_then p.newest xs ys;
  begun = b.begun ∙ ap (λ (was : Bool). begun_by was ys) a.begun ∙ begun_then p.has_begun xs ys;
}

lsa_by : (p : CaptureProgress) (area : ℕ) (bytes : List ℕ) (has : Bool)
    → Adds p (cond has (with_noted p (instance_in area bytes)) (with_strange p area)) (cond has (instance_in area bytes ∷ []) [])
lsa_by p area bytes true = record {
  options_stay = refl;
  areas_stay = refl;
  newest = λ keep. ap (λ (b : Bool). cond b p.newest (with_instance (instance_in area bytes) p.newest)) keep;
  begun = refl;
}
lsa_by p area bytes false = record { options_stay = refl; areas_stay = refl; newest = λ keep. refl; begun = refl }

bytes_by : (p : CaptureProgress) (area : ℕ) (bytes : List ℕ) (o : Option WireFault) → Adds p (cond (is_none o) (with_read_lsa p area bytes) p) (cond (is_none o) (cond (has_lsa p.areas area bytes) (instance_in area bytes ∷ []) []) [])
bytes_by p area bytes None = lsa_by p area bytes (has_lsa p.areas area bytes)
bytes_by p area bytes (Some fault) = adds_none p

piece_adds : (p : CaptureProgress) (area : ℕ) (piece : UpdatePiece) → Adds p (with_piece p area piece) (lsa_of_piece p.areas area piece)
piece_adds p area (Ok bytes) = bytes_by p area bytes (fault_of bytes)
piece_adds p area (Err fault) = adds_none p

pieces_add : (p : CaptureProgress) (area : ℕ) (pieces : List UpdatePiece) → Adds p (with_pieces p area pieces) (lsas_of_pieces p.areas area pieces)
unfolding with_pieces
pieces_add p area [] = adds_none p
pieces_add p area (x ∷ xs) =
    let q = with_piece p area x in
    let first = piece_adds p area x in
    adds_then p q (with_pieces q area xs) (lsa_of_piece p.areas area x) (lsas_of_pieces p.areas area xs) first
    (subst (λ (areas : Option (List ℕ)). Adds q (with_pieces q area xs) (lsas_of_pieces areas area xs)) first.areas_stay (pieces_add q area xs))

packet_by : (p : CaptureProgress) (time : Option ℕ) (payload : List ℕ) (o : Option PacketFault)
    → Adds p (unless_faulty o p (with_read_packet p time payload)) (cond (is_none o) (lsas_of_pieces p.areas (area_field payload) (pieces_of_packet payload)) [])
packet_by p time payload None =
    let a = pieces_add (with_time p time) (area_field payload) (pieces_of_packet payload) in
    record { options_stay = a.options_stay; areas_stay = a.areas_stay; newest = a.newest; begun = a.begun }
packet_by p time payload (Some fault) = adds_none p

all_add : (p : CaptureProgress) (packets : List CapturedPayload) → Adds p (after_all p packets) (lsas_of p.areas packets)
unfolding after_all
all_add p [] = adds_none p
all_add p (x ∷ xs) =
    let q = with_packet p x.time x.payload in
    let first = packet_by p x.time x.payload (packet_fault_of x.payload) in
    adds_then p q (after_all q xs) (lsas_of_payload p.areas x.payload) (lsas_of p.areas xs) first
    (subst (λ (areas : Option (List ℕ)). Adds q (after_all q xs) (lsas_of areas xs)) first.areas_stay (all_add q xs))

pub history_of : (options : Options) (areas : Option (List ℕ)) → HasHistory options areas (start options areas)
history_of options areas packets =
    let a = all_add (start options areas) packets in
    let begun = begun_is (lsas_of areas packets) in
    record {
      options_stay = a.options_stay;
      areas_stay = a.areas_stay;
      newest = λ keep name. ap (newest_of name) (a.newest keep) ∙ newest_of_all name [] (lsas_of areas packets);
      behind = λ name. newest_more [] (headers_of name (lsas_of areas packets)) None refl;
      time = λ small. let all = timed (start options areas) packets (omega (arith, small)) in omega (arith, all);
      begun = (λ b. begun.0 (sym a.begun ∙ b), λ c. a.begun ∙ begun.1 c);
    }
